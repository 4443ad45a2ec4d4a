-- A receiving call while a block is on the line: the bits go by, or they are the last of the block. Assumes nothing.
use mathlib.Core.Path.{◌≡◌, refl, ap, ap₂, sym, ◌∙◌, subst, subst₂}
use mathlib.Core.Logic.{◌⊎◌, inl, inr, ⊎_elim}
use mathlib.Core.Bool.{Bool, true, false, cond, ◌&&◌, ◌||◌, false≢true, or_self}
use mathlib.Core.List.{List, [], ◌∷◌, ◌++◌, append_assoc, append-nil}
use mathlib.Core.Option.{none}
use Prim.Native.Nat.{ℕ, ◌+◌, ◌*◌, ◌<◌}
use native.Mathlib.Omega.{arith}
use lib.ListN.{length, drop, length-append}
use lib.Seq.{drop_at, drop-length}
use Rattle.crc.specs.Bits.{Bits, bit}
use Rattle.block.specs.Answer.{done}
use Rattle.block.specs.Lengths.{block_length}
use Rattle.block.specs.Block.{payload_of, sync_block}
use Rattle.block.proofs.Truth.{or_no, and_no}
use Rattle.line.specs.Order.{item_bits, item_payload}
use Rattle.line.specs.Receiving.{array_bytes, last_bad, Rule, unfinished, meaning, EventKind, event_kind, after, Reception, stops, idle_rule, held_in_range, store_at}
use Rattle.line.specs.Course.{World, receive_entry, receive_after}
use Rattle.line.specs.Delivery.{is_item, read_good}
use Rattle.line.specs.declared.receiver.Receiver.{Receiver}
use Rattle.line.specs.declared.receiving.Phase.{Phase}
use Rattle.line.specs.declared.receiving.Phase.TheVariants as P
use Rattle.line.specs.declared.receiving.Event.TheVariants as E
use Rattle.line.proofs.Items.{payload_item_bits}
use Rattle.line.proofs.Delivery.Ends.{Ends, LineBlock, Reads, Busy}
use Rattle.line.proofs.Delivery.Progress.{ending, ending_with}
use Rattle.line.proofs.Delivery.BlockStep.{After, after_is, none_held, held_none}
use Rattle.line.proofs.Delivery.RuleOnLine.{Ruling}
use Rattle.line.proofs.Delivery.StoredItem.{store_takes, store_after}
use Rattle.line.proofs.Delivery.State.{Session, N, Fit, ReceiverSetup, alarm_stands, ends_of, Held, Stored, Base, BusyLine, Assumed, Guaranteed, Result}
use Rattle.line.proofs.Delivery.State as S

-- ---- a rule that ends no block

pub record Quiet (alarm : Bool) (x : Rule) : Type 0 where
  pub kind : event_kind (meaning x).event ≡ record { new = false; wait = false; alarm = alarm; length = none }
  pub good : read_good x ≡ false
  pub stores : (meaning x).stores ≡ false

-- 0 bits
pub quiet-idle : (p : Phase) → Quiet (alarm_stands p) (idle_rule p)
quiet-idle P.Search = record { kind = refl; good = refl; stores = refl }
quiet-idle P.InStep = record { kind = refl; good = refl; stores = refl }
quiet-idle P.SequenceAlarm = record { kind = refl; good = refl; stores = refl }
quiet-idle P.LengthAlarm = record { kind = refl; good = refl; stores = refl }

pub quiet_unfinished : {alarm : Bool} → alarm ≡ false → Quiet alarm unfinished
quiet_unfinished e = subst (λ (b : Bool). Quiet b unfinished) (sym e) (quiet-idle P.InStep)

pub not_danger : (alarm : Bool) (x : Rule) → Quiet alarm x → (good : Bool) (d : ℕ)
    → cond (good && read_good x) 0 d ≡ d
not_danger alarm x q good d =
    ap (λ (b : Bool). cond (good && b) 0 d) q.good ∙ ap (λ (b : Bool). cond b 0 d) (and_no good)

-- the receiver after such a call, with the bits that are then used
pub record Still (o : Session) (r t : Receiver) : Type 0 where
  pub setup : ReceiverSetup o t.setup
  pub array : length t.bits ≡ array_bytes
  pub bad_row : t.bad_row < last_bad
  pub held : held_in_range t.phase (block_length o.k) t.held ≡ true
  pub taken : t.taken ≡ r.taken
  pub ended : t.ended ≡ r.ended
  pub phase : t.phase ≡ r.phase

pub still_same : (o : Session) (w : World) → Base o w → Still o w.receiver w.receiver
still_same o w b = record
    { setup = b.receiver_setup; array = b.array; bad_row = b.bad_row; held = b.held; taken = refl; ended = refl; phase = refl }

-- what such a call tells
pub still_told : (o : Session) (w : World) → Base o w → (lent : Bits) (store : List ℕ) → store ≡ w.store
    → (x : Rule) (n : ℕ) (t : Receiver)
    → Quiet (alarm_stands w.receiver.phase) x → Still o w.receiver t
    → let y : Reception = record { rule = x; row = []; used = n; state = t } in
    Guaranteed o w (receive_entry w lent store (done y)) (receive_after w store (done y))
still_told o w base lent store same x n t q s =
    record {
      base = record {
        sender_setup = base.sender_setup;
        run = base.run;
        receiver_setup = s.setup;
        array = s.array;
        bad_row = s.bad_row;
        held = s.held;
        stored = subst₂ (λ (m : ℕ) (z : List ℕ). Stored o m z) (sym s.taken) (sym kept) base.stored;
      };
      taken = s.taken ∙ omega (arith, ap (λ (v : EventKind). bit v.new) q.kind);
      ended =
          s.ended ∙ sym (ap (λ (v : EventKind). w.receiver.ended || ending v) q.kind ∙ or_no w.receiver.ended);
      length = λ M e. absurd (false≢true (sym (ap (ending_with M) q.kind) ∙ e));
      alarm =
          ap alarm_stands s.phase
          ∙ sym (ap (λ (v : EventKind). alarm_stands w.receiver.phase || v.alarm) q.kind ∙ or_self (alarm_stands w.receiver.phase));
      refusal = tt;
    }
  where
    kept : cond (meaning x).stores
        (store_at (w.receiver.taken * w.receiver.setup.k) (payload_of w.receiver.setup.k []) store) store
        ≡ w.store
    kept = ap (λ (b : Bool). cond b
        (store_at (w.receiver.taken * w.receiver.setup.k) (payload_of w.receiver.setup.k []) store) store)
        q.stores ∙ same

-- ---- a block on the line

pub empty-or-not : (row : Bits) → (row ≡ []) ⊎ (row ≡ [] → ⊥)
empty-or-not [] = inl refl
empty-or-not (b ∷ row) = inr (λ e. let z : ◌≡◌ {A = ℕ} 0 1 = cc in omega arith)

module _ (o : Session) (fit : Fit o) (w : World) (l d : ℕ) (copy : Bits) (f : LineBlock) (line : BusyLine o w l d copy f)
    (base : Base o w)
    (lent : Bits) (store : List ℕ) (same : store ≡ w.store) where
  abbrev pub After_call : Reception → Type 0
  After_call y = Result o w l d copy f (receive_entry w lent store (done y)) (receive_after w store (done y))

  -- no event, or a standing alarm's: the bits go by
  module _ (remaining : Bits) (split : w.left ≡ lent ++ remaining) (x : Rule) (n : ℕ) (t : Receiver) (all : n ≡ length lent)
      (q : Quiet (alarm_stands w.receiver.phase) x) (s : Still o w.receiver t) where
    abbrev pub t_ends : Ends
    t_ends = S.ends w.sender t l d

    -- at the last bit of the block
    pub record AtLast : Type 0 where
      pub held : Held t []
      pub reads : Reads (N o) (ends_of w l d) t_ends f (meaning x).event
      pub clean : f ≡ LineBlock.sync → copy ≡ sync_block o.k → alarm_stands w.receiver.phase ≡ false
          → (meaning x).event ≡ E.Sync

    now : drop n w.left ≡ remaining
    now = ap₂ drop all split ∙ drop_at lent remaining (length lent) refl

    danger_kept : cond (is_item w.block && read_good x) 0 d ≡ d
    danger_kept = not_danger (alarm_stands w.receiver.phase) x q (is_item w.block) d

    pub pass : Held t (line.used ++ lent) → Busy (N o) t_ends w.sender.next f
        → (alarm_stands w.receiver.phase ≡ false → t_ends ≡ ends_of w l d) → (remaining ≡ [] → AtLast)
        → After_call (record { rule = x; row = []; used = n; state = t })
    unfolding now danger_kept
    pass held busy ends_same last =
        record {
          next =
              ⊎_elim
              (λ z. inr (record {
                left = now ∙ z;
                held = (last z).held;
                sender = refl;
                event = (meaning x).event;
                reads = subst (λ (m : ℕ). Reads (N o) (ends_of w l d) (S.ends w.sender t l m) f (meaning x).event)
                    (sym danger_kept) (last z).reads;
                news = refl;
                wait = refl;
                clean = (last z).clean;
              }))
              (λ z. inl (
                record {
                  used = line.used ++ lent;
                  split = line.split ∙ ap (λ (y : Bits). line.used ++ y) split
                      ∙ sym (append_assoc line.used lent remaining)
                      ∙ ap (λ (y : Bits). (line.used ++ lent) ++ y) (sym now);
                  more = λ e. z (sym now ∙ e);
                  long = line.long;
                  held = held;
                  busy = subst (λ (m : ℕ). Busy (N o) (S.ends w.sender t l m) w.sender.next f)
                      (sym danger_kept) busy;
                  copy_of = line.copy_of;
                },
                refl,
                (λ a. ap (λ (m : ℕ). S.ends w.sender t l m) danger_kept ∙ ends_same a),
              ))
              (empty-or-not remaining);
          guaranteed = still_told o w base lent store same x n t q s;
        }

  -- the rule that ends the block
  module _ (x : Rule) (row : Bits) (n : ℕ) (all : n ≡ length w.left) (is_copy : (meaning x).stores ≡ true → row ≡ copy)
      (quiet : alarm_stands w.receiver.phase ≡ false) (g : Ruling o fit w l d copy f line x) where
    left_state : After w.receiver (after w.receiver x) (meaning x).stores (event_kind (meaning x).event)
    left_state = after_is w.receiver x g.ends-block

    carries : (i : ℕ) → i ≡ w.receiver.taken → row ≡ item_bits o.marks o.k o.L o.content i
        → payload_of w.receiver.setup.k row ≡ item_payload o.k o.L o.content w.receiver.taken
    carries i e c =
        ap₂ payload_of base.receiver_setup.k (c ∙ ap (item_bits o.marks o.k o.L o.content) e)
        ∙ payload_item_bits o.k o.L o.content fit.known fit.content o.marks w.receiver.taken

    taking : (meaning x).stores ≡ true
        → Stored o (w.receiver.taken + 1)
        (store_at (w.receiver.taken * w.receiver.setup.k) (payload_of w.receiver.setup.k row) store)
    taking e =
        let t = g.takes e in
        let y = carries t.0 t.2 (is_copy e ∙ t.1) in
        let h = store_takes o fit w.receiver.taken w.store base.stored (omega (arith, t.2, t.3)) in
        subst (Stored o (w.receiver.taken + 1))
        (sym (ap₂ (λ (m : ℕ) (p : Bits). store_at (w.receiver.taken * m) p store) base.receiver_setup.k y
        ∙ ap (store_at (w.receiver.taken * o.k) (item_payload o.k o.L o.content w.receiver.taken)) same)) h

    pub finish : After_call (stops w.receiver x row n)
    finish =
        let a = left_state in
        record {
          next = inr (record {
            left = ap (λ (m : ℕ). drop m w.left) all ∙ drop-length w.left;
            held = held_none (after w.receiver x) a.held;
            sender = refl;
            event = (meaning x).event;
            reads = g.reads;
            news = refl;
            wait = refl;
            clean = λ p c z. g.clean p c;
          });
          guaranteed = record {
            base = record {
              sender_setup = base.sender_setup;
              run = base.run;
              receiver_setup = subst (ReceiverSetup o) (sym a.setup) base.receiver_setup;
              array = a.array;
              bad_row = a.bad_row;
              held = ap (held_in_range (after w.receiver x).phase (block_length o.k)) a.held
                  ∙ none_held (after w.receiver x).phase o.k;
              stored = store_after o w.receiver.taken (after w.receiver x).taken (meaning x).stores _ store
                  a.taken (subst (Stored o w.receiver.taken) (sym same) base.stored) taking;
            };
            taken = a.taken ∙ ap (λ (b : Bool). bit b + w.receiver.taken) a.stored;
            ended = a.ended;
            length = g.length;
            alarm = a.alarms ∙ sym (ap (λ (b : Bool). b || (event_kind (meaning x).event).alarm) quiet);
            refusal = tt;
          };
        }

-- ---- any reception of a call while a block is on the line

-- where what is supposed of its entry holds, the call does what it should
abbrev pub ReceptionKept : (o : Session) (w : World) (l d : ℕ) (copy : Bits) (f : LineBlock) (lent : Bits) (store : List ℕ)
    → Reception → Type 0
ReceptionKept o w l d copy f lent store y =
    Assumed o (alarm_stands w.receiver.phase) d (receive_entry w lent store (done y))
    → Result o w l d copy f (receive_entry w lent store (done y)) (receive_after w store (done y))

pub none_of_length : (row : Bits) → length row ≡ 0 → row ≡ []
none_of_length [] h = refl
none_of_length (b ∷ row) h = absurd (omega arith)

pub search_step : {p : Phase} → p ≡ P.Search → p ≡ P.InStep → ⊥
search_step {p} a b = let z : ◌≡◌ {A = ℕ} 0 1 = cc in omega arith

module _ (o : Session) (w : World) (l d : ℕ) (copy : Bits) (f : LineBlock) (line : BusyLine o w l d copy f) (lent : Bits) where
  pub used_with : (remaining : Bits) → w.left ≡ lent ++ remaining
      → length line.used + (length lent + length remaining) ≡ block_length o.k
  used_with remaining split =
      omega (
        arith,
        length-append line.used w.left,
        ap length line.split,
        ap length split,
        length-append lent remaining,
        line.long,
      )

  -- all bits of the block are lent
  pub whole_copy : (remaining : Bits) → w.left ≡ lent ++ remaining → remaining ≡ [] → copy ≡ line.used ++ lent
  whole_copy remaining split z =
      line.split ∙ ap (λ (y : Bits). line.used ++ y) (split ∙ ap (λ (y : Bits). lent ++ y) z ∙ append-nil lent)
