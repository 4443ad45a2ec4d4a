-- A stretch of undisturbed periods that brings no new block and no end is shorter than the rank of its first. Assumes nothing.
use mathlib.Core.Path.{◌≡◌, refl, ap, ap₂, sym, ◌∙◌, subst}
use mathlib.Core.Logic.{◌⊎◌, inl, inr, ⊎_elim}
use mathlib.Core.Bool.{Bool, false, ◌||◌, true≢false}
use mathlib.Core.List.{List, [], ◌∷◌, ◌++◌}
use native.Mathlib.Omega.{arith}
use Prim.Native.Nat.{ℕ, ◌+◌, ◌≤◌, ◌<◌}
use lib.ListN.{length, length-drop}
use Rattle.crc.specs.Bits.{Bits}
use Rattle.block.specs.Answer.{Answer, refused, done}
use Rattle.block.specs.Block.{sync_block}
use Rattle.block.proofs.Truth.{or-false, or_no, bit_false}
use Rattle.line.specs.Receiving.{Reception}
use Rattle.line.specs.Course.{World, Call, Entry, receive_refused, receive_entry, receive_after, course}
use Rattle.line.specs.Delivery.{some, is_new, is_end, is_alarm, is_lost, is_wait, Period, group, used_bits, Undisturbed, All, brings}
use Rattle.line.specs.declared.sender.Next.{Next}
use Rattle.line.specs.declared.sender.Next.TheVariants.{Newer}
use Rattle.line.proofs.Delivery.Ends.{Ends, LineBlock, Sends, Idle}
use Rattle.line.proofs.Delivery.Progress.{rank, rank_low, rank_falls}
use Rattle.line.proofs.Delivery.State.{Session, N, Fit, alarm_stands, ends_of, danger', Base, IdleLine, BusyLine, Guaranteed, Done}
use Rattle.line.proofs.Delivery.OneCall.{ReceiveAnswered, idle_hears, busy_hears, done_idle}
use Rattle.line.proofs.Delivery.CallList.{Okays}

-- a new block or the end
abbrev pub brought : Entry → Bool
brought e = is_new e || is_end e

-- ---- between and during the periods of a stretch

-- the period that is on began here, and is undisturbed
pub record Began (o : Session) (w : World) (d : ℕ) (copy : Bits) (f : LineBlock) : Type 0 where
  pub start : Ends
  pub next : Next
  pub reading : ℕ
  pub idle : Idle (N o) start next
  pub sends : Sends (N o) start reading (ends_of w 0 d) next w.sender.next f
  pub lost : start.lost ≡ 0
  pub ended : start.ended ≡ 0
  pub read : reading ≡ start.back
  pub synced : f ≡ LineBlock.sync → copy ≡ sync_block o.k
  pub whole : (i v : ℕ) → f ≡ LineBlock.item i v → (next ≡ Newer → reading ≡ 0) → v ≡ 1

-- a block is on the line, and the calls up to the next period use all that is left of it, and none waits
pub record During (o : Session) (w : World) (d limit : ℕ) (es : List Entry) : Type 0 where
  pub copy : Bits
  pub line_block : LineBlock
  pub line : BusyLine o w 0 d copy line_block
  pub began : Began o w d copy line_block
  pub used : used_bits (group es).loose ≡ length w.left
  pub no_wait : some is_wait (group es).loose ≡ false
  pub ended : w.receiver.ended ≡ false
  pub bound : rank began.start began.next ≤ limit + 1

pub record Between (o : Session) (w : World) (d limit : ℕ) : Type 0 where
  pub line : IdleLine o w 0 d
  pub ended : w.receiver.ended ≡ false
  pub bound : rank (ends_of w 0 d) w.sender.next ≤ limit

-- with nothing lost no alarm stands
pub quiet_busy : {o : Session} {w : World} {d : ℕ} {copy : Bits} {f : LineBlock} → BusyLine o w 0 d copy f
    → alarm_stands w.receiver.phase ≡ false
quiet_busy {w = w} a =
    bit_false (alarm_stands w.receiver.phase) (⊎_elim (λ x. absurd (omega (arith, x.lost))) (λ x. x.0.alarm) a.busy.state)

-- what is supposed behind a call
pub okays_next : {o : Session} {w w' : World} {e : Entry} → Guaranteed o w e w' → (n : ℕ) (es : List Entry)
    → Okays o (alarm_stands w.receiver.phase || is_alarm e) n es → Okays o (alarm_stands w'.receiver.phase) n es
okays_next {o} t n es h = subst (λ (b : Bool). Okays o b n es) (sym t.alarm) h

pub okays_same : (o : Session) (alarm : Bool) (n : ℕ) (es : List Entry) → Okays o (alarm || false) n es → Okays o alarm n es
okays_same o alarm n es h = subst (λ (b : Bool). Okays o b n es) (or_no alarm) h

pub still_open : {o : Session} {w w' : World} (e : Entry) → Guaranteed o w e w' → w.receiver.ended ≡ false
    → is_end e ≡ false → w'.receiver.ended ≡ false
still_open e t a n = t.ended ∙ ap₂ ◌||◌ a n

pub append-nil_left : {A : Type 0} (x y : List A) → [] ≡ x ++ y → x ≡ []
append-nil_left [] y e = refl
append-nil_left (a ∷ x) y e = absurd (let v : ◌≡◌ {A = ℕ} 0 1 = cc in omega arith)

module _ (o : Session) (fit : Fit o) where
  abbrev pub Short : World → ℕ → ℕ → List Entry → Type 0
  Short w d limit es =
      Base o w → Between o w d limit ⊎ During o w d limit es → Okays o (alarm_stands w.receiver.phase) d es
      → some is_lost es ≡ false → (ps behind : List Period) → (group es).periods ≡ ps ++ behind
      → All (Undisturbed o.k) ps → some brought (group es).loose ≡ false → brings brought ps ≡ false → length ps < limit

  abbrev pub Shorts : List Call → Type 0
  Shorts cs = (w : World) (d limit : ℕ) → Short w d limit (course w cs)

  pub short-nil : (w : World) (d limit : ℕ) → Short w d limit []
  short-nil w d limit base (inl g) ok nl ps behind e un q b =
      omega (arith, ap length (append-nil_left ps behind e), rank_low (ends_of w 0 d) w.sender.next, g.bound)
  short-nil w d limit base (inr g) ok nl ps behind e un q b = absurd (g.line.more (empty w.left g.used))
    where
      empty : (x : Bits) → 0 ≡ length x → x ≡ []
      empty [] e = refl
      empty (a ∷ x) e = absurd (omega arith)

  -- a refused call: nothing is used, and the states stay
  pub skip : (x : Entry) (es : List Entry) (w : World) (d limit : ℕ)
      → used_bits (group (x ∷ es)).loose ≡ used_bits (group es).loose
      → some is_wait (group (x ∷ es)).loose ≡ some is_wait (group es).loose
      → Between o w d limit ⊎ During o w d limit (x ∷ es) → Between o w d limit ⊎ During o w d limit es
  skip x es w d limit u v (inl g) = inl g
  skip x es w d limit u v (inr g) =
      inr
      (record {
        copy = g.copy;
        line_block = g.line_block;
        line = g.line;
        began = g.began;
        used = sym u ∙ g.used;
        no_wait = sym v ∙ g.no_wait;
        ended = g.ended;
        bound = g.bound;
      })

  -- ---- a receiving call

  module _ (cs : List Call) (ih : Shorts cs) (w : World) (d limit : ℕ) (lent : Bits) (count : ℕ) (store : List ℕ) where
    hear_refused : (n : ℕ) → Short w d limit (receive_refused n ∷ course w cs)
    hear_refused n base m ok nl ps behind e un q b =
        ih w d limit base (skip (receive_refused n) (course w cs) w d limit (omega arith) refl m)
        (okays_same o (alarm_stands w.receiver.phase) d (course w cs) ok.1) nl ps behind e un q b

    module _ (y : Reception) where
      abbrev x : Entry
      x = receive_entry w lent store (done y)

      abbrev w' : World
      w' = receive_after w store (done y)

      -- with no block on the line
      hear_between : ReceiveAnswered w.receiver lent count (done y) → Base o w → Between o w d limit
          → Okays o (alarm_stands w.receiver.phase) d (x ∷ course w' cs) → some is_lost (course w' cs) ≡ false
          → (ps behind : List Period) → (group (course w' cs)).periods ≡ ps ++ behind → All (Undisturbed o.k) ps
          → brought x || some brought (group (course w' cs)).loose ≡ false → brings brought ps ≡ false → length ps < limit
      hear_between a base g ok nl ps behind e un q b =
          let z = idle_hears o fit w 0 d g.line base lent count store (done y) a ok.0 in
          let n = or-false (brought x) (some brought (group (course w' cs)).loose) q in
          ih w' (danger' d x) limit z.guaranteed.base
          (inl
          (record {
            line = z.line;
            ended = still_open x z.guaranteed g.ended (or-false (is_new x) (is_end x) n.0).1;
            bound = subst (λ (s : Ends). rank s w.sender.next ≤ limit) (sym z.same) g.bound;
          }))
          (okays_next z.guaranteed (danger' d x) (course w' cs) ok.1) nl ps behind e un n.1 b

      -- the block is read to its last bit: without news the rank is lower
      lands : (g : During o w d limit (x ∷ course w' cs)) → Guaranteed o w x w' → Done o w 0 d g.copy g.line_block x w'
          → brought x ≡ false → Between o w' (danger' d x) limit
      lands g t v n =
          record {
            line = done_idle o fit w 0 d g.copy g.line_block x w' g.line.busy v;
            ended = still_open x t g.ended (or-false (is_new x) (is_end x) n).1;
            bound =
                ⊎_elim
                (λ z. absurd (true≢false (sym z ∙ v.news ∙ n)))
                (λ z. omega (arith, z, g.bound))
                (rank_falls g.began.idle g.began.sends v.reads
                (record {
                  read = g.began.read;
                  synced = λ p. v.clean p (g.began.synced p) (quiet_busy g.line);
                  whole = g.began.whole;
                  no_wait = v.wait ∙ (or-false (is_wait x) (some is_wait (group (course w' cs)).loose) g.no_wait).0;
                })
                g.began.lost refl g.began.ended);
          }

      -- the block goes on
      goes_on : (g : During o w d limit (x ∷ course w' cs)) → BusyLine o w' 0 (danger' d x) g.copy g.line_block
          → ends_of w' 0 (danger' d x) ≡ ends_of w 0 d → w'.receiver.ended ≡ false → During o w' (danger' d x) limit (course w' cs)
      goes_on g line same ended =
          record {
            copy = g.copy;
            line_block = g.line_block;
            line = line;
            began =
                record {
                  start = g.began.start;
                  next = g.began.next;
                  reading = g.began.reading;
                  idle = g.began.idle;
                  sends =
                      subst (λ (t : Ends). Sends (N o) g.began.start g.began.reading t g.began.next w.sender.next g.line_block)
                      (sym same) g.began.sends;
                  lost = g.began.lost;
                  ended = g.began.ended;
                  read = g.began.read;
                  synced = g.began.synced;
                  whole = g.began.whole;
                };
            used = omega (arith, length-drop y.used w.left, g.used);
            no_wait = (or-false (is_wait x) (some is_wait (group (course w' cs)).loose) g.no_wait).1;
            ended = ended;
            bound = g.bound;
          }

      hear_during : ReceiveAnswered w.receiver lent count (done y) → Base o w → During o w d limit (x ∷ course w' cs)
          → Okays o (alarm_stands w.receiver.phase) d (x ∷ course w' cs) → some is_lost (course w' cs) ≡ false
          → (ps behind : List Period) → (group (course w' cs)).periods ≡ ps ++ behind → All (Undisturbed o.k) ps
          → brought x || some brought (group (course w' cs)).loose ≡ false → brings brought ps ≡ false → length ps < limit
      hear_during a base g ok nl ps behind e un q b =
          let z = busy_hears o fit w 0 d g.copy g.line_block g.line base lent count store (done y) a ok.0 in
          let n = or-false (brought x) (some brought (group (course w' cs)).loose) q in
          let ended = still_open x z.guaranteed g.ended (or-false (is_new x) (is_end x) n.0).1 in
          ih w' (danger' d x) limit z.guaranteed.base
          (⊎_elim (λ v. inr (goes_on g v.0 (v.2 (quiet_busy g.line)) ended)) (λ v. inl (lands g z.guaranteed v n.0)) z.next)
          (okays_next z.guaranteed (danger' d x) (course w' cs) ok.1) nl ps behind e un n.1 b

    pub short-hear : (a : Answer Reception) → ReceiveAnswered w.receiver lent count a
        → Short w d limit (receive_entry w lent store a ∷ course (receive_after w store a) cs)
    short-hear (refused n) q base m ok nl = hear_refused n base m ok nl
    short-hear (done y) q base (inl g) ok nl = hear_between y q base g ok nl
    short-hear (done y) q base (inr g) ok nl = hear_during y q base g ok nl
