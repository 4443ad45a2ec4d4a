-- Five undisturbed periods in a row that begin before the end bring a new block or the end, if no request was lost.
-- Assumes nothing.
use mathlib.Core.Path.{◌≡◌, refl, ap, ap₂, sym, ◌∙◌, subst}
use mathlib.Core.Logic.{◌⊎◌, inl, inr, ⊎_elim}
use mathlib.Core.Bool.{Bool, true, false, cond, ◌||◌, false≢true}
use mathlib.Core.List.{List, [], ◌∷◌, ◌++◌}
use native.Mathlib.Omega.{arith}
use Prim.Native.Nat.{ℕ, ◌-◌, ◌≤◌}
use lib.ListN.{length, take}
use Rattle.crc.specs.Bits.{Bits, bit, bits_of}
use Rattle.crc.specs.Check.{passes}
use Rattle.block.specs.Answer.{Answer, refused, done}
use Rattle.block.specs.Block.{sync_block}
use Rattle.block.proofs.Truth.{either, or-false, bit_false}
use Rattle.line.specs.Order.{order_bits, item_bits}
use Rattle.line.specs.Sending.{Block, synchronising, item, transmit, plain_bits, sent_bits, gave_up, send}
use Rattle.line.specs.Receiving.{Reception, receive}
use Rattle.line.specs.Course.{World, Call, sending, receiving, Entry, send_refused, send_entry, send_after, receive_entry, receive_after, course}
use Rattle.line.specs.Delivery.{some, is_end, is_lost, Period, group, Undisturbed, All, brings}
use Rattle.line.specs.declared.sender.Sender.{Sender}
use Rattle.line.specs.declared.sender.Next.{Next}
use Rattle.line.specs.declared.sender.Next.TheVariants.{Sync, Older, Newer}
use Rattle.line.proofs.Items.{passes-item_bits}
use Rattle.line.proofs.Delivery.Ends.{Ends, LineBlock, Sends}
use Rattle.line.proofs.Delivery.Progress.{rank_low, rank_high, between_of}
use Rattle.line.proofs.Delivery.State.{Session, N, Fit, alarm_stands, ends_of, lost', danger', Base, CopyOf, syncing, whole, damaged, IdleLine, BusyLine, Inv, Assumed, Begins}
use Rattle.line.proofs.Delivery.OneCall.{SendAnswered, refuses, begins, ReceiveAnswered, send-answered, receive-answered, sender_in_range_lem, receiver_in_range_lem, idle_hears, idle_sends, send-call, hear-call}
use Rattle.line.proofs.Delivery.CallList.{Okays}
use Rattle.line.proofs.Delivery.UndisturbedPeriods.{brought, Between, During, Short, Shorts, short-nil, skip, short-hear, okays_next, okays_same, still_open, append-nil_left}

-- ---- a block that arrives as sent

-- a synchronising block arrives as one, and an item that is not cancelled whole
abbrev Clean : Session → Bits → Next → Bool → LineBlock → Type 0
Clean o copy n reading f =
    (f ≡ LineBlock.sync → copy ≡ sync_block o.k) × ((i v : ℕ) → f ≡ LineBlock.item i v → (n ≡ Newer → bit reading ≡ 0) → v ≡ 1)

module _ (o : Session) (copy : Bits) (n : Next) (reading : Bool) where
  sync_clean : {f : LineBlock} → copy ≡ sync_block o.k → CopyOf o synchronising copy f → Clean o copy n reading f
  sync_clean c (syncing z) = (λ e. c, λ i v e h. absurd (let x : ◌≡◌ {A = ℕ} 0 1 = cc in omega arith))
  sync_clean c (whole z q) = absurd (let x : ◌≡◌ {A = ℕ} 0 1 = cc in omega arith)
  sync_clean c (damaged z q) = absurd (let x : ◌≡◌ {A = ℕ} 0 1 = cc in omega arith)

  item_clean : (j : ℕ) (end used : Bool) {f : LineBlock} → copy ≡ item_bits o.marks o.k o.L o.content j
      → CopyOf o (item j end used false) copy f → Clean o copy n reading f
  item_clean j end used c (syncing z) = absurd (let x : ◌≡◌ {A = ℕ} 0 1 = cc in omega arith)
  item_clean j end used c (whole z q) =
      (λ e. absurd (let x : ◌≡◌ {A = ℕ} 0 1 = cc in omega arith), λ i v e h. let x : 1 ≡ v = cc in sym x)
  item_clean j end used c (damaged z q) =
      absurd (false≢true (sym q ∙ ap passes c ∙ passes-item_bits o.marks o.k o.L o.content j))

  cancelled_clean : (j : ℕ) (end used : Bool) {f : LineBlock} → n ≡ Newer → reading ≡ true
      → CopyOf o (item j end used true) copy f → Clean o copy n reading f
  cancelled_clean j end used new one (syncing z) = absurd (let x : ◌≡◌ {A = ℕ} 0 1 = cc in omega arith)
  cancelled_clean j end used new one (whole z q) = (
    λ e. absurd (let x : ◌≡◌ {A = ℕ} 0 1 = cc in omega arith),
    λ i v e h. absurd (let x = h new in omega (arith, x, ap bit one)),
  )
  cancelled_clean j end used new one (damaged z q) = (
    λ e. absurd (let x : ◌≡◌ {A = ℕ} 0 1 = cc in omega arith),
    λ i v e h. absurd (let x = h new in omega (arith, x, ap bit one)),
  )

as_sent_clean : (o : Session) (s : Sender) (copy : Bits) (n : Next) (reading : Bool) {f : LineBlock}
    → copy ≡ sent_bits o.marks o.k o.L o.content (transmit s n reading).block
    → CopyOf o (transmit s n reading).block copy f → Clean o copy n reading f
unfolding transmit sent_bits
as_sent_clean o s copy Sync reading c k = sync_clean o copy Sync reading c k
as_sent_clean o s copy Older reading c k = item_clean o copy Older reading (s.newer - 1) _ false c k
as_sent_clean o s copy Newer false c k = item_clean o copy Newer false s.newer _ true c k
as_sent_clean o s copy Newer true c k = cancelled_clean o copy Newer true s.newer _ true refl refl k

module _ (o : Session) (fit : Fit o) where
  -- ---- a sending call

  module _ (cs : List Call) (ih : Shorts o fit cs) (w : World) (d limit : ℕ) (order : List ℕ) (reading : Bool) (copy : Bits) where
    abbrev b : Block
    b = (transmit w.sender w.sender.next reading).block

    abbrev x : Entry
    x = send_entry w order reading copy (done b)

    abbrev w' : World
    w' = send_after w reading copy (done b)

    -- the call's own period
    abbrev begun : Period
    begun =
        record {
          start =
              record {
                block = b;
                reading = reading;
                back = w.receiver.back;
                plain = plain_bits w.sender.setup.marks w.sender.setup.k w.sender.setup.length (order_bits w.sender.setup.length order) b;
                bits = sent_bits w.sender.setup.marks w.sender.setup.k w.sender.setup.length (order_bits w.sender.setup.length order) b;
                arrives = copy;
                unused = w.left;
                order = order_bits w.sender.setup.length order;
              };
          calls = (group (course w' cs)).loose;
        }

    begin : Base o w → Between o w d limit → w.sender.finished ≡ false → gave_up w.sender ≡ false
        → Assumed o (alarm_stands w.receiver.phase) d x → is_lost x ≡ false → Undisturbed o.k begun
        → During o w' (danger' d x) (limit - 1) (course w' cs)
    begin base g fin run ok kept u =
        record {
          copy = copy;
          line_block = z.line_block;
          line = subst (λ (l : ℕ). BusyLine o w' l (danger' d x) copy z.line_block) zero z.line;
          began =
              record {
                start = ends_of w 0 d;
                next = w.sender.next;
                reading = bit reading;
                idle = g.line.idle;
                sends =
                    subst (λ (l : ℕ). Sends (N o) (ends_of w 0 d) (bit reading) (ends_of w' l (danger' d x)) w.sender.next w'.sender.next z.line_block)
                    zero z.sends;
                lost = refl;
                ended = ap bit g.ended;
                read = ap bit u.reading;
                synced = clean.0;
                whole = clean.1;
              };
          used = u.all_used ∙ sym ok.line.1;
          no_wait = u.no_wait;
          ended = g.ended;
          bound = omega (arith, g.bound, rank_low (ends_of w 0 d) w.sender.next);
        }
      where
        z : Begins o w 0 d copy reading x w'
        z = idle_sends o fit w 0 d g.line base order reading copy fin run ok

        zero : lost' 0 x ≡ 0
        zero = ap (λ (t : Bool). cond {A = ℕ} t 1 0) kept

        bits : sent_bits w.sender.setup.marks w.sender.setup.k w.sender.setup.length (order_bits w.sender.setup.length order) b ≡ sent_bits o.marks o.k o.L o.content b
        bits = rw (ok.order, base.sender_setup.marks, base.sender_setup.k, base.sender_setup.L)

        clean : Clean o copy w.sender.next reading z.line_block
        clean = as_sent_clean o w.sender copy w.sender.next reading (u.as_sent ∙ bits) z.line.copy_of

    short-send : (a : Answer Block) → SendAnswered w.sender reading a
        → Short o fit w d limit (send_entry w order reading copy a ∷ course (send_after w reading copy a) cs)
    short-send a (refuses {n = n} h) base m ok nl ps behind e un quiet br =
        ih w d limit base (skip o fit (send_refused n) (course w cs) w d limit (omega arith) refl m)
        (okays_same o (alarm_stands w.receiver.phase) d (course w cs) ok.1) nl ps behind e un quiet br
    short-send a (begins fin run) base (inr g) ok nl ps behind e un quiet br = absurd (g.line.more ok.0.line.0)
    short-send a (begins fin run) base (inl g) ok nl [] behind e un quiet br =
        omega (arith, rank_low (ends_of w 0 d) w.sender.next, g.bound)
    short-send a (begins fin run) base (inl g) ok nl (p ∷ ps) behind e un quiet br =
        let same : begun ≡ p = cc in
        let more : (group (course w' cs)).periods ≡ ps ++ behind = cc in
        let l = or-false (is_lost x) (some is_lost (course w' cs)) nl in
        let n = or-false (some brought p.calls) (brings brought ps) br in
        let z = idle_sends o fit w 0 d g.line base order reading copy fin run ok.0 in
        let h =
        ih w' (danger' d x) (limit - 1) z.guaranteed.base
        (inr (begin base g fin run ok.0 l.0 (subst (Undisturbed o.k) (sym same) un.0)))
        (okays_next z.guaranteed (danger' d x) (course w' cs) ok.1) l.1 ps behind more un.1
        (ap (λ (q : Period). some brought q.calls) same ∙ n.0) n.1 in
        omega (arith, h)

  -- ---- any stretch

  inv_of : {w : World} {d limit : ℕ} {es : List Entry} → Base o w → Between o w d limit ⊎ During o w d limit es → Inv o w 0 d
  inv_of base (inl g) = record { base = base; phase = inl g.line }
  inv_of base (inr g) = record { base = base; phase = inr (record { copy = g.copy; line_block = g.line_block; line = g.line }) }

  shorts : (cs : List Call) → Shorts o fit cs
  shorts [] w d limit base m = short-nil o fit w d limit base m
  shorts (sending order reading slice copy ∷ cs) w d limit base m =
      short-send cs (shorts cs) w d limit order reading copy (send w.sender order reading slice)
      (send-answered w.sender order reading slice (sender_in_range_lem o fit w 0 d (inv_of base m))) base m
  shorts (receiving line n ready store ∷ cs) w d limit base m =
      short-hear o fit cs (shorts cs) w d limit (take n (bits_of line)) n store (receive w.receiver line n ready store)
      (receive-answered w.receiver line n ready store (receiver_in_range_lem o fit w 0 d (inv_of base m))) base m

  -- ---- anywhere in the list

  -- five periods bring nothing only if the end came before
  abbrev Lack : World → ℕ → List Entry → Type 0
  Lack w d es =
      Inv o w 0 d → w.receiver.ended ≡ false → Okays o (alarm_stands w.receiver.phase) d es → some is_lost es ≡ false
      → (before these behind : List Period) → (group es).periods ≡ before ++ (these ++ behind) → 5 ≤ length these
      → All (Undisturbed o.k) these → some is_end (group es).loose ≡ false → brings is_end before ≡ false
      → brings brought these ≡ false → ⊥

  lack_nil : (w : World) (d : ℕ) → Lack w d []
  lack_nil w d h en ok nl before these behind e n un q s b = no before e
    where
      no : (x : List Period) → [] ≡ x ++ (these ++ behind) → ⊥
      no [] z = omega (arith, n, ap length (append-nil_left these behind z))
      no (p ∷ x) z = absurd (let v : ◌≡◌ {A = ℕ} 0 1 = cc in omega arith)

  lack_hear : (cs : List Call) → ((w : World) (d : ℕ) → Lack w d (course w cs)) → (w : World) (d : ℕ) (lent : Bits) (count : ℕ) (store : List ℕ)
      (a : Answer Reception) → ReceiveAnswered w.receiver lent count a
      → Lack w d (receive_entry w lent store a ∷ course (receive_after w store a) cs)
  lack_hear cs ih w d lent count store (refused n) a h en ok nl before these behind e five un q s b =
      ih w d h en (okays_same o (alarm_stands w.receiver.phase) d (course w cs) ok.1) nl before these behind e five un q s b
  lack_hear cs ih w d lent count store (done y) a h en ok nl before these behind e five un q s b =
      let x : Entry = receive_entry w lent store (done y) in
      let w' : World = receive_after w store (done y) in
      let z = hear-call o fit w 0 d h lent count store (done y) a ok.0 in
      let n = or-false (is_end x) (some is_end (group (course w' cs)).loose) q in
      ih w' (danger' d x) z.inv (still_open x z.guaranteed en n.0) (okays_next z.guaranteed (danger' d x) (course w' cs) ok.1) nl
      before these behind e five un n.1 s b

  lack_send : (cs : List Call) → ((w : World) (d : ℕ) → Lack w d (course w cs)) → (w : World) (d : ℕ) (order : List ℕ) (reading : Bool) (copy : Bits)
      (a : Answer Block) → SendAnswered w.sender reading a
      → Lack w d (send_entry w order reading copy a ∷ course (send_after w reading copy a) cs)
  lack_send cs ih w d order reading copy a (refuses {n = n} q) h en ok nl before these behind e five un loose s b =
      ih w d h en (okays_same o (alarm_stands w.receiver.phase) d (course w cs) ok.1) nl before these behind e five un loose s b
  lack_send cs ih w d order reading copy a (begins fin run) h en ok nl [] these behind e five un loose s b =
      ⊎_elim
      (λ g.
      let high = rank_high (ends_of w 0 d) w.sender.next w.sender.next (between_of g.idle refl) in
      let c =
      short-send cs (shorts cs) w d 5 order reading copy (done (transmit w.sender w.sender.next reading).block)
      (begins fin run) h.base (inl (record { line = g; ended = en; bound = high })) ok nl these behind e un refl b in
      omega (arith, c, five))
      (λ g. absurd (g.line.more ok.0.line.0))
      h.phase
  lack_send cs ih w d order reading copy a (begins fin run) h en ok nl (p ∷ before) these behind e five un loose s b =
      let c : Block = (transmit w.sender w.sender.next reading).block in
      let x : Entry = send_entry w order reading copy (done c) in
      let w' : World = send_after w reading copy (done c) in
      let same : begun cs (shorts cs) w d 5 order reading copy ≡ p = cc in
      let more : (group (course w' cs)).periods ≡ before ++ (these ++ behind) = cc in
      let n = or-false (some is_end p.calls) (brings is_end before) s in
      let l = or-false (is_lost x) (some is_lost (course w' cs)) nl in
      let z = send-call o fit w 0 d h order reading copy (done c) (begins fin run) ok.0 in
      let zero : lost' 0 x ≡ 0 = ap (λ (t : Bool). cond {A = ℕ} t 1 0) l.0 in
      ih w' (danger' d x) (subst (λ (t : ℕ). Inv o w' t (danger' d x)) zero z.inv) (still_open x z.guaranteed en refl)
      (okays_next z.guaranteed (danger' d x) (course w' cs) ok.1) l.1 before these behind more five un
      (ap (λ (q : Period). some is_end q.calls) same ∙ n.0) n.1 b

  lacks : (cs : List Call) (w : World) (d : ℕ) → Lack w d (course w cs)
  lacks [] w d h = lack_nil w d h
  lacks (sending order reading slice copy ∷ cs) w d h =
      lack_send cs (lacks cs) w d order reading copy (send w.sender order reading slice)
      (send-answered w.sender order reading slice (sender_in_range_lem o fit w 0 d h)) h
  lacks (receiving line n ready store ∷ cs) w d h =
      lack_hear cs (lacks cs) w d (take n (bits_of line)) n store (receive w.receiver line n ready store)
      (receive-answered w.receiver line n ready store (receiver_in_range_lem o fit w 0 d h)) h

  -- ---- before the first period nothing is reported

  abbrev Loose : World → ℕ → List Entry → Type 0
  Loose w d es =
      IdleLine o w 0 d → Base o w → w.receiver.ended ≡ false → Okays o (alarm_stands w.receiver.phase) d es
      → some is_end (group es).loose ≡ false

  loose_hear : (cs : List Call) → ((w : World) (d : ℕ) → Loose w d (course w cs)) → (w : World) (d : ℕ) (lent : Bits) (count : ℕ) (store : List ℕ)
      (a : Answer Reception) → ReceiveAnswered w.receiver lent count a
      → Loose w d (receive_entry w lent store a ∷ course (receive_after w store a) cs)
  loose_hear cs ih w d lent count store (refused n) a g base en ok =
      ih w d g base en (okays_same o (alarm_stands w.receiver.phase) d (course w cs) ok.1)
  loose_hear cs ih w d lent count store (done y) a g base en ok =
      let x : Entry = receive_entry w lent store (done y) in
      let w' : World = receive_after w store (done y) in
      let z = idle_hears o fit w 0 d g base lent count store (done y) a ok.0 in
      let c : w'.receiver.ended ≡ false = bit_false w'.receiver.ended (ap (λ (s : Ends). s.ended) z.same ∙ ap bit en) in
      let v : is_end x ≡ false = (or-false w.receiver.ended (is_end x) (sym z.guaranteed.ended ∙ c)).1 in
      ap₂ ◌||◌ v (ih w' (danger' d x) z.line z.guaranteed.base c (okays_next z.guaranteed (danger' d x) (course w' cs) ok.1))

  loose_send : (cs : List Call) → ((w : World) (d : ℕ) → Loose w d (course w cs)) → (w : World) (d : ℕ) (order : List ℕ) (reading : Bool) (copy : Bits)
      (a : Answer Block) → Loose w d (send_entry w order reading copy a ∷ course (send_after w reading copy a) cs)
  loose_send cs ih w d order reading copy (refused n) g base en ok =
      ih w d g base en (okays_same o (alarm_stands w.receiver.phase) d (course w cs) ok.1)
  loose_send cs ih w d order reading copy (done c) g base en ok = refl

  loose_none : (cs : List Call) (w : World) (d : ℕ) → Loose w d (course w cs)
  loose_none [] w d g base = λ en ok. refl
  loose_none (sending order reading slice copy ∷ cs) w d g base =
      loose_send cs (loose_none cs) w d order reading copy (send w.sender order reading slice) g base
  loose_none (receiving line n ready store ∷ cs) w d g base =
      loose_hear cs (loose_none cs) w d (take n (bits_of line)) n store (receive w.receiver line n ready store)
      (receive-answered w.receiver line n ready store (receiver_in_range_lem o fit w 0 d (record { base = base; phase = inl g }))) g base

  -- from a state with no block on the line, nothing lost and the end not taken
  pub within_five : (cs : List Call) (w : World) (d : ℕ) → IdleLine o w 0 d → Base o w → w.receiver.ended ≡ false
      → Okays o (alarm_stands w.receiver.phase) d (course w cs) → some is_lost (course w cs) ≡ false
      → (before these behind : List Period) → (group (course w cs)).periods ≡ before ++ (these ++ behind) → 5 ≤ length these
      → All (Undisturbed o.k) these → brings is_end before ≡ false → brings brought these ≡ true
  within_five cs w d g base en ok nl before these behind e five un be =
      ⊎_elim (λ y. y)
      (λ y.
      absurd
      (lacks cs w d (record { base = base; phase = inl g }) en ok nl before these behind e five un (loose_none cs w d g base en ok) be y))
      (either (brings brought these))
