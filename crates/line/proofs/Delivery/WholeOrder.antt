-- What a layer above takes from demand 3 (specs/WholeOrder.antt): with the end reported, the store begins with the order.
-- Assumes nothing.
use mathlib.Core.Path.{◌≡◌, refl, ap, ap₂, sym, ◌∙◌, subst}
use mathlib.Core.Logic.{⊎_elim}
use mathlib.Core.Bool.{Bool, true, false, ◌||◌, false≢true}
use mathlib.Core.List.{List, [], ◌∷◌}
use mathlib.Core.Option.{Option}
use native.Mathlib.Omega.{arith}
use Prim.Native.Nat.{ℕ, ◌-◌, ◌*◌, ◌≤◌, ◌<◌}
use lib.Dec.{eqb}
use lib.ListN.{length, take}
use lib.Seq.{take_at, take-take}
use borrow.Author.Tests.{eq-eqb}
use Rattle.crc.specs.Bits.{Bits, bits_of, bytes_of, zeros}
use Rattle.crc.proofs.Bytes.{length-bits_of, take-bits_of, take_bytes, bytes_of_lt, bytes_of-bits_of}
use Rattle.block.specs.Answer.{Answer, refused, done}
use Rattle.line.specs.Order.{item_count, filled, order_bits}
use Rattle.line.specs.Sending.{Block, send}
use Rattle.line.specs.Receiving.{with_length, meaning, Reception, receive, store_at}
use Rattle.line.specs.Course.{Call, sending, receiving, World, opened, Entry, send_after, receive_entry, receive_after, entry, next, course, final}
use Rattle.line.specs.Delivery.{All, some, kind_of, is_end, reports_end, SameStore, accepted, Guarantees}
use Rattle.line.specs.WholeOrder.{Bytes, WholeOrder}
use Rattle.block.proofs.Lengths.{length_facts}
use Rattle.block.proofs.Truth.{or_true, or_yes, cond_case}
use Rattle.line.proofs.Items.{item_count-holds, length-order_bits}
use Rattle.line.proofs.Delivery.CallList.{by_heard}
use Rattle.line.proofs.Delivery.Theorem.{opened_well, guaranteed}

-- the end reported is reported with some length
length-reported : (l : Option ℕ) → with_length false (λ M. true) l ≡ true → (L : ℕ) × (with_length false (λ M. eqb M L) l ≡ true)
length-reported Option.none h = absurd (false≢true h)
length-reported (Option.some M) h = (M, eq-eqb M M refl)

entry_reports : (e : Entry) → is_end e ≡ true → (L : ℕ) × (reports_end L e ≡ true)
entry_reports = by_heard (λ e. (L : ℕ) × (reports_end L e ≡ true)) _ (λ y. length-reported (kind_of y).length)

pub some_reports : (es : List Entry) → some is_end es ≡ true → (L : ℕ) × (some (reports_end L) es ≡ true)
some_reports [] h = absurd (false≢true h)
some_reports (e ∷ es) h =
    ⊎_elim
    (λ a. let z = entry_reports e a in (z.0, ap (λ (b : Bool). b || some (reports_end z.0) es) z.1))
    (λ a. let z = some_reports es a in (z.0, ap (λ (b : Bool). reports_end z.0 e || b) z.1 ∙ or_yes (reports_end z.0 e)))
    (or_true (is_end e) (some is_end es) h)

-- the order's bits are the first of its items'
begins_filled : (k L : ℕ) (content : Bits) → length content ≡ L → take L (filled k L content) ≡ content
unfolding filled
begins_filled k L content h = take_at content (zeros (item_count k L * k - L)) L h

all_stored : (k L : ℕ) (content : Bits) (initial_store : List ℕ) (es : List Entry) (w : World) → 0 < k → length content ≡ L
    → Guarantees k L content initial_store es w → some is_end es ≡ true → take L (bits_of w.store) ≡ content
all_stored k L content initial_store es w pos long g e =
    let m = some_reports es e in
    let n : accepted es * k ≡ item_count k L * k = ap (λ (r : ℕ). r * k) (g.ended m.0 m.1).0 in
    let le : L ≤ accepted es * k = omega (arith, n, item_count-holds k L pos) in
    sym (take-take L (accepted es * k) (bits_of w.store) le) ∙ ap (take L) g.stored
    ∙ take-take L (accepted es * k) (filled k L content) le ∙ begins_filled k L content long

-- ---- bits and bytes

same_bytes : (m : ℕ) (s t : List ℕ) → Bytes s → Bytes t
    → take (8 * m) (bits_of s) ≡ take (8 * m) (bits_of t) → take m s ≡ take m t
same_bytes m s t a b e =
    let bits : bits_of (take m s) ≡ bits_of (take m t) = sym (take-bits_of m s) ∙ e ∙ take-bits_of m t in
    let long : length (take m s) ≡ length (take m t) =
    omega (arith, length-bits_of (take m s), length-bits_of (take m t), ap length bits) in
    sym (bytes_of-bits_of (take m s) (take_bytes m s a)) ∙ ap₂ bytes_of long bits ∙ bytes_of-bits_of (take m t) (take_bytes m t b)

-- ---- the store stays bytes

sent_bytes_lem : (w : World) (reading : Bool) (arrives : Bits) (a : Answer Block) → Bytes w.store → Bytes (send_after w reading arrives a).store
sent_bytes_lem w reading arrives (refused n) b = b
sent_bytes_lem w reading arrives (done x) b = b

heard_bytes : (w : World) (lent : Bits) (store : List ℕ) (a : Answer Reception) → SameStore (receive_entry w lent store a)
    → Bytes w.store → Bytes (receive_after w store a).store
unfolding store_at
heard_bytes w lent store (refused n) h b = b
heard_bytes w lent store (done x) h b =
    cond_case Bytes (meaning x.rule).stores (λ e. bytes_of_lt (length store) _) (λ e. subst Bytes (sym h) b)

call_bytes : (w : World) (c : Call) → SameStore (entry w c) → Bytes w.store → Bytes (next w c).store
call_bytes w (sending order reading slice arrives) h = sent_bytes_lem w reading arrives (send w.sender order reading slice)
call_bytes w (receiving line count ready store) h =
    heard_bytes w (take count (bits_of line)) store (receive w.receiver line count ready store) h

kept_bytes : (calls : List Call) (w : World) → All SameStore (course w calls) → Bytes w.store → Bytes (final w calls).store
kept_bytes [] w h b = b
kept_bytes (c ∷ calls) w h b = kept_bytes calls (next w c) h.1 (call_bytes w c h.0 b)

-- ---- from the openings

pub whole_order : WholeOrder
unfolding WholeOrder
whole_order k speed loop_ms L sender_size receiver_size order s r initial_store h calls a e = record { bits = bits; bytes = bytes }
  where
    start : World
    start = opened s r.state initial_store

    bits : take L (bits_of (final start calls).store) ≡ take L (bits_of order)
    bits =
        let o = opened_well k speed loop_ms L sender_size receiver_size order s r initial_store h in
        all_stored k L (order_bits L order) initial_store (course start calls) (final start calls) (omega (arith, length_facts k o.known))
        (length-order_bits L order o.lent) (guaranteed k speed loop_ms L sender_size receiver_size order s r initial_store h calls a) e

    bytes : (m : ℕ) → L ≡ 8 * m → Bytes order → Bytes initial_store → take m (final start calls).store ≡ take m order
    bytes m q b c =
        same_bytes m (final start calls).store order (kept_bytes calls start a.store c) b
        (ap (λ (n : ℕ). take n (bits_of (final start calls).store)) (sym q) ∙ bits ∙ ap (λ (n : ℕ). take n (bits_of order)) q)
