-- Writing and reading undo each other. Assumes nothing.
use mathlib.Core.Path.{◌≡◌, refl, sym, ap, ap₂, ◌∙◌, subst}
use mathlib.Core.Bool.{true, not}
use mathlib.Core.List.{List, ◌++◌}
use Rattle.std.proofs.Common.{Result, Ok, Err, IsOkAnd}
use Prim.Native.Nat.{ℕ, ◌≤◌}
use native.Mathlib.Omega.{arith}
use lib.Dec.{ltb}
use lib.ListN.{length, take, drop}
use lib.Seq.{take-append_seam}
use borrow.Author.Tests.{le-ltb, not-false}
use Rattle.block.specs.Answer as A
use Rattle.block.specs.Answer.{Answer, refused, done}
use Rattle.block.proofs.Refusals.{passed_test}
use Rattle.line.specs.WholeOrder.{Bytes}
use Rattle.tint.specs.Refusals as Refusals
use Rattle.tint.specs.Format.{order_bytes, doses_in, is_format, canisters, most_total, in_range_and_order, total, judge_doses}
use Rattle.tint.specs.Calls.{refusal_number, doses_of, write, written_count, written_answer, written_slice, Write, read, order_read_answer, Read}
use Rattle.tint.specs.RoundTrip.{ReadAs, RoundTrip}
use Rattle.tint.specs.declared.Refusal.{Refusal}
use Rattle.tint.specs.declared.Dose.{Dose}
use Rattle.tint.specs.declared.Doses.{Doses}
use Rattle.tint.proofs.Arrays.{length_first_places}
use Rattle.tint.proofs.Entries.{doses_of-entries, length-doses_in, drop-order_bytes, is_format_lem, format-lengths, order_bytes-read, at_most_twelve, not_refused, same_done, judge_good, judged_good, counted-some, counted_good}

-- doses that an order can have
pub record Writable (ds : List Dose) : Type 0 where
  pub some : 1 ≤ length ds
  pub in_order : in_range_and_order 0 ds ≡ true
  pub small : total ds ≤ most_total

-- ---- answers

-- so many bytes were written, and these
bytes_written : (a : Answer (List ℕ)) (n : ℕ) → written_count a ≡ done n → (bytes : List ℕ) × (a ≡ done bytes) × (length bytes ≡ n)
bytes_written (refused m) n h = not_refused m n h
bytes_written (done bytes) n h = (bytes, refl, same_done h)

written_done : (answer : Result ℕ Refusal) (n : ℕ) → written_answer answer ≡ done n → answer ≡ Ok n
written_done (Ok m) n h = ap Ok (same_done h)
written_done (Err r) n h = not_refused (refusal_number r) n h

-- an order read that is not refused
read_good_lem : (r : Result Doses Refusal) (ds : List Dose) → order_read_answer r ≡ done ds → IsOkAnd r (λ d. doses_of d ≡ ds)
read_good_lem (Ok d) ds h = same_done h
read_good_lem (Err r) ds h = not_refused (refusal_number r) ds h

-- ---- what is written

module _ (d : Doses) (slice : List ℕ) where
  writes_order : Writable (doses_of d) → length (order_bytes (doses_of d)) ≤ length slice → write d slice ≡ done (order_bytes (doses_of d))
  unfolding write
  writes_order w room =
      let n = length_first_places d.count d.list in
      let p = w.some in
      let m = at_most_twelve 0 (doses_of d) (omega arith) w.in_order in
      counted-some (doses_of d) _ d.count (omega arith) (omega arith) ∙ judge_good (doses_of d) _ w.in_order w.small
      ∙ rw (le-ltb (length slice) (length (order_bytes (doses_of d))) room) refl

  written_order : (bytes : List ℕ) → write d slice ≡ done bytes → Writable (doses_of d) × (order_bytes (doses_of d) ≡ bytes)
  unfolding write
  written_order bytes h =
      let n = length_first_places d.count d.list in
      let c = counted_good (doses_of d) _ d.count bytes h in
      let j = judged_good (doses_of d) _ bytes c.2 in
      let t = passed_test (ltb (length slice) (length (order_bytes (doses_of d)))) A.short (done (order_bytes (doses_of d))) bytes j.2 in
      (record { some = omega (arith, c.0); in_order = j.0; small = j.1 }, same_done t.1)

-- ---- what is read

pub reads_order : (ds : List Dose) → Writable ds → read (order_bytes ds) ≡ done ds
unfolding read
reads_order ds w = rw (is_format_lem ds w.some, drop-order_bytes ds, doses_of-entries ds) (judge_good ds (done ds) w.in_order w.small)

pub order_read : (order : List ℕ) (ds : List Dose) → read order ≡ done ds
    → Writable ds × (is_format order ≡ true) × (doses_in (drop 3 order) ≡ ds)
unfolding read
order_read order ds h =
    let in_order : List Dose = doses_in (drop 3 order) in
    let f = passed_test (not (is_format order)) Refusals.format (judge_doses in_order (done in_order)) ds h in
    let g : is_format order ≡ true = not-false (is_format order) f.0 in
    let l = format-lengths order g in
    let j = judged_good in_order (done in_order) ds f.1 in
    let p : 1 ≤ length in_order = omega (arith, l.1, l.2, length-doses_in (drop 3 order)) in
    let e : in_order ≡ ds = same_done j.2 in
    (subst Writable e (record { some = p; in_order = j.0; small = j.1 }), g, e)

-- no more than an array holds
pub read_few : (order : List ℕ) (ds : List Dose) → read order ≡ done ds → length ds ≤ canisters
read_few order ds h =
    let w = (order_read order ds h).0 in
    let m = at_most_twelve 0 ds (omega arith) w.in_order in
    omega arith

-- the order is the one encoding of the doses read from it
pub encoded : (order : List ℕ) (ds : List Dose) → Bytes order → read order ≡ done ds → order_bytes ds ≡ order
encoded order ds b h =
    let r = order_read order ds h in
    ap order_bytes (sym r.2) ∙ order_bytes-read order r.1 b

-- ---- there and back

reads_written : (d : Doses) (slice slice' : List ℕ) (n : ℕ) (r : Result Doses Refusal) → Write d slice (Ok n) slice' → Read (take n slice') r
    → ReadAs d r
reads_written d slice slice' n r w g =
    let c = bytes_written (write d slice) n (sym w.answers) in
    let bytes : List ℕ = c.0 in
    let o = written_order d slice bytes c.1 in
    let s : slice' ≡ bytes ++ drop (length bytes) slice = w.writes ∙ ap (written_slice slice) c.1 in
    let t : take n slice' ≡ order_bytes (doses_of d) =
    ap₂ take (sym c.2) s ∙ take-append_seam bytes (drop (length bytes) slice) ∙ sym o.1 in
    read_good_lem r (doses_of d) (g.answers ∙ ap read t ∙ reads_order (doses_of d) o.0)

writes_read : (order slice slice' : List ℕ) (d : Doses) (answer : Result ℕ Refusal) → Bytes order → Read order (Ok d)
    → length order ≤ length slice → Write d slice answer slice'
    → (answer ≡ Ok (length order)) × (slice' ≡ order ++ drop (length order) slice)
writes_read order slice slice' d answer b g room w =
    let ds : List Dose = doses_of d in
    let a : read order ≡ done ds = sym g.answers in
    let e : order_bytes ds ≡ order = encoded order ds b a in
    let f : write d slice ≡ done order =
    writes_order d slice (order_read order ds a).0 (subst (λ (s : List ℕ). length s ≤ length slice) (sym e) room) ∙ ap done e in
    (written_done answer (length order) (w.answers ∙ ap written_count f), w.writes ∙ ap (written_slice slice) f)

one_encoding : (a b : List ℕ) (ds : List Dose) → Bytes a → Bytes b → read a ≡ done ds → read b ≡ done ds → a ≡ b
one_encoding a b ds h k p q = sym (encoded a ds h p) ∙ encoded b ds k q

pub round_trip : RoundTrip
round_trip = record { reads_written = reads_written; writes_read = writes_read; one_encoding = one_encoding }
