-- `write` keeps its promise: what judging refuses, then a slice too short, then the order written. Assumes nothing.
use borrow.Author.Tests.{lt-ltb, le-ltb}
use mathlib.Core.List.{List, ◌++◌}
use mathlib.Core.Bool.{Bool, true}
use mathlib.Core.Path.{◌≡◌, sym, ap, ap₂, ◌∙◌}
use native.Mathlib.Omega.{arith}
use Prim.Native.Nat.{ℕ, ◌+◌, ◌*◌, ◌≤◌, ◌<◌}
use lib.Dec.{ltb}
use lib.ListN.{length, drop}
use Rattle.std.proofs.Common.{Ok, Err}
use Rattle.std.proofs.lemmas.Result.{err_from_is_err_and}
use Rattle.block.specs.Answer as A
use Rattle.block.specs.Answer.{refused, done, refuse_if}
use Rattle.tint.specs.Format.{order_bytes, in_range_and_order}
use Rattle.tint.specs.Calls.{refusal_number, doses_of, judge, write, written_count, written_slice, Write}
use Rattle.tint.specs.Code.{head_bytes, low_entries}
use Rattle.tint.specs.declared.Refusal.{Refusal}
use Rattle.tint.specs.declared.Refusal.TheVariants as N
use Rattle.tint.specs.declared.Dose.{Dose}
use Rattle.tint.specs.declared.Doses.{Doses}
use Rattle.tint.proofs.Arrays.{length_first_places}
use Rattle.tint.proofs.Entries.{length-order_bytes, rising_order_bytes, judge_good, judged_good, counted-some, counted_good, counted_refused, judged_few}
use Rattle.tint.proofs.write.Goals as goal
use Rattle.tint.proofs.write.Goals.{In_ok-judge}

module _ (d : Doses) (slice : List ℕ) where
  abbrev ds : List Dose
  ds = doses_of d

  -- the doses, judged, are refused
  turned : (r : Refusal) → refused (refusal_number r) ≡ judge d → Write d slice (Err r) slice
  unfolding write
  turned r e =
      let w : write d slice ≡ refused (refusal_number r) = counted_refused ds _ (refusal_number r) d.count e in
      record { answers = sym (ap written_count w); writes = sym (ap (written_slice slice) w) }

  module _ (e : done tt ≡ judge d) where
    rises : in_range_and_order 0 ds ≡ true
    rises = (judged_good ds (done tt) tt (counted_good ds (done tt) d.count tt (sym e)).2).0

    bytes : length (order_bytes ds) ≡ 3 + d.count * 3
    bytes = length-order_bytes ds ∙ ap (λ (n : ℕ). 3 + n * 3) (length_first_places d.count d.list)

    -- what is left to be tested
    room : (t : Bool) → ltb (length slice) (length (order_bytes ds)) ≡ t → write d slice ≡ refuse_if t A.short (done (order_bytes ds))
    unfolding write
    room t h =
        let j = judged_good ds (done tt) tt (counted_good ds (done tt) d.count tt (sym e)).2 in
        let few = judged_few d (record { answers = e }) in
        counted-some ds _ d.count few.0 few.1 ∙ judge_good ds _ j.0 j.1
        ∙ ap (λ (b : Bool). refuse_if b A.short (done (order_bytes ds))) h

    short : length slice < 3 + d.count * 3 → Write d slice (Err N.Short) slice
    short h =
        let n = bytes in
        let r = room _ (lt-ltb (length slice) (length (order_bytes ds)) (omega arith)) in
        record { answers = sym (ap written_count r); writes = sym (ap (written_slice slice) r) }

    written : (slice' : List ℕ) → 3 + d.count * 3 ≤ length slice
        → slice' ≡ (head_bytes (length ds * 3) ++ low_entries ds) ++ drop (3 + length ds * 3) slice
        → Write d slice (Ok (3 + d.count * 3)) slice'
    written slice' h w =
        let n = bytes in
        let r = room _ (le-ltb (length slice) (length (order_bytes ds)) (omega arith)) in
        record {
          answers = ap done (sym n) ∙ sym (ap written_count r);
          writes =
              w ∙ ap₂ (λ (x : List ℕ) (k : ℕ). x ++ drop k slice) (rising_order_bytes ds rises) (sym (length-order_bytes ds))
              ∙ sym (ap (written_slice slice) r);
        }

-- the doses were judged good
good : (c : In_ok-judge) → done tt ≡ judge c.args.doses
good c = c.in_ok-judge.ensures.answers

pub returns-in_err-judge : goal.returns-in_err-judge
returns-in_err-judge c = let p = err_from_is_err_and c.from_residual.result c.from_residual.ensures.1 in
    rw (p.1, p.2) (turned c.args.doses c.args.order.now _ c.in_err-judge.ensures.answers)

pub returns-then-order-bytes : goal.returns-then-order-bytes
returns-then-order-bytes c = short c.args.doses c.args.order.now (good (goal.at.returns-then-order-bytes c).In_ok-judge) c.if-order-bytes.true

pub returns : goal.returns
returns c = let a = c.args in
    written a.doses a.order.now (good (goal.at.returns c).In_ok-judge) _ c.if-order-bytes.false
    (c.write_order.ensures
    ∙ ap (λ (ds : List Dose). (head_bytes (length ds * 3) ++ low_entries ds) ++ drop (3 + length ds * 3) a.order.now) c.held.ensures)
