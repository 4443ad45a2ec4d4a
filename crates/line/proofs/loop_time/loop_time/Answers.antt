-- `loop_time` answers as the definition: what is in the table stands at its place. Assumes nothing.
use borrow.Author.Tests.{lt-ltb, le-ltb}
use borrow.Author.Rules.{rules}
use mathlib.Core.Path.{◌≡◌, refl, ap, sym, ◌∙◌}
use mathlib.Core.Bool.{Bool, true, false, cond, not, ◌||◌}
use Prim.Native.Nat.{ℕ}
use lib.Dec.{eqb, ltb}
use lib.ListN.{get_or}
use Rattle.std.specs.Prelude.{Option, Some, None, Err, ok_or}
use Rattle.std.specs.List.{position}
use Rattle.std.proofs.Common.{tests}
use Rattle.std.proofs.lemmas.Iterator.{YieldsList-from_slice}
use Rattle.std.proofs.lemmas.Iterator.Search.{position_from_yields_List}
use Rattle.std.proofs.lemmas.Result.{err_from_is_err_and}
use Rattle.line.specs.Refusals as Refusals
use Rattle.block.specs.Answer as A
use Rattle.block.specs.Answer.{Answer, refused, done, refuse_if}
use Rattle.block.specs.Lengths.{lengths, is_length}
use Rattle.line.specs.Code.Table.{entry}
use Rattle.line.specs.LoopTime.{speeds, is_speed, has_entry, longest_loop, loop_time}
use Rattle.line.specs.declared.Refusal.{Refusal}
use Rattle.line.specs.declared.Refusal.TheVariants as R
use Rattle.line.proofs.Table.{Place, no_place, a_place}
use Rattle.line.proofs.loop_time.loop_time.Goals as goal
use Rattle.line.proofs.loop_time.loop_time.Goals.{In_ok-row, In_ok-column, After-longest_loop}

-- a refusal by `ok_or`
refused_by : (o : Option ℕ) (r s t : Refusal) → o ≡ None → Err s ≡ ok_or o r → t ≡ s → t ≡ r
refused_by None r s t n e h = cc
refused_by (Some i) r s t n e h = cc

-- what is answered where the table has this
judged : ℕ → Option ℕ → Answer (Unit {0})
judged loop_ms None = refused Refusals.loop_time
judged loop_ms (Some limit) = refuse_if (ltb limit loop_ms) Refusals.loop_time (done tt)

judged_entry : (loop_ms limit : ℕ) (has : Bool)
    → judged loop_ms (cond has (Some limit) None) ≡ refuse_if (not has || ltb limit loop_ms) Refusals.loop_time (done tt)
unfolding judged
judged_entry loop_ms limit true = refl
judged_entry loop_ms limit false = refl

-- what the places of k and of a speed tell
module _ (k speed loop_ms : ℕ) where
  no_length : position (λ l. eqb l k) lengths ≡ None → refused A.block ≡ loop_time k speed loop_ms
  unfolding loop_time is_length
  no_length e = simp (no_place k lengths e)

  module _ (row : ℕ) (p : Place k lengths row) where
    no_speed : position (λ l. eqb l speed) speeds ≡ None → refused Refusals.speed ≡ loop_time k speed loop_ms
    unfolding loop_time is_length is_speed
    no_speed e = simp (p.among, no_place speed speeds e)

    tested : (column : ℕ) (q : Place speed speeds column) (o : Option ℕ)
        → o ≡ entry (get_or lengths row 0) (get_or speeds column 0) → judged loop_ms o ≡ loop_time k speed loop_ms
    unfolding loop_time is_length is_speed
    tested column q o e =
        let f : o ≡ entry k speed = rw (p.here, q.here) at e in
        ap (judged loop_ms) f ∙ judged_entry loop_ms (longest_loop k speed) (has_entry k speed)
        ∙ sym (simp (p.among, q.among))

pub returns-in_err-row : goal.returns-in_err-row
returns-in_err-row c =
    let a = c.args in
    let p = err_from_is_err_and c.from_residual.result c.from_residual.ensures.1 in
    let e = position_from_yields_List (λ l. eqb l a.k) _ _ c.position.result c.position.ensures.ran (YieldsList-from_slice lengths c.iter.ensures.rest) (λ x b q k. search (rules, tests)) in
    let f = c.in_err-row.ensures in
    let r : p.0 ≡ R.Block = refused_by c.position.result R.Block _ _ f.ok_part f.value p.2 in
    record { answers = rw (p.1, r) (no_length a.k a.speed a.loop_ms (sym e ∙ f.ok_part)) }

row_position : (c : In_ok-row) → Place c.args.k lengths c.in_ok-row.row
row_position c =
    let e = position_from_yields_List (λ l. eqb l c.args.k) _ _ c.position.result c.position.ensures.ran (YieldsList-from_slice lengths c.iter.ensures.rest) (λ x b q k. search (rules, tests)) in
    a_place c.args.k lengths c.in_ok-row.row (sym e ∙ c.in_ok-row.ensures.ok_part)

pub returns-in_err-column : goal.returns-in_err-column
returns-in_err-column c =
    let a = c.args in
    let p = err_from_is_err_and c.from_residual-in_err-column.result c.from_residual-in_err-column.ensures.1 in
    let e = position_from_yields_List (λ l. eqb l a.speed) _ _ c.position-2.result c.position-2.ensures.ran (YieldsList-from_slice speeds c.iter-2.ensures.rest) (λ x b q k. search (rules, tests)) in
    let f = c.in_err-column.ensures in
    let r : p.0 ≡ R.Speed = refused_by c.position-2.result R.Speed _ _ f.ok_part f.value p.2 in
    record {
      answers =
          rw (p.1, r)
          (no_speed a.k a.speed a.loop_ms c.in_ok-row.row (row_position (goal.at.returns-in_err-column c).In_ok-row) (sym e ∙ f.ok_part));
    }

column_position : (c : In_ok-column) → Place c.args.speed speeds c.in_ok-column.column
column_position c =
    let e = position_from_yields_List (λ l. eqb l c.args.speed) _ _ c.position-2.result c.position-2.ensures.ran (YieldsList-from_slice speeds c.iter-2.ensures.rest) (λ x b q k. search (rules, tests)) in
    a_place c.args.speed speeds c.in_ok-column.column (sym e ∙ c.in_ok-column.ensures.ok_part)

pub longest_loop-requires : goal.longest_loop-requires
longest_loop-requires c =
    ((row_position (goal.at.longest_loop-requires c).In_ok-row).within, (column_position c).within)

-- the answer where the table has an entry, and where it has none
found : (c : After-longest_loop) → judged c.args.loop_ms c.longest_loop.result ≡ loop_time c.args.k c.args.speed c.args.loop_ms
found c =
    tested _ _ _ _ (row_position (goal.at-After-longest_loop c).In_ok-row) _ (column_position (goal.at-After-longest_loop c).In_ok-column) _ c.longest_loop.ensures

pub returns-in-Some : goal.returns-in-Some
unfolding judged
returns-in-Some c = record { answers = rw (c.in-Some.is, le-ltb _ _ c.if-loop_ms-limit.true) at (found (goal.at.returns-in-Some c).After-longest_loop) }

pub returns-in_default : goal.returns-in_default
unfolding judged
returns-in_default c = record { answers = rw (c.in-Some.is, lt-ltb _ _ c.if-loop_ms-limit.false) at (found (goal.at.returns-in_default c).After-longest_loop) }

pub returns-in_default-2 : goal.returns-in_default-2
unfolding judged
returns-in_default-2 c = record { answers = rw c.in_default.is at (found (goal.at.returns-in_default-2 c).After-longest_loop) }
