-- `read` keeps its promise: the format, then the doses as they are judged. Assumes nothing.
use mathlib.Core.List.{List}
use mathlib.Core.Bool.{true, false}
use mathlib.Core.Path.{◌≡◌, sym, ap, ◌∙◌}
use native.Mathlib.Omega.{arith}
use Prim.Native.Nat.{ℕ, ◌/◌, ◌<◌}
use lib.ListN.{length, drop}
use Rattle.std.specs.Option.{ok_or}
use Rattle.std.proofs.Common.{Option, None, Result, Ok, Err}
use Rattle.std.proofs.lemmas.Option.{MatchOption-at_some, MatchOption-at_none}
use Rattle.std.proofs.lemmas.Result.{err_from_is_err_and}
use Rattle.block.specs.Answer.{Answer, refused, done}
use Rattle.tint.specs.Format.{doses_in, is_format, judge_doses}
use Rattle.tint.specs.Calls.{refusal_number, doses_of, doses_from, read, doses_read, Read}
use Rattle.tint.specs.declared.Refusal.{Refusal}
use Rattle.tint.specs.declared.Refusal.TheVariants as N
use Rattle.tint.specs.declared.Dose.{Dose}
use Rattle.tint.specs.declared.Doses.{Doses}
use Rattle.tint.proofs.Entries.{length-doses_in, thirteen_fail, judge-entry, judge_good, judged_good, judged_refused}
use Rattle.tint.proofs.Arrays.{doses_of-doses_from}
use Rattle.tint.proofs.read.Goals as goal
use Rattle.tint.proofs.read.Goals.{In_ok-entries, After-held}

abbrev judge : List Dose → Answer (Unit {0})
judge ds = judge_doses ds (done tt)

module _ (order : List ℕ) where
  abbrev ds : List Dose
  ds = doses_in (drop 3 order)

  turned : (r : Refusal) → read order ≡ refused (refusal_number r) → Read order (Err r)
  turned r h = record { answers = sym h; doses = sym (ap doses_read h) }

  other_format : is_format order ≡ false → Read order (Err N.Format)
  unfolding read
  other_format f = turned N.Format (rw f)

  module _ (f : is_format order ≡ true) where
    in_format : read order ≡ judge_doses ds (done ds)
    unfolding read
    in_format = rw f

    too_many : 12 < length (drop 3 order) / 3 → Read order (Err N.Entry)
    too_many h =
        let n = length-doses_in (drop 3 order) in
        turned N.Entry (in_format ∙ judge-entry ds (done ds) (thirteen_fail ds (omega arith)))

    bad : (r : Refusal) → refused (refusal_number r) ≡ judge ds → Read order (Err r)
    bad r h = turned r (in_format ∙ judged_refused ds (done ds) (refusal_number r) h)

    good : (d : Doses) → d ≡ doses_from ds → done tt ≡ judge ds → Read order (Ok d)
    good d e h =
        let j = judged_good ds (done tt) tt (sym h) in
        let r : read order ≡ done ds = in_format ∙ judge_good ds (done ds) j.0 j.1 in
        record { answers = ap done (ap doses_of e ∙ doses_of-doses_from ds) ∙ sym r; doses = e ∙ sym (ap doses_read r) }

-- no entries are refused as the format
format_refused : {A : Type 0} (o : Option A) (r : Refusal) → ◌≡◌ {A = Result A Refusal} (Err r) (ok_or o N.Format) → o ≡ None → r ≡ N.Format
format_refused {A} o r h e =
    let k : ◌≡◌ {A = Result A Refusal} (Err r) (Err N.Format) = h ∙ ap (λ (x : Option A). ok_or x N.Format) e in cc k

-- the format was found
formed : (c : In_ok-entries) → (is_format c.args.order.now ≡ true) × (c.in_ok-entries.entries.now ≡ drop 3 c.args.order.now)
formed c = MatchOption-at_some _ _ _ c.in_ok-entries.ensures.ok_part c.entries_of.ensures

-- the doses that were loaded
loaded : (c : After-held) → c.in_ok-entries.entries.now ≡ drop 3 c.args.order.now → let ds : List Dose = doses_in (drop 3 c.args.order.now) in
    (c.load_entries-doses.result ≡ doses_from ds) × (c.held.result.now ≡ ds)
loaded c e =
    let ds : List Dose = doses_in (drop 3 c.args.order.now) in
    let f : c.load_entries-doses.result ≡ doses_from ds = c.load_entries-doses.ensures ∙ ap (λ (s : List ℕ). doses_from (doses_in s)) e in
    (f, c.held.ensures ∙ ap doses_of f ∙ doses_of-doses_from ds)

pub returns-in_err-entries : goal.returns-in_err-entries
returns-in_err-entries c = let p = err_from_is_err_and c.from_residual.result c.from_residual.ensures.1 in
    rw (p.1, p.2, format_refused _ _ c.in_err-entries.ensures.value c.in_err-entries.ensures.ok_part) (other_format c.args.order.now (MatchOption-at_none _ _ c.in_err-entries.ensures.ok_part c.entries_of.ensures))

pub returns-then-entries-gt-CANISTERS : goal.returns-then-entries-gt-CANISTERS
returns-then-entries-gt-CANISTERS c = let f = formed (goal.at.returns-then-entries-gt-CANISTERS c).In_ok-entries in
    too_many c.args.order.now f.0 (omega (arith, ap length f.1))

pub returns-in_err-judge_doses : goal.returns-in_err-judge_doses
returns-in_err-judge_doses c = let p = err_from_is_err_and c.from_residual-in_err-judge_doses.result c.from_residual-in_err-judge_doses.ensures.1 in
    let f = formed (goal.at.returns-in_err-judge_doses c).In_ok-entries in
    rw (p.1, p.2) (bad c.args.order.now f.0 _
    (c.in_err-judge_doses.ensures ∙ ap judge (loaded (goal.at.returns-in_err-judge_doses c).After-held f.1).1))

pub returns : goal.returns
returns c = let f = formed (goal.at.returns c).In_ok-entries in
    let l = loaded (goal.at.returns c).After-held f.1 in
    good c.args.order.now f.0 _ l.0 (c.in_ok-judge_doses.ensures ∙ ap judge l.1)
