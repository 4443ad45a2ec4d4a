-- The tint order's calls: what each answers, writes and hands back, and its promise. Assumes nothing.
use Rattle.std.specs.Prelude.{◌≡◌, not, List, [], ◌∷◌, ◌++◌, ℕ, zero, suc, ◌-◌, eqb, ltb, length, drop, replicate, Result, Ok, Err}
use Rattle.block.specs.Answer as A
use Rattle.block.specs.Answer.{Answer, refused, done, refuse_if}
use Rattle.tint.specs.Refusals as Refusals
use Rattle.tint.specs.Format.{order_bytes, doses_in, is_format, canisters, judge_doses}
use Rattle.tint.specs.declared.Refusal.{Refusal}
use Rattle.tint.specs.declared.Refusal.TheVariants as N
use Rattle.tint.specs.declared.Dose.{Dose}
use Rattle.tint.specs.declared.Doses.{Doses}

-- ---- a refusal's number

abbrev pub refusal_number : Refusal → ℕ
refusal_number N.Short = A.short
refusal_number N.Format = Refusals.format
refusal_number N.Entry = Refusals.entry
refusal_number N.Steps = Refusals.steps

-- ---- doses in an array

-- what stands behind the doses
abbrev pub no_dose : Dose
no_dose = record { canister = 0; steps = 0 }

-- the first n places of an array; behind its last there is no dose
abbrev pub first_places : ℕ → List Dose → List Dose
first_places zero ds = []
first_places (suc n) [] = no_dose ∷ first_places n []
first_places (suc n) (d ∷ ds) = d ∷ first_places n ds

-- the first `count` places; two structs hold the same doses if these are equal
abbrev pub doses_of : Doses → List Dose
doses_of d = first_places d.count d.list

-- an array of 12 that begins with these doses, with none behind them
abbrev pub filled_up : List Dose → List Dose
filled_up ds = ds ++ replicate (canisters - length ds) no_dose

abbrev pub doses_from : List Dose → Doses
doses_from ds = record { count = length ds; list = filled_up ds }

-- ---- doses judged: 10, 11, 12

-- `count` doses are meant, and these are there
unfoldable pub judge_counted : {A : Type 0} → ℕ → List Dose → Answer A → Answer A
judge_counted count ds next =
    refuse_if (eqb count 0) Refusals.format (refuse_if (ltb canisters count) Refusals.entry (judge_doses ds next))

abbrev pub judge : Doses → Answer (Unit {0})
judge d = judge_counted d.count (doses_of d) (done tt)

abbrev pub judged_answer : Result Unit Refusal → Answer (Unit {0})
judged_answer (Ok u) = done tt
judged_answer (Err r) = refused (refusal_number r)

pub record Judge (d : Doses) (answer : Result Unit Refusal) : Type 0 where
  pub answers : judged_answer answer ≡ judge d

-- ---- an order written: 10, 11, 12, 6

-- the bytes to write
unfoldable pub write : Doses → List ℕ → Answer (List ℕ)
write d slice =
    judge_counted d.count (doses_of d)
    (refuse_if (ltb (length slice) (length (order_bytes (doses_of d)))) A.short (done (order_bytes (doses_of d))))

-- how many they are
abbrev pub written_count : Answer (List ℕ) → Answer ℕ
written_count (refused n) = refused n
written_count (done bytes) = done (length bytes)

abbrev pub written_answer : Result ℕ Refusal → Answer ℕ
written_answer (Ok bytes) = done bytes
written_answer (Err r) = refused (refusal_number r)

abbrev pub written_slice : List ℕ → Answer (List ℕ) → List ℕ
written_slice slice (refused n) = slice
written_slice slice (done bytes) = bytes ++ drop (length bytes) slice

pub record Write (d : Doses) (slice : List ℕ) (answer : Result ℕ Refusal) (slice' : List ℕ) : Type 0 where
  pub answers : written_answer answer ≡ written_count (write d slice)
  pub writes : slice' ≡ written_slice slice (write d slice)

-- ---- an order read, the slice lent being the whole of it: 10, 11, 12

unfoldable pub read : List ℕ → Answer (List Dose)
read order =
    refuse_if (not (is_format order)) Refusals.format (judge_doses (doses_in (drop 3 order)) (done (doses_in (drop 3 order))))

abbrev pub order_read_answer : Result Doses Refusal → Answer (List Dose)
order_read_answer (Ok d) = done (doses_of d)
order_read_answer (Err r) = refused (refusal_number r)

-- the doses handed back; refused, none are
abbrev pub doses_handed : Result Doses Refusal → Doses
doses_handed (Ok d) = d
doses_handed (Err r) = doses_from []

abbrev pub doses_read : Answer (List Dose) → Doses
doses_read (refused n) = doses_from []
doses_read (done ds) = doses_from ds

pub record Read (order : List ℕ) (r : Result Doses Refusal) : Type 0 where
  pub answers : order_read_answer r ≡ read order
  pub doses : doses_handed r ≡ doses_read (read order)
