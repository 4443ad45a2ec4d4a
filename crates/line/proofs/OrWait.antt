-- Laws of the step to *wait*: at ready it is the identity; it makes no data of what is none; not ready, nothing is taken.
-- Assumes nothing.
use mathlib.Core.Path.{◌≡◌, refl}
use mathlib.Core.Bool.{Bool, true, false, ◌||◌, true≢false}
use mathlib.Core.Option.{none}
use Prim.Native.Nat.{ℕ, ◌+◌}
use native.Mathlib.Omega.{arith}
use lib.Dec.{eqb, leb}
use Rattle.block.proofs.Truth.{cond_case}
use Rattle.line.specs.Receiving.{Rule, unfinished, standing, sequence_found, reads_sync, check_fails, accepts, previous, out_of_sequence, ends, wrong_length, ends_again, anything_else, waits, meaning, event_kind, or_wait, last_bad, after_bad, after}
use Rattle.line.specs.declared.receiver.Receiver.{Receiver}

pub at_ready : (x : Rule) → or_wait true x ≡ x
at_ready unfinished = refl
at_ready (standing alarm) = refl
at_ready sequence_found = refl
at_ready reads_sync = refl
at_ready (check_fails r) = refl
at_ready accepts = refl
at_ready previous = refl
at_ready out_of_sequence = refl
at_ready (ends L) = refl
at_ready wrong_length = refl
at_ready ends_again = refl
at_ready anything_else = refl
at_ready waits = refl

pub same_data_or_end : (ready : Bool) (x : Rule) → (meaning (or_wait ready x)).data_or_end ≡ (meaning x).data_or_end
same_data_or_end ready unfinished = refl
same_data_or_end ready (standing alarm) = refl
same_data_or_end ready sequence_found = refl
same_data_or_end ready reads_sync = refl
same_data_or_end ready (check_fails r) = refl
same_data_or_end ready accepts = cond_case (λ (x : Rule). (meaning x).data_or_end ≡ true) ready (λ e. refl) (λ e. refl)
same_data_or_end ready previous = refl
same_data_or_end ready out_of_sequence = refl
same_data_or_end ready (ends L) = cond_case (λ (x : Rule). (meaning x).data_or_end ≡ true) ready (λ e. refl) (λ e. refl)
same_data_or_end ready wrong_length = refl
same_data_or_end ready ends_again = refl
same_data_or_end ready anything_else = refl
same_data_or_end ready waits = refl

-- ---- not ready

-- what reports neither a new block nor the end stays
pub others_stay : (x : Rule) → (event_kind (meaning x).event).new ≡ false → (event_kind (meaning x).event).length ≡ none → or_wait false x ≡ x
others_stay unfinished n e = refl
others_stay (standing alarm) n e = refl
others_stay sequence_found n e = refl
others_stay reads_sync n e = refl
others_stay (check_fails r) n e = refl
others_stay accepts n e = absurd (true≢false n)
others_stay previous n e = refl
others_stay out_of_sequence n e = refl
others_stay (ends L) n e = absurd (let z : ◌≡◌ {A = ℕ} 0 1 = cc in omega arith)
others_stay wrong_length n e = refl
others_stay ends_again n e = refl
others_stay anything_else n e = refl
others_stay waits n e = refl

pub stores_nothing : (x : Rule) → (meaning (or_wait false x)).stores ≡ false
stores_nothing unfinished = refl
stores_nothing (standing alarm) = refl
stores_nothing sequence_found = refl
stores_nothing reads_sync = refl
stores_nothing (check_fails r) = refl
stores_nothing accepts = refl
stores_nothing previous = refl
stores_nothing out_of_sequence = refl
stores_nothing (ends L) = refl
stores_nothing wrong_length = refl
stores_nothing ends_again = refl
stores_nothing anything_else = refl
stores_nothing waits = refl

module _ (s : Receiver) where
  -- the items and the end as they were
  abbrev Same : Receiver → Type 0
  Same t = (t.taken ≡ s.taken) × (t.ended ≡ s.ended)

  same_bad : (search : Bool) → Same (after_bad s search)
  same_bad search = cond_case Same search (λ e. (refl, refl)) (λ e. (refl, refl))

  pub takes_nothing : (x : Rule) → Same (after s (or_wait false x))
  takes_nothing unfinished = (refl, refl)
  takes_nothing (standing alarm) = (refl, refl)
  takes_nothing sequence_found = (refl, refl)
  takes_nothing reads_sync = (refl, refl)
  takes_nothing (check_fails r) = same_bad (leb last_bad (s.bad_row + 1))
  takes_nothing accepts = (refl, refl)
  takes_nothing previous = (refl, refl)
  takes_nothing out_of_sequence = (refl, refl)
  takes_nothing (ends L) = (refl, refl)
  takes_nothing wrong_length = (refl, refl)
  takes_nothing ends_again = (refl, refl)
  takes_nothing anything_else = same_bad (leb last_bad (s.bad_row + 1) || eqb s.taken 0)
  takes_nothing waits = (refl, refl)
