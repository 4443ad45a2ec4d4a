-- A receiving call keeps what opening fixed. Assumes nothing.
use mathlib.Core.Path.{◌≡◌, refl}
use mathlib.Core.Bool.{Bool, ◌||◌}
use mathlib.Core.List.{List}
use Prim.Native.Nat.{ℕ, ◌+◌}
use lib.Dec.{eqb, leb}
use lib.ListN.{take}
use Rattle.crc.specs.Bits.{bits_of}
use Rattle.block.specs.Answer.{done}
use Rattle.block.proofs.Truth.{cond_case}
use Rattle.line.specs.Receiving.{Rule, unfinished, standing, sequence_found, reads_sync, check_fails, accepts, previous, out_of_sequence, ends, wrong_length, ends_again, anything_else, waits, last_bad, after_bad, after, block_rule, finished_row, Reception, receive}
use Rattle.line.specs.declared.receiver.Receiver.{Receiver}
use Rattle.line.proofs.ReceptionCases.{received_case}

module _ (s : Receiver) where
  bad_setup : (t : Bool) → (after_bad s t).setup ≡ s.setup
  bad_setup t = cond_case (λ (r : Receiver). r.setup ≡ s.setup) t (λ e. refl) (λ e. refl)

  after_setup : (x : Rule) → (after s x).setup ≡ s.setup
  after_setup unfinished = refl
  after_setup (standing alarm) = refl
  after_setup sequence_found = refl
  after_setup reads_sync = refl
  after_setup (check_fails n) = bad_setup (leb last_bad (s.bad_row + 1))
  after_setup accepts = refl
  after_setup previous = refl
  after_setup out_of_sequence = refl
  after_setup (ends L) = refl
  after_setup wrong_length = refl
  after_setup ends_again = refl
  after_setup anything_else = bad_setup (leb last_bad (s.bad_row + 1) || eqb s.taken 0)
  after_setup waits = refl

  pub received_setup : (line : List ℕ) (count : ℕ) (ready : Bool) (store : List ℕ) (x : Reception) → receive s line count ready store ≡ done x
      → x.state.setup ≡ s.setup
  received_setup line count ready store x =
      received_case s line count ready (λ (y : Reception). y.state.setup ≡ s.setup) (λ z. refl) (λ window used e. refl) (λ p used h e. refl)
      refl (λ p h. after_setup (block_rule s (finished_row s (take count (bits_of line))) ready)) refl refl store x
