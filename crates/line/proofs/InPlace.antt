-- A receiving call in place is the call on the receiver of its head and array. Assumes nothing.
use mathlib.Core.Path.{◌≡◌, sym, ap, ◌∙◌}
use mathlib.Core.Bool.{Bool}
use mathlib.Core.List.{List}
use Prim.Native.Nat.{ℕ}
use borrow.Author.Tests.{eq-eqb, ne_eqb}
use lib.ListN.{length}
use Rattle.line.specs.Receiving.{array_bytes, receive, reported, receive_state, receive_store, Receive}
use Rattle.line.specs.ReceivingInPlace.{with_array, receive_in_place, ReceiveInPlace}
use Rattle.line.specs.Code.ReceiveSteps.{step_with, turned_away}
use Rattle.line.specs.declared.Refusal.TheVariants as N
use Rattle.line.specs.declared.head.Head.{Head}
use Rattle.line.specs.declared.head.HeadStep.{HeadStep}

module _ (h : Head) (array line : List ℕ) (count : ℕ) (ready : Bool) (store : List ℕ) where
  pub another_length : (length array ≡ array_bytes → ⊥) → (r : HeadStep) → r ≡ turned_away h N.Spoiled
      → ReceiveInPlace h array line count ready store r array store
  unfolding receive_in_place
  another_length n r e =
      let t = ne_eqb (length array) array_bytes n in
      record { answers = rw (e, t); state = rw (e, t); writes = rw t }

  module _ (n : length array ≡ array_bytes) (r : HeadStep) (array' store' : List ℕ) where
    same_call : receive_in_place h array line count ready store ≡ receive (with_array h array) line count ready store
    unfolding receive_in_place
    same_call = rw (eq-eqb (length array) array_bytes n)

    pub in_place : Receive (with_array h array) line count ready store (step_with r array') store' → ReceiveInPlace h array line count ready store r array' store'
    in_place p =
        record {
          answers = p.answers ∙ sym (ap reported same_call);
          state = p.state ∙ sym (ap (receive_state (with_array h array)) same_call);
          writes = p.writes ∙ sym (ap (receive_store (with_array h array) store) same_call);
        }

    pub by_value : ReceiveInPlace h array line count ready store r array' store' → Receive (with_array h array) line count ready store (step_with r array') store'
    by_value p =
        record {
          answers = p.answers ∙ ap reported same_call;
          state = p.state ∙ ap (receive_state (with_array h array)) same_call;
          writes = p.writes ∙ ap (receive_store (with_array h array) store) same_call;
        }
