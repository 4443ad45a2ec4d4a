-- Opening the sender by what is kept of line one is opening it by what the line says. Assumes nothing.
use mathlib.Core.Path.{◌≡◌, refl, ◌∙◌}
use mathlib.Core.Bool.{Bool, true, false}
use mathlib.Core.List.{List}
use mathlib.Core.Logic.{⊎_elim}
use Prim.Native.Nat.{ℕ, ◌≤◌, ◌<◌, min}
use native.Mathlib.Omega.{arith}
use lib.Dec.{eqb}
use lib.ListN.{take}
use borrow.Author.Tests.{lt-ltb, ne_eqb}
use Rattle.block.specs.Answer as A
use Rattle.block.specs.Answer.{Answer, refused}
use Rattle.block.specs.Lengths.{is_length}
use Rattle.block.proofs.Lengths.{length_facts}
use Rattle.line.specs.Order.{longest_order}
use Rattle.line.specs.LoopTime.{loop_time}
use Rattle.line.specs.Sending.{open_sender}
use Rattle.session.specs.LineOne.{limit}
use Rattle.session.specs.Outcomes.{speed, loop_ms, code_size, order_room}
use Rattle.std.proofs.lemmas.Bool.{cases_lt}
use Rattle.session.proofs.Orders.{short-kept}

-- no block length lies above the limit
above_length : (k : ℕ) → limit < k → is_length k ≡ false
above_length k h = by_test (is_length k) refl
  where
    by_test : (t : Bool) → is_length k ≡ t → is_length k ≡ false
    by_test true e = absurd (let f = length_facts k e in omega arith)
    by_test false e = e

above_loop : (k : ℕ) → limit < k → loop_time k speed loop_ms ≡ refused A.block
unfolding loop_time
above_loop k h = rw (above_length k h)

limit_loop : loop_time limit speed loop_ms ≡ refused A.block
unfolding loop_time is_length
limit_loop = refl

k_kept : (k L : ℕ) (order : List ℕ)
    → open_sender (min k limit) speed loop_ms L code_size order ≡ open_sender k speed loop_ms L code_size order
unfolding open_sender
k_kept k L order =
    ⊎_elim
    (λ (h : limit < k).
    let e : min k limit ≡ limit = omega arith in
    rw (e, limit_loop, above_loop k h))
    (λ (h : k ≤ limit). let e : min k limit ≡ k = omega arith in rw e) (cases_lt limit k)

length-kept : (k L : ℕ) (order : List ℕ)
    → open_sender k speed loop_ms (min L limit) code_size (take order_room order) ≡ open_sender k speed loop_ms L code_size order
unfolding open_sender
length-kept k L order =
    ⊎_elim
    (λ (h : longest_order < L).
    let m : longest_order < min L limit = omega arith in
    let a : eqb L 0 ≡ false = ne_eqb L 0 (λ z. omega arith) in
    let b : eqb (min L limit) 0 ≡ false = ne_eqb (min L limit) 0 (λ z. omega arith) in
    rw (a, b, lt-ltb longest_order L h, lt-ltb longest_order (min L limit) m))
    (λ (h : L ≤ longest_order).
    let e : min L limit ≡ L = omega arith in
    rw (e, short-kept order_room order L (omega arith)))
    (cases_lt longest_order L)

pub open_kept : (k L : ℕ) (order : List ℕ)
    → open_sender (min k limit) speed loop_ms (min L limit) code_size (take order_room order)
    ≡ open_sender k speed loop_ms L code_size order
open_kept k L order = k_kept k (min L limit) (take order_room order) ∙ length-kept k L order
