-- `store_receiver` hands the head to `put_head`, copies the array and hands the marks to `store_marks`. Assumes nothing.
use mathlib.Core.Path.{◌≡◌, refl, ap, ◌∙◌}
use mathlib.Core.List.{List, [], ◌++◌, append_assoc}
use Prim.Native.Nat.{ℕ, ◌≤◌}
use native.Mathlib.Omega.{arith}
use borrow.Rule.Slice.PartMut.{put_mid}
use lib.ListN.{length, drop, length-append, length-drop}
use lib.Seq.{sets, drop-drop}
use Rattle.line.specs.Receiving.{array_bytes}
use Rattle.line.specs.ReceivingInPlace.{with_array}
use Rattle.line.specs.declared.head.Head.{Head}
use Rattle.line.specs.declared.receiver.Receiver.{Receiver}
use Rattle.line_c.specs.State.{word_bytes, head_size, head_bytes, marks_size, marks_bytes, array_end, receiver_size, receiver_head, receiver_bytes}
use Rattle.line_c.proofs.Places.{length_head, marks_stored}
use borrow.Author.Rules.{rules}
use Rattle.line_c.proofs.receiver_bytes.store_receiver.Goals as goal

-- the array over what stands behind the head
with_bits : (h : Head) (receiver : Receiver) (s s₁ array : List ℕ) → with_array h receiver.bits ≡ receiver
    → s₁ ≡ receiver_head (with_array h []) ++ drop head_size s → array ≡ receiver.bits
    → put_mid 16 483 s₁ array ≡ receiver_head receiver ++ receiver.bits ++ drop array_end s
unfolding head_bytes word_bytes
with_bits h receiver s s₁ array e e₁ e₂ =
    let f : put_mid 16 483 s₁ array ≡ receiver_head (with_array h []) ++ receiver.bits ++ drop array_end s =
    rw (e₂, e₁, drop-drop 483 16 s) refl in
    f ∙ ap (λ (r : Receiver). receiver_head r ++ receiver.bits ++ drop array_end s) e

-- and the marks behind it
with_marks : (receiver : Receiver) (s s₂ s₃ : List ℕ) → receiver_size ≤ length s → length receiver.bits ≡ array_bytes
    → s₂ ≡ receiver_head receiver ++ receiver.bits ++ drop array_end s
    → s₃ ≡ sets s₂ array_end (marks_bytes receiver.setup.marks) → s₃ ≡ receiver_bytes receiver ++ drop receiver_size s
unfolding receiver_bytes
with_marks receiver s s₂ s₃ n w e₂ e₃ =
    let m = receiver.setup.marks in
    let front : length (receiver_head receiver ++ receiver.bits) ≡ array_end = simp (length-append, length_head, w) in
    let room : marks_size ≤ length (drop array_end s) = simp length-drop (omega arith) in
    e₃ ∙ ap (λ (l : List ℕ). sets l array_end (marks_bytes m)) e₂
    ∙ marks_stored (receiver_head receiver ++ receiver.bits) (drop array_end s) m array_end front room
    ∙ rw (drop-drop marks_size array_end s) (simp append_assoc)

pub returns : goal.returns
returns c = let a = c.args in
    with_marks a.receiver a.s.now _ _ (search rules) (search rules)
    (with_bits _ a.receiver a.s.now _ _ c.head.ensures c.put_head.ensures c.copy_from_slice.ensures.after)
    c.store_marks.ensures
