-- `store_sender` stores each field of the head, and hands the marks to `store_marks`. Assumes nothing.
use mathlib.Core.Path.{◌≡◌, ap, sym, ◌∙◌}
use mathlib.Core.List.{List, ◌++◌, append_assoc}
use Prim.Native.Nat.{ℕ, ◌≤◌}
use native.Mathlib.Omega.{arith}
use lib.ListN.{length, drop, length-drop}
use lib.Seq.{drop-drop, sets}
use Rattle.line.specs.declared.sender.Sender.{Sender}
use Rattle.line_c.specs.State.{head_size, marks_size, marks_bytes, sender_size, sender_head, sender_bytes}
use Rattle.line_c.proofs.Flags.{from_bool_flag}
use Rattle.line_c.proofs.Places.{head_stored, length_head, marks_stored}
use borrow.Author.Rules.{rules}
use Rattle.line_c.proofs.sender_bytes.store_sender.Goals as goal

-- the marks behind the head
joined : (sender : Sender) (s s₁ s₂ : List ℕ) → sender_size ≤ length s → s₁ ≡ sender_head sender ++ drop head_size s
    → s₂ ≡ sets s₁ head_size (marks_bytes sender.setup.marks) → s₂ ≡ sender_bytes sender ++ drop sender_size s
unfolding sender_bytes
joined sender s s₁ s₂ h e₁ e₂ =
    let m = sender.setup.marks in
    e₂ ∙ ap (λ (l : List ℕ). sets l head_size (marks_bytes m)) e₁
    ∙ marks_stored (sender_head sender) (drop head_size s) m head_size (length_head _ _ _ _ _ _ _) (simp length-drop (omega arith))
    ∙ rw (drop-drop marks_size head_size s) (sym (append_assoc (sender_head sender) (marks_bytes m) (drop sender_size s)))

pub returns : goal.returns
returns c = joined c.args.sender c.args.s.now _ _ (search rules)
    (head_stored c.args.s.now _ _ _ _ _ _ _ _ (search rules) c.store_words.ensures
    ∙ simp (c.from.ensures, c.from-2.ensures, from_bool_flag) (search rules))
    c.store_marks.ensures
