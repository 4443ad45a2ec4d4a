-- `store_word`: a copy over four bytes is four stores. Assumes nothing.
use mathlib.Core.Path.{◌≡◌, sym, ◌∙◌}
use mathlib.Core.List.{List, append_assoc}
use Prim.Native.Nat.{ℕ, ◌+◌, ◌≤◌}
use native.Mathlib.Omega.{arith}
use borrow.Rule.Slice.PartMut.{put_mid}
use lib.ListN.{length, take, drop}
use lib.Seq.{drop-drop, sets, sets-eq}
use Rattle.line_c.specs.State.{word_bytes}
use Rattle.line_c.proofs.layout.store_word.Goals as goal

copied : (s : List ℕ) (at n k : ℕ) → at + 4 ≤ length s → k ≡ 4 → put_mid at k s (word_bytes n) ≡ sets s at (word_bytes n)
unfolding word_bytes
copied s at n k h e =
    let w = word_bytes n in
    rw (e, drop-drop 4 at s) (sym (sets-eq w s at h ∙ append_assoc (take at s) w (drop (at + 4) s)))

pub returns : goal.returns
unfolding word_bytes
returns c = rw (c.copy_from_slice.ensures.after, c.to_le_bytes.ensures) (copied c.args.s.now c.args.at c.args.n _ c.requires (omega arith))
