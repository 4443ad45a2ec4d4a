-- `crc::feed_bytes` meets its contract. Assumes nothing.
use mathlib.Core.Path.{sym, ap, ap₂, ◌∙◌}
use mathlib.Core.List.{List}
use Prim.Native.Nat.{ℕ, ◌-◌}
use native.Mathlib.Omega.{arith}
use borrow.Author.Rules.{rules}
use lib.ListN.{length, drop, get_or, length-drop}
use lib.Seq.{take_all, drop-cons}
use Rattle.crc.specs.Bits.{bits_of}
use Rattle.crc.specs.Check.{register}
use Rattle.crc.proofs.Register.{register-cons}
use Rattle.crc.proofs.feed_bytes.Goals as goal

pub returns-then-s-eq1 : goal.returns-then-s-eq1
returns-then-s-eq1 c = let at : ℕ = c.args.c in
    let s : List ℕ = c.args.s.now in
    c.feed_words.ensures
    ∙ ap₂ (λ (x : ℕ) (l : List ℕ). register x (bits_of l)) c.feed_byte.ensures (take_all (length s - 1) (drop 1 s) (omega (arith, length-drop 1 s)))
    ∙ register-cons at (get_or s 0 0) (drop 1 s)
    ∙ ap (λ (l : List ℕ). register at (bits_of l)) (sym (drop-cons s 0 0 (search rules)))
