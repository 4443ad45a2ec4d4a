-- `crc::load_head` meets its contract. Assumes nothing.
use mathlib.Core.Path.{◌≡◌, ap, ap₂, ◌∙◌}
use mathlib.Core.List.{List}
use Prim.Native.Nat.{ℕ, ◌+◌, ◌-◌, ◌*◌}
use native.Mathlib.Omega.{arith}
use borrow.Author.Rules.{rules}
use lib.ListN.{take}
use Rattle.std.specs.Int.{from_be_bytes, w64}
use Rattle.crc.specs.Check.{register}
use Rattle.crc.proofs.Words.{binary-from_be_bytes, bits_of_words_one}
use Rattle.crc.proofs.Bytes.{take-bits_of}
use Rattle.crc.proofs.Head.{register_head}
use Rattle.crc.proofs.load_head.Goals as goal

pub returns : goal.returns
returns c = let at : ℕ = c.args.c in
    let s : List ℕ = c.args.bytes in
    let n : ℕ = c.args.count in
    let e : 16 + (8 * n - 16) + (64 - 8 * n) ≡ 64 = omega arith in
    let f : 16 + (8 * n - 16) ≡ 8 * n = omega arith in
    rw (c.from.ensures, c.from_be_bytes.ensures)
    (ap (register 0) (bits_of_words_one _) ∙ register_head at (from_be_bytes w64 s) (8 * n - 16) (64 - 8 * n) (search rules) (search rules) e
    ∙ ap (register at) (ap₂ take f (binary-from_be_bytes s (search rules) (search rules)) ∙ take-bits_of n s))
