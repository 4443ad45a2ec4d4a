-- `received_check`: three numbers side by side. Assumes nothing.
use borrow.Author.Rules.{rules}
use mathlib.Core.List.{◌++◌, append_assoc}
use mathlib.Core.Path.{◌≡◌, ap, ◌∙◌}
use mir.Facts.{Fits-mask}
use native.Mathlib.Omega.{arith}
use Prim.Native.Nat.{ℕ, ◌+◌, ◌*◌, ◌/◌, ◌%◌, ◌^◌, ◌<◌}
use lib.Bits.{bit_or, bit_and, or_shifted, and_mask}
use Rattle.crc.specs.Bits.{Bits, binary}
use Rattle.crc.proofs.Rows.{binary-mod, binary_join}
use Rattle.block.proofs.received_check.Goals as goal

-- as the code joins them
joined : (a b h : ℕ) → b < 256 → h < 16
    → bit_or (bit_or ((bit_and a 15 * 2 ^ 12) % 2 ^ 16) ((b * 2 ^ 4) % 2 ^ 16)) h ≡ (a % 16 * 2 ^ 8 + b) * 2 ^ 4 + h
joined a b h hb hh =
    let e : (bit_and a 15 * 2 ^ 12) % 2 ^ 16 ≡ a % 16 * 2 ^ 12 = rw (and_mask a 4) (omega arith) in
    let f : (b * 2 ^ 4) % 2 ^ 16 ≡ b * 2 ^ 4 = omega arith in
    let g : a % 16 * 2 ^ 12 + b * 2 ^ 4 ≡ (a % 16 * 2 ^ 8 + b) * 2 ^ 4 = omega arith in
    rw (e, f)
    (ap (λ (x : ℕ). bit_or x h) (or_shifted (a % 16) 12 (b * 2 ^ 4) (omega arith) ∙ g) ∙ or_shifted (a % 16 * 2 ^ 8 + b) 4 h hh)

side_by_side : (a b h : ℕ) → b < 256 → h < 16 → binary 16 ((a % 16 * 2 ^ 8 + b) * 2 ^ 4 + h) ≡ binary 4 a ++ (binary 8 b ++ binary 4 h)
side_by_side a b h hb hh =
    binary_join 12 4 (a % 16 * 2 ^ 8 + b) h hh
    ∙ ap (λ (l : Bits). l ++ binary 4 h) (binary_join 4 8 (a % 16) b hb ∙ ap (λ (l : Bits). l ++ binary 8 b) (binary-mod 4 a))
    ∙ append_assoc (binary 4 a) (binary 8 b) (binary 4 h)

pub overflow_cast-result : goal.overflow_cast-result
overflow_cast-result c = Fits-mask c.args.a 4 tt

pub returns : goal.returns
returns c = let a = c.args in
    let hb : a.b < 256 = search rules in
    let hc : a.c < 256 = search rules in
    ap (binary 16) (joined a.a a.b (a.c / 16) hb (omega arith)) ∙ side_by_side a.a a.b (a.c / 16) hb (omega arith)
