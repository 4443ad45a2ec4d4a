-- `end_data` writes the version and the length's four bytes over zeros. Assumes nothing.
use mathlib.Core.Path.{◌≡◌, ap, ◌∙◌}
use mathlib.Core.List.{List, ◌∷◌, ◌++◌, append_assoc}
use Prim.Native.Nat.{ℕ, ◌+◌, ◌*◌, ◌/◌, ◌%◌}
use native.Mathlib.Omega.{arith}
use mir.Syntax.{w32}
use Rattle.std.specs.Int.{to_be_bytes}
use lib.ListN.{replicate}
use Rattle.crc.specs.Bits.{Bits, binary, bits_of}
use Rattle.crc.proofs.Rows.{binary_join, binary-mod}
use Rattle.line.specs.Order.{version, end_payload}
use Rattle.line.proofs.LastItem.{bits_of-zeros}
use Rattle.line.proofs.order.end_data.Goals as goal

-- a number's last eight bits behind the others
binary_last : (w n : ℕ) → binary (w + 8) n ≡ binary w (n / 256) ++ binary 8 n
binary_last w n =
    let e : n ≡ n / 256 * 256 + n % 256 = omega arith in
    ap (binary (w + 8)) e ∙ binary_join w 8 (n / 256) (n % 256) (omega arith)
    ∙ ap (λ (l : Bits). binary w (n / 256) ++ l) (binary-mod 8 n)

four_bytes : (n : ℕ) → binary 32 n ≡ ((binary 8 (n / 16777216) ++ binary 8 (n / 65536)) ++ binary 8 (n / 256)) ++ binary 8 n
four_bytes n =
    let e : n / 256 / 256 ≡ n / 65536 = omega arith in
    let f : n / 65536 / 256 ≡ n / 16777216 = omega arith in
    binary_last 24 n
    ∙ ap (λ (l : Bits). l ++ binary 8 n)
    (binary_last 16 (n / 256) ∙ ap (λ (m : ℕ). binary 16 m ++ binary 8 (n / 256)) e
    ∙ ap (λ (l : Bits). l ++ binary 8 (n / 256))
    (binary_last 8 (n / 65536) ∙ ap (λ (m : ℕ). binary 8 m ++ binary 8 (n / 65536)) f))

-- the first five bytes
front : (n : ℕ) (four rest : List ℕ) → four ≡ to_be_bytes w32 n
    → bits_of (version ∷ (four ++ rest)) ≡ (binary 8 version ++ binary 32 n) ++ bits_of rest
unfolding bits_of
front n four rest e =
    rw e
    (simp (
      binary-mod 8 (n / 16777216),
      binary-mod 8 (n / 65536),
      binary-mod 8 (n / 256),
      binary-mod 8 n,
      four_bytes n,
      append_assoc,
    ))

pub returns : goal.returns
unfolding end_payload
returns c =
    front c.args.bits c.copy_from_slice.new.self (replicate 475 0) (c.copy_from_slice.ensures.after ∙ c.to_be_bytes.ensures)
    ∙ ap (λ (l : Bits). (binary 8 version ++ binary 32 c.args.bits) ++ l) (bits_of-zeros 475)
