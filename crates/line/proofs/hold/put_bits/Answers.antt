-- `put_bits` meets its contract: after i turns the array's first bytes and the carried bits are the bits held and i bytes of the line. Assumes nothing.
use mathlib.Core.Path.{◌≡◌, refl, sym, ap, ◌∙◌}
use mathlib.Core.List.{List, ◌++◌, append-nil}
use Prim.Native.Nat.{ℕ, suc, ◌+◌, ◌*◌, ◌/◌, ◌%◌, ◌≤◌, ◌<◌}
use native.Mathlib.Omega.{arith}
use lib.ListN.{length, take, drop, get_or, set, length-set}
use Rattle.crc.specs.Bits.{binary, bits_of}
use Rattle.crc.proofs.Bytes.{set_bytes, packed}
use native.Mathlib.Nat.{add-zero}
use native.Mathlib.Numerals.{add-one}
use lib.Seq.{drop-set-lt, get_or-take, length-take-le}
use mir.Syntax.{w8}
use mir.Val.{Fits}
use Rattle.line.specs.Receiving.{overwrite}
use Rattle.line.proofs.BitMoves.{held_bits_lem, one_byte_more, last_byte, further}
use borrow.Author.Rules.{rules}
use Rattle.line.proofs.hold.put_bits.Goals as goal

-- the whole bytes that the line has for the array
whole_bytes : (line : List ℕ) (shift count : ℕ) → shift < 8 → count ≤ 8 * length line → length (take ((shift + count) / 8) line) ≡ (shift + count) / 8
whole_bytes line shift count h l = length-take-le ((shift + count) / 8) line (omega arith)

pub loop-i-init : goal.loop-i-init
unfolding bits_of
loop-i-init c = let a = c.args in
    let from : ℕ = a.held / 8 in
    let e : 8 * from + a.held % 8 ≡ a.held = omega arith in (
      refl,
      ap (λ (k : ℕ). bits_of (take k a.array.now) ++ binary (a.held % 8) c.first_bits-carry.result) (add-zero from)
          ∙ held_bits_lem a.array.now a.held from (a.held % 8) c.first_bits-carry.result e (omega arith) (omega arith) c.first_bits-carry.ensures
          ∙ sym (append-nil (take a.held (bits_of a.array.now))),
    )

pub loop-i-preserved : goal.loop-i-preserved
loop-i-preserved c = let a = c.args in
    let l = c.loop-i in
    let from : ℕ = a.held / 8 in
    let s : ℕ = a.held % 8 in
    let at : ℕ = from + l.i in
    let e : from + (l.i + 1) ≡ suc at = omega arith in
    let n = whole_bytes a.line.bytes.now s a.line.bits (omega arith) a.line.held in
    let x : get_or (take ((s + a.line.bits) / 8) a.line.bytes.now) l.i 0 ≡ get_or a.line.bytes.now l.i 0 =
    get_or-take ((s + a.line.bits) / 8) a.line.bytes.now l.i 0 (omega arith) in (
      ap (λ (k : ℕ). drop k (set l.array at c.join.result)) e
          ∙ drop-set-lt (suc at) l.array at c.join.result (omega arith)
          ∙ further l.array a.array.now at l.invariant.0
          ∙ ap (λ (k : ℕ). drop k a.array.now) (sym e),
      ap (λ (y : ℕ). bits_of (take (from + (l.i + 1)) (set l.array at c.join.result)) ++ binary s y) x
          ∙ ap (λ (k : ℕ). bits_of (take k (set l.array at c.join.result)) ++ binary s (get_or a.line.bytes.now l.i 0)) e
          ∙ one_byte_more l.array a.line.bytes.now at l.i s l.carry c.join.result (take a.held (bits_of a.array.now))
          (omega arith) (omega arith) (omega arith) (c.join.ensures ∙ ap (λ (y : ℕ). take 8 (binary s l.carry ++ binary 8 y)) x) l.invariant.1
          ∙ ap (λ (k : ℕ). take a.held (bits_of a.array.now) ++ bits_of (take k a.line.bytes.now)) (sym (add-one l.i)),
    )

pub returns : goal.returns
returns c = let a = c.args in
    let l = c.loop-i in
    let from : ℕ = a.held / 8 in
    let s : ℕ = a.held % 8 in
    let whole : ℕ = (s + a.line.bits) / 8 in
    let at : ℕ = from + whole in
    let n = whole_bytes a.line.bytes.now s a.line.bits (omega arith) a.line.held in
    let done : l.i ≡ whole = omega arith in
    let w : Fits w8 c.merge.result = search rules in
    let held : length l.array ≡ 483 = search rules in
    packed (set l.array at c.merge.result) 483
    (overwrite a.held (take a.line.bits (bits_of a.line.bytes.now)) (bits_of a.array.now))
    (length-set l.array at c.merge.result ∙ held)
    (set_bytes l.array at c.merge.result w.fits (λ j. search rules))
    (last_byte l.array a.array.now a.line.bytes.now a.held a.line.bits at whole s ((s + a.line.bits) % 8) l.carry c.join-last.result c.merge.result
    (omega arith) (omega arith) (rw done at l.invariant.0) (omega arith) (omega arith) (omega arith) (omega arith) (omega arith)
    (c.join-last.ensures ∙ ap (λ (x : ℕ). take 8 (binary s l.carry ++ binary 8 x)) c.byte_at.ensures)
    c.merge.ensures
    (rw done at l.invariant.1))
