-- `lay` keeps its promise: the pattern's three bytes, each laid over its byte. Assumes nothing.
use Rattle.std.proofs.Common.{◌≡◌, ℕ, ◌+◌, ◌-◌, ◌*◌, ◌/◌, ◌%◌, ◌^◌, ◌<◌, ◌≤◌, List, length, get_or, set, take, drop, ap, ◌∙◌, arith, shl_exact, rules}
use Rattle.std.proofs.lemmas.List.{take_all}
use Rattle.std.specs.Int.{w32, to_be_bytes}
use lib.Bits.{bit_xor, xor_lt}
use Rattle.crc.specs.Bits.{bits_of}
use Rattle.crc.proofs.Bytes.{set_bytes, packed}
use Rattle.noise.specs.Code.{laid}
use Rattle.noise.proofs.Spans.{masked, masked-none, masked-more, laid_row}
use Rattle.noise.proofs.lay.Goals as goal

-- what the three bytes make of the slice
lays : (place p x : ℕ) (masks s s' : List ℕ) → place / 8 + 3 ≤ length s → p < 2 ^ 16 → x ≡ p * 2 ^ (8 - place % 8)
    → masks ≡ drop 1 (to_be_bytes w32 x) → s' ≡ masked (place / 8) masks s → length s' ≡ length s → ((i : ℕ) → get_or s' i 0 < 256)
    → s' ≡ laid place p s
unfolding laid
lays place p x masks s s' h b d m e n bytes =
    packed s' (length s) _ n bytes
    (ap bits_of (e ∙ ap (λ (l : List ℕ). masked (place / 8) l s) m) ∙ laid_row place p x s h b d)

pub loop-i-init : goal.loop-i-init
loop-i-init c = (masked-none (c.args.place / 8) c.args.block.now, λ k. (c.type_inv.block k).fits)

pub loop-i-preserved : goal.loop-i-preserved
loop-i-preserved c =
    let at : ℕ = c.args.place / 8 + c.loop-i.i in
    let masks : List ℕ = take 3 (drop 1 c.to_be_bytes-span.result) in (
      ap (λ (l : List ℕ). set l at (bit_xor (get_or l at 0) (get_or masks c.loop-i.i 0))) c.loop-i.invariant.0
          ∙ masked-more (c.args.place / 8) c.loop-i.i masks c.args.block.now (search rules),
      set_bytes c.loop-i.block at _ (xor_lt 8 _ _ (c.loop-i.invariant.1 at) (search rules)) c.loop-i.invariant.1,
    )

pub returns : goal.returns
returns c = let a = c.args in
    let masks : List ℕ = take 3 (drop 1 c.to_be_bytes-span.result) in
    let b : a.pattern < 2 ^ 16 = search rules in
    lays a.place a.pattern _ masks a.block.now c.loop-i.block c.requires b
    (ap (λ (x : ℕ). x * 2 ^ (8 - a.place % 8) % 2 ^ 32) c.from.ensures ∙ shl_exact 16 (8 - a.place % 8) 32 b (omega arith))
    (ap (λ (l : List ℕ). take 3 (drop 1 l)) c.to_be_bytes-span.ensures)
    (c.loop-i.invariant.0 ∙ ap (λ (l : List ℕ). masked (a.place / 8) l a.block.now) (take_all c.loop-i.i masks c.loop-i-test.false))
    c.loop-i.auto.block c.loop-i.invariant.1
