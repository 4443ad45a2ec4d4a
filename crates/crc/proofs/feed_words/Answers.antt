-- `crc::feed_words` meets its contract: the bytes before the first whole word, and then the words. Assumes nothing.
use mathlib.Core.Path.{◌≡◌, ap, ap₂, ◌∙◌}
use mathlib.Core.List.{List, [], ◌∷◌, map}
use Prim.Native.Nat.{ℕ, ◌+◌, ◌-◌, ◌*◌, ◌/◌, ◌%◌}
use native.Mathlib.Omega.{arith}
use borrow.Author.Rules.{rules}
use lib.ListN.{length, take, drop, get_or, length-drop}
use lib.Seq.{take-take}
use Rattle.std.specs.Int.{from_be_bytes, w64}
use Rattle.std.specs.Simd.{first_chunks}
use Rattle.crc.specs.Bits.{bits_of}
use Rattle.crc.specs.Words.{bits_of_words, left_by}
use Rattle.crc.specs.Check.{register}
use Rattle.crc.proofs.Bytes.{drop_bytes}
use Rattle.crc.proofs.Words.{first_of_chunks, bits_of_words-chunks, register-start}
use Rattle.crc.proofs.feed_words.Goals as goal

pub returns : goal.returns
returns c = let at : ℕ = c.args.c in
    let s : List ℕ = c.args.s.now in
    let h : ℕ = (length s - 1) % 8 + 1 in
    let words : List ℕ = map (from_be_bytes w64) c.as_chunks-2.result.0.now in
    let front : get_or c.as_chunks.result.0.now 0 [] ≡ take 8 s
    = ap (λ (l : List (List ℕ)). get_or l 0 []) c.as_chunks.ensures.front ∙ first_of_chunks (length s / 8) s (omega arith) in
    let head : left_by (c.load_head-first.result ∷ []) ≡ register at (bits_of (take h s))
    = c.load_head-first.ensures
    ∙ ap (λ (l : List ℕ). register at (bits_of l)) (ap₂ take c.split_at.ensures.front_len front ∙ take-take h 8 s (omega arith)) in
    let whole : length (drop h s) ≡ 8 * (length (drop h s) / 8) = omega (arith, length-drop h s) in
    let behind : bits_of_words words ≡ bits_of (drop h s)
    = ap (λ (l : List (List ℕ)). bits_of_words (map (from_be_bytes w64) l)) c.as_chunks-2.ensures.front
    ∙ ap (λ (l : List ℕ). bits_of_words (map (from_be_bytes w64) (first_chunks 8 (length l / 8) l))) c.split_at.ensures.back
    ∙ bits_of_words-chunks (length (drop h s) / 8) (drop h s) whole (drop_bytes h s (λ i. search rules)) in
    c.feed_window.ensures ∙ c.fold_words.ensures ∙ register-start at c.load_head-first.result words s h head behind
