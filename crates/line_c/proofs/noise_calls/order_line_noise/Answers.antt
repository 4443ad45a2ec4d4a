-- `order_line_noise` hands on what the load answers. Assumes nothing.
use Rattle.std.proofs.Common.{◌≡◌, ℕ, ◌≤◌, List, Ok, Err, refl, ap, ◌∙◌, arith}
use Rattle.crc.specs.Bits.{binary}
use Rattle.crc.proofs.Rows.{length-binary}
use Rattle.block.specs.Answer.{Answer, refused, done}
use Rattle.noise.specs.Load.{Load, refusal_number, report_of, generator_after, load_block, LoadBlock}
use Rattle.noise.specs.declared.Generator.{Generator}
use Rattle.noise.specs.declared.Noise.{Noise}
use Rattle.noise.specs.declared.Refusal.{Refusal}
use Rattle.noise.proofs.Ones.{ones-le}
use Rattle.noise.proofs.EveryLoad.{inverted_of, is_done}
use Rattle.line_c.specs.NoiseCalls.{generator_of, noise_word, report_word, NoiseCall}
use Rattle.line_c.proofs.noise_calls.order_line_noise.Goals as goal

-- 16 bits have at most 16 ones
at_most_16 : (a : Answer Load) (noise : Noise) → done noise ≡ report_of a → noise.inverted ≤ 16
at_most_16 (refused n) noise e = absurd (omega (arith, ap is_done e))
at_most_16 (done l) noise e = omega (arith, ap inverted_of e, ones-le (binary 16 l.pattern), length-binary 16 l.pattern)

-- refused, the generator is as it was
kept : (g : Generator) (a : Answer Load) (n : ℕ) → refused n ≡ report_of a → g ≡ generator_after g a
kept g (refused m) n e = refl
kept g (done l) n e = absurd (omega (arith, ap is_done e))

module _ (k first second : ℕ) (s s' : List ℕ) (g : Generator) where
  turned_away_lem : (refusal : Refusal) → LoadBlock k (generator_of first second) s (Err refusal) g s'
      → (n : ℕ) → n ≡ refusal_number refusal → NoiseCall k first second s n first second s'
  turned_away_lem refusal a n e =
      record {
        answers = e ∙ ap noise_word a.answers;
        hands_back = kept (generator_of first second) (load_block k (generator_of first second) s) (refusal_number refusal) a.answers;
        writes = a.writes;
      }

  module _ (noise : Noise) (a : LoadBlock k (generator_of first second) s (Ok noise) g s') where
    few : noise.inverted ≤ 16
    few = at_most_16 (load_block k (generator_of first second) s) noise a.answers

    loaded : (word : ℕ) → word ≡ report_word noise.inverted noise.turned → NoiseCall k first second s word g.first g.second s'
    loaded word w = record { answers = w ∙ ap noise_word a.answers; hands_back = a.hands_back; writes = a.writes }

pub noise_word-requires : goal.noise_word-requires
noise_word-requires c = few _ _ _ _ _ _ _ c.in-Ok.ensures

pub returns-in-Err : goal.returns-in-Err
returns-in-Err c = turned_away_lem _ _ _ _ _ _ _ c.in-Err.ensures _ (c.from-in-Err.ensures ∙ c.from.ensures)

pub returns-in-Ok : goal.returns-in-Ok
returns-in-Ok c = loaded _ _ _ _ _ _ _ c.in-Ok.ensures _ c.noise_word.ensures
