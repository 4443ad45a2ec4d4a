-- What a load that is not refused did to the block: its places are those that differ. Assumes nothing.
use Rattle.std.proofs.Common.{◌≡◌, ℕ, ◌+◌, ◌-◌, ◌/◌, ◌%◌, ◌^◌, ◌≤◌, true, false, Ok, eqb, List, ◌++◌, length, take, drop, sym, refl, ap, ◌∙◌, subst, ap₂, ⊎_elim, arith, length-append, length-drop, length-take-le, take_at, drop_at}
use Rattle.crc.specs.Bits.{Bits, zeros, binary, xor_bits, bits_of, bytes_of}
use Rattle.crc.specs.Check.{passes}
use Rattle.crc.specs.Damage.{Damage, burst}
use Rattle.crc.proofs.Rows.{length-binary, length-xor_bits, xor_bits_comm, xor_bits_assoc, xor_bits_self, xor_bits-zeros}
use Rattle.crc.proofs.Bytes.{length-bits_of, bits_of-bytes_of_exact}
use Rattle.crc.proofs.Detect.{damaged_passes}
use Rattle.block.specs.Answer.{Answer, refused, done}
use Rattle.block.specs.Lengths.{block_length}
use Rattle.block.specs.Calls.{too_short}
use Rattle.block.proofs.Truth.{either, cond_case}
use Rattle.noise.specs.Generator.{next, drawn}
use Rattle.noise.specs.Load.{Load, span_load, load, places, ones, LoadedAs}
use Rattle.noise.specs.Facts.{block_of, differences, Within16, BlockLoaded, EveryLoad}
use Rattle.noise.specs.declared.Generator.{Generator}
use Rattle.noise.specs.declared.Noise.{Noise}
use Rattle.noise.proofs.Ones.{ones-append, ones-zeros}
use Rattle.noise.proofs.Spans.{length_pattern}
use Rattle.noise.proofs.Loads.{holds, place-room, load_cases}

-- the pattern lies within the n bits
load-room : (k : ℕ) (g : Generator) → (load (block_length k) g).place + 16 ≤ block_length k
unfolding load span_load
load-room k g =
    cond_case (λ (l : Load). l.place + 16 ≤ block_length k) (eqb (drawn g % 4) 2)
    (λ e. place-room k (drawn (next g) / 2 ^ 16)) (λ e. omega arith)

-- ---- the places of a load

module _ (n : ℕ) (l : Load) (room : l.place + 16 ≤ n) where
  length-places : length (places n l) ≡ n
  unfolding places
  length-places = length_pattern l.place l.pattern (n - (l.place + 16)) ∙ omega arith

  ones-places : ones (places n l) ≡ ones (binary 16 l.pattern)
  unfolding places
  ones-places =
      ones-append (zeros l.place) (binary 16 l.pattern ++ zeros (n - (l.place + 16)))
      ∙ ap₂ (λ (x y : ℕ). x + y) (ones-zeros l.place)
      (ones-append (binary 16 l.pattern) (zeros (n - (l.place + 16)))
      ∙ ap (λ (x : ℕ). ones (binary 16 l.pattern) + x) (ones-zeros (n - (l.place + 16))))
      ∙ omega arith

  sixteen : length (binary 16 l.pattern) ≤ 16
  sixteen = omega (arith, length-binary 16 l.pattern)

  places_within : Within16 (places n l)
  unfolding places
  places_within =
      record { before = l.place; span = binary 16 l.pattern; behind = n - (l.place + 16); adjacent = sixteen; is = refl }

  places_damage : Damage (places n l)
  unfolding places
  places_damage = burst l.place (binary 16 l.pattern) (n - (l.place + 16)) sixteen

-- ---- the block before and after

module _ (k : ℕ) (s s' : List ℕ) (l : Load) (room : l.place + 16 ≤ block_length k) (held : too_short s (block_length k) ≡ false)
    (w : s' ≡ bytes_of (length s) (xor_bits (block_of k s) (places (block_length k) l) ++ drop (block_length k) (bits_of s))) where
  abbrev n : ℕ
  n = block_length k

  abbrev row : Bits
  row = block_of k s

  abbrev behind : Bits
  behind = drop n (bits_of s)

  length_row : length row ≡ n
  length_row = length-take-le n (bits_of s) (omega (arith, length-bits_of s, holds k s held))

  same_length : length row ≡ length (places n l)
  same_length = length_row ∙ sym (length-places n l room)

  length-after : length (xor_bits row (places n l)) ≡ n
  length-after = length-xor_bits row (places n l) same_length ∙ length_row

  bits_after : bits_of s' ≡ xor_bits row (places n l) ++ behind
  bits_after =
      ap bits_of w
      ∙ bits_of-bytes_of_exact (length s) (xor_bits row (places n l) ++ behind)
      (length-append (xor_bits row (places n l)) behind
      ∙ ap₂ (λ (x y : ℕ). x + y) length-after (length-drop n (bits_of s) ∙ ap (λ (x : ℕ). x - n) (length-bits_of s))
      ∙ omega (arith, holds k s held))

  row_after : block_of k s' ≡ xor_bits row (places n l)
  row_after = ap (take n) bits_after ∙ take_at (xor_bits row (places n l)) behind n length-after

  differ : differences k s s' ≡ places n l
  differ =
      ap (xor_bits row) row_after ∙ sym (xor_bits_assoc row row (places n l))
      ∙ ap (λ (x : Bits). xor_bits x (places n l)) (xor_bits_self row ∙ ap zeros same_length)
      ∙ xor_bits_comm (zeros (length (places n l))) (places n l) ∙ xor_bits-zeros (places n l)

  others_stay : drop n (bits_of s') ≡ behind
  others_stay = ap (drop n) bits_after ∙ drop_at (xor_bits row (places n l)) behind n length-after

  -- a block that passes before and after is the same block
  not_found : passes row ≡ true → passes (block_of k s') ≡ true → ones (differences k s s') ≡ 0
  not_found p q =
      let e : block_of k s' ≡ row =
      damaged_passes (block_of k s') row (ap length row_after ∙ length-after ∙ sym length_row)
      (subst Damage (sym (xor_bits_comm (block_of k s') row ∙ differ)) (places_damage n l room)) p q in
      ap (λ (x : Bits). ones (xor_bits row x)) e ∙ ap ones (xor_bits_self row) ∙ ones-zeros (length row)

  loaded : (inverted : ℕ) → inverted ≡ ones (binary 16 l.pattern) → BlockLoaded k s s' inverted
  loaded inverted e =
      record {
        within_16 = subst Within16 (sym differ) (places_within n l room);
        damage = subst Damage (sym differ) (places_damage n l room);
        counted = c;
        others = others_stay;
        found = λ p h. ⊎_elim (λ q. absurd (omega (arith, c, not_found p q, h))) (λ q. q) (either (passes (block_of k s')));
      }
    where
      c : inverted ≡ ones (differences k s s')
      c = e ∙ sym (ap ones differ ∙ ones-places n l room)

-- ---- by the answer

-- how many bits an answer reports, and 1 for one that is not refused; 0 for a refusal
abbrev pub inverted_of : Answer Noise → ℕ
inverted_of (refused n) = 0
inverted_of (done r) = r.inverted

abbrev pub is_done : Answer Noise → ℕ
is_done (refused n) = 0
is_done (done r) = 1

pub every_load : EveryLoad
unfolding EveryLoad
every_load k g g' s s' noise =
    load_cases k g s (λ (a : Answer Load). LoadedAs k g s a (Ok noise) g' s' → BlockLoaded k s s' noise.inverted)
    (λ n z a. absurd (omega (arith, ap is_done a.answers)))
    (λ held a. loaded k s s' (load (block_length k) g) (load-room k g) held a.writes noise.inverted (ap inverted_of a.answers))
