-- What the load does, as the code does it: a damaged span, no damage, and each refusal. Assumes nothing.
use Rattle.std.proofs.Common.{◌≡◌, refl, ℕ, ◌+◌, ◌-◌, ◌*◌, ◌/◌, ◌%◌, ◌^◌, ◌<◌, ◌≤◌, Bool, true, false, Ok, Err, not, eqb, List, ◌++◌, length, get_or, take, drop, sym, ap, ◌∙◌, mod-lt, arith, take-append-drop, length-take-le, ltb-false, eqb-true}
use lib.Count as Count
use lib.ListN.{replicate-append-replicate}
use Rattle.crc.specs.Bits.{Bits, zeros, binary, xor_bits, bits_of, bytes_of}
use Rattle.crc.proofs.Rows.{binary-zero, xor_bits-zeros}
use Rattle.crc.proofs.Bytes.{length-bits_of, bytes_of-bits_of}
use Rattle.block.specs.Answer as A
use Rattle.block.specs.Answer.{Answer, done, refused}
use Rattle.block.specs.Lengths.{is_length, block_length}
use Rattle.block.specs.Calls.{too_short}
use Rattle.block.proofs.Truth.{cond_case}
use Rattle.noise.specs.Refusals as Refusals
use Rattle.noise.specs.Generator.{next, drawn}
use Rattle.noise.specs.Load.{Load, span_load, whole_load, load, places, ones, load_block, refusal_number, report_of, generator_after, loaded_bytes, LoadedAs, LoadBlock}
use Rattle.noise.specs.Code.{laid}
use Rattle.noise.specs.declared.Generator.{Generator}
use Rattle.noise.specs.declared.Noise.{Noise}
use Rattle.noise.specs.declared.Refusal.{Refusal}
use Rattle.noise.specs.declared.Refusal.TheVariants as R
use Rattle.noise.proofs.Ones.{ones-binary}
use Rattle.noise.proofs.Spans.{laid-block}

-- ---- a slice that holds a block of n bits

pub holds : (k : ℕ) (s : List ℕ) → too_short s (block_length k) ≡ false → block_length k ≤ 8 * length s
holds k s held = ltb-false (8 * length s) (block_length k) held

-- ---- a damaged span

-- the pattern has room at each of n - 15 places
pub place-room : (k d : ℕ) → d % (block_length k - 15) + 16 ≤ block_length k
place-room k d = let l : d % (block_length k - 15) < block_length k - 15 = mod-lt d (omega arith) in omega arith

module _ (k : ℕ) (g : Generator) (s : List ℕ) (held : too_short s (block_length k) ≡ false) where
  abbrev number : ℕ
  number = drawn g

  laid_bytes : laid (number / 2 ^ 16 % (block_length k - 15)) (number % 2 ^ 16) s ≡ loaded_bytes k s (done (span_load (block_length k) g))
  unfolding laid span_load places
  laid_bytes =
      ap (bytes_of (length s))
      (laid-block (block_length k) (number / 2 ^ 16 % (block_length k - 15)) (number % 2 ^ 16) s (place-room k (number / 2 ^ 16)) (holds k s held))

  pub damaged : (g' : Generator) (d : ℕ) (s' : List ℕ) → g' ≡ next g → d ≡ drawn g
      → s' ≡ laid (d / 2 ^ 16 % (block_length k - 15)) (d % 2 ^ 16) s
      → LoadedAs k g s (done (span_load (block_length k) g)) (Ok (record { inverted = Count.ones (d % 2 ^ 16); turned = false })) g' s'
  unfolding span_load
  damaged g' d s' n e w =
      record {
        answers =
            ap (λ (x : ℕ). done (record { inverted = x; turned = false }))
            (sym (ones-binary 16 (d % 2 ^ 16) (omega arith)) ∙ ap (λ (x : ℕ). ones (binary 16 (x % 2 ^ 16))) e);
        hands_back = n;
        writes = w ∙ ap (λ (x : ℕ). laid (x / 2 ^ 16 % (block_length k - 15)) (x % 2 ^ 16) s) e ∙ laid_bytes;
      }

-- ---- no damage

no_places : (n : ℕ) (turned : Bool) (g : Generator) → 16 ≤ n → places n (whole_load turned g) ≡ zeros n
unfolding places
no_places n turned g h =
    let e : 16 + (n - 16) ≡ n = omega arith in
    ap (λ (l : Bits). l ++ zeros (n - 16)) (binary-zero 16) ∙ replicate-append-replicate 16 (n - 16) false ∙ ap zeros e

-- no byte changes
whole_bytes : (k : ℕ) (s : List ℕ) (turned : Bool) (g : Generator) → too_short s (block_length k) ≡ false → ((i : ℕ) → get_or s i 0 < 256)
    → s ≡ loaded_bytes k s (done (whole_load turned g))
whole_bytes k s turned g held bytes =
    let n : ℕ = block_length k in
    let m : length (take n (bits_of s)) ≡ n = length-take-le n (bits_of s) (omega (arith, length-bits_of s, holds k s held)) in
    sym (bytes_of-bits_of s bytes)
    ∙ ap (bytes_of (length s))
    (sym (take-append-drop n (bits_of s))
    ∙ ap (λ (l : Bits). l ++ drop n (bits_of s))
    (sym (xor_bits-zeros (take n (bits_of s))) ∙ ap (xor_bits (take n (bits_of s))) (ap zeros m ∙ sym (no_places n turned g (omega arith)))))

-- ---- what a draw chooses

-- no damage, and perhaps a turned-over reading
pub chooses_whole : (k : ℕ) (g : Generator) (s : List ℕ) (d : ℕ) → d ≡ drawn g → eqb (d % 4) 2 ≡ false
    → (g' : Generator) (turned : Bool) → g' ≡ next g → turned ≡ eqb (d % 4) 3
    → too_short s (block_length k) ≡ false → ((i : ℕ) → get_or s i 0 < 256)
    → LoadedAs k g s (done (load (block_length k) g)) (Ok (record { inverted = 0; turned = turned })) g' s
unfolding load binary
chooses_whole k g s d e t g' turned n u held bytes =
    let c : eqb (drawn g % 4) 2 ≡ false = ap (λ (x : ℕ). eqb (x % 4) 2) (sym e) ∙ t in
    let v : turned ≡ eqb (drawn g % 4) 3 = u ∙ ap (λ (x : ℕ). eqb (x % 4) 3) e in
    let f : load (block_length k) g ≡ whole_load turned g' = rw (c, n, v) in
    record {
      answers = ap (λ (l : Load). report_of (done l)) (sym f);
      hands_back = ap (λ (l : Load). generator_after g (done l)) (sym f);
      writes = whole_bytes k s turned g' held bytes ∙ ap (λ (l : Load). loaded_bytes k s (done l)) (sym f);
    }

-- a damaged span, by the generator as the first draw left it
pub chooses_span : (k : ℕ) (g : Generator) (s : List ℕ) (d : ℕ) → d ≡ drawn g → eqb (d % 4) 2 ≡ true
    → (g' : Generator) → g' ≡ next g → (r : Noise) (g'' : Generator) (s' : List ℕ)
    → LoadedAs k g' s (done (span_load (block_length k) g')) (Ok r) g'' s' → LoadedAs k g s (done (load (block_length k) g)) (Ok r) g'' s'
unfolding load
chooses_span k g s d e t g' n r g'' s' a =
    let c : eqb (drawn g % 4) 2 ≡ true = ap (λ (x : ℕ). eqb (x % 4) 2) (sym e) ∙ t in
    let f : load (block_length k) g ≡ span_load (block_length k) g' = rw (c, n) in
    record {
      answers = a.answers ∙ ap (λ (l : Load). report_of (done l)) (sym f);
      hands_back = a.hands_back ∙ ap (λ (l : Load). generator_after g (done l)) (sym f);
      writes = a.writes ∙ ap (λ (l : Load). loaded_bytes k s (done l)) (sym f);
    }

-- ---- the call: 1, 13, 6

module _ (k : ℕ) (g : Generator) (s : List ℕ) where
  refuses : (r : Refusal) → load_block k g s ≡ refused (refusal_number r) → LoadBlock k g s (Err r) g s
  refuses r e = record { answers = rw e refl; hands_back = rw e refl; writes = rw e refl }

  pub refuses_length : is_length k ≡ false → LoadBlock k g s (Err R.Block) g s
  unfolding load_block
  refuses_length l = refuses R.Block (rw l)

  module _ (l : is_length k ≡ true) where
    pub refuses_generator : eqb g.first 0 ≡ true → LoadBlock k g s (Err R.Generator) g s
    unfolding load_block
    refuses_generator z = refuses R.Generator (rw (l, z))

    module _ (z : eqb g.first 0 ≡ false) where
      pub refuses_slice : too_short s (block_length k) ≡ true → LoadBlock k g s (Err R.Short) g s
      unfolding load_block
      refuses_slice t = refuses R.Short (rw (l, z, t))

      pub loads : too_short s (block_length k) ≡ false → (r : Noise) (g' : Generator) (s' : List ℕ)
          → LoadedAs k g s (done (load (block_length k) g)) (Ok r) g' s' → LoadBlock k g s (Ok r) g' s'
      unfolding load_block
      loads t r g' s' a = rw (l, z, t) a

-- ---- cases of the answer

-- what holds of each refusal, and of the load on a slice that holds a block, holds of the answer
pub load_cases : (k : ℕ) (g : Generator) (s : List ℕ) (P : Answer Load → Type 0) → ((n : ℕ) → (n ≡ Refusals.generator → g.first ≡ 0) → P (refused n))
    → (too_short s (block_length k) ≡ false → P (done (load (block_length k) g))) → P (load_block k g s)
unfolding load_block
load_cases k g s P turned_away_lem loaded =
    cond_case P (not (is_length k)) (λ e. turned_away_lem A.block (λ z. absurd (omega arith)))
    (λ e. cond_case P (eqb g.first 0) (λ f. turned_away_lem Refusals.generator (λ z. eqb-true g.first 0 f))
    (λ f. cond_case P (too_short s (block_length k)) (λ t. turned_away_lem A.short (λ z. absurd (omega arith))) loaded))

-- only a first word of 0 is refused by 13
pub not_13 : (k : ℕ) (g : Generator) (s : List ℕ) → (g.first ≡ 0 → ⊥) → load_block k g s ≡ refused Refusals.generator → ⊥
not_13 k g s n = load_cases k g s (λ (a : Answer Load). a ≡ refused Refusals.generator → ⊥) (λ m z e. n (z (ap number e))) (λ t e. absurd (omega (arith, ap number e)))
  where
    number : Answer Load → ℕ
    number (refused m) = m
    number (done l) = 0
