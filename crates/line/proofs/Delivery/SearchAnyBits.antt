-- What a call in search makes of any bits: it goes on with the latest 15 in the window, or the sequence is found.
-- Assumes nothing.
use mathlib.Core.Path.{◌≡◌, refl, ap, sym, ◌∙◌}
use mathlib.Core.Logic.{◌⊎◌, inl, inr}
use mathlib.Core.Bool.{Bool, true, false, cond}
use mathlib.Core.List.{[], ◌∷◌, ◌++◌, append_assoc, append-nil}
use Prim.Native.Nat.{ℕ, suc, ◌+◌, ◌-◌, ◌/◌, ◌≤◌}
use native.Mathlib.Omega.{arith}
use lib.ListN.{length, drop, length-append, length-drop}
use lib.Seq.{drop-append-le, drop-drop, drop_at}
use borrow.Author.Tests.{eq-eqb}
use Rattle.crc.specs.Bits.{Bits, number}
use Rattle.block.specs.Block.{service_sync, sync_sequence, tens, sync_block}
use Rattle.line.specs.Receiving.{Reception, unfinished, sequence_found, stops, latest, searching, is_sequence, search}
use Rattle.line.specs.declared.receiver.Receiver.{Receiver}

-- the latest 16 bits
abbrev pub latest16 : Bits → Bits
latest16 row = drop (length row - 16) row

pub length-latest : (row : Bits) → length (latest row) ≤ 15
length-latest row = omega (arith, length-drop (length row - 15) row)

latest_snoc : (earlier : Bits) (b : Bool) → latest earlier ++ (b ∷ []) ≡ latest16 (earlier ++ (b ∷ []))
latest_snoc earlier b =
    let e : length (earlier ++ (b ∷ [])) - 16 ≡ length earlier - 15 = omega (arith, length-append earlier (b ∷ [])) in
    sym (ap (λ (n : ℕ). drop n (earlier ++ (b ∷ []))) e
    ∙ drop-append-le (length earlier - 15) earlier (b ∷ []) (omega arith))

latest_latest16 : (row : Bits) → latest (latest16 row) ≡ latest row
latest_latest16 row =
    let e : length row - 16 + (length (latest16 row) - 15) ≡ length row - 15 =
    omega (arith, length-drop (length row - 16) row) in
    drop-drop (length (latest16 row) - 15) (length row - 16) row ∙ ap (λ (n : ℕ). drop n row) e

abbrev unfound : Receiver → Bits → ℕ → Reception
unfound s window used = record { rule = unfinished; row = []; used = used; state = searching s window }

-- after these earlier bits, none of the new ones ends the sequence
pub record GoesOn (s : Receiver) (earlier new : Bits) (used : ℕ) : Type 0 where
  pub is : search s (latest earlier) new used
      ≡ record { rule = unfinished; row = []; used = used + length new; state = searching s (latest (earlier ++ new)) }
  pub last : (new ≡ []) ⊎ (is_sequence (latest16 (earlier ++ new)) ≡ false)

-- one of them does
abbrev pub Finds : Receiver → Bits → Bits → ℕ → Type 0
Finds s earlier new used = (n : ℕ) × (search s (latest earlier) new used ≡ stops s sequence_found [] n)

module _ (s : Receiver) where
  step_on : (earlier : Bits) (b : Bool) (bs : Bits) (used : ℕ) → is_sequence (latest earlier ++ (b ∷ [])) ≡ false
      → search s (latest earlier) (b ∷ bs) used ≡ search s (latest (earlier ++ (b ∷ []))) bs (suc used)
  step_on earlier b bs used e =
      ap (λ (t : Bool). cond t (stops s sequence_found [] (suc used))
      (search s (latest (latest earlier ++ (b ∷ []))) bs (suc used))) e
      ∙ ap (λ (window : Bits). search s window bs (suc used))
      (ap latest (latest_snoc earlier b) ∙ latest_latest16 (earlier ++ (b ∷ [])))

  step_found : (earlier : Bits) (b : Bool) (bs : Bits) (used : ℕ) → is_sequence (latest earlier ++ (b ∷ [])) ≡ true
      → search s (latest earlier) (b ∷ bs) used ≡ stops s sequence_found [] (suc used)
  step_found earlier b bs used e =
      ap (λ (t : Bool). cond t (stops s sequence_found [] (suc used))
      (search s (latest (latest earlier ++ (b ∷ []))) bs (suc used))) e

  no_sequence : (earlier : Bits) (b : Bool) (bs : Bits) → is_sequence (latest earlier ++ (b ∷ [])) ≡ false
      → (bs ≡ []) ⊎ (is_sequence (latest16 ((earlier ++ (b ∷ [])) ++ bs)) ≡ false)
      → is_sequence (latest16 ((earlier ++ (b ∷ [])) ++ bs)) ≡ false
  no_sequence earlier b bs e (inl z) =
      ap (λ (y : Bits). is_sequence (latest16 y))
      (ap (λ (y : Bits). (earlier ++ (b ∷ [])) ++ y) z ∙ append-nil (earlier ++ (b ∷ [])))
      ∙ ap is_sequence (sym (latest_snoc earlier b)) ∙ e
  no_sequence earlier b bs e (inr z) = z

  pub search_reads : (earlier new : Bits) (used : ℕ) → GoesOn s earlier new used ⊎ Finds s earlier new used
  search_reads earlier [] used =
      let n : used ≡ used + 0 = omega arith in
      inl (record {
        is = ap (λ (y : Bits). unfound s (latest y) used) (sym (append-nil earlier))
            ∙ ap (unfound s (latest (earlier ++ []))) n;
        last = inl refl;
      })
  search_reads earlier (b ∷ bs) used =
      go (is_sequence (latest earlier ++ (b ∷ []))) refl (search_reads (earlier ++ (b ∷ [])) bs (suc used))
    where
      a : (earlier ++ (b ∷ [])) ++ bs ≡ earlier ++ (b ∷ bs)
      a = append_assoc earlier (b ∷ []) bs

      n : suc used + length bs ≡ used + length (b ∷ bs)
      n = omega arith

      go : (t : Bool) → is_sequence (latest earlier ++ (b ∷ [])) ≡ t
          → GoesOn s (earlier ++ (b ∷ [])) bs (suc used) ⊎ Finds s (earlier ++ (b ∷ [])) bs (suc used)
          → GoesOn s earlier (b ∷ bs) used ⊎ Finds s earlier (b ∷ bs) used
      go true e r = inr (suc used, step_found earlier b bs used e)
      go false e (inl r) =
          inl (record {
            is = step_on earlier b bs used e ∙ r.is ∙ ap (λ (y : Bits). unfound s (latest y) (suc used + length bs)) a
                ∙ ap (unfound s (latest (earlier ++ (b ∷ bs)))) n;
            last = inr (ap (λ (y : Bits). is_sequence (latest16 y)) (sym a) ∙ no_sequence earlier b bs e r.last);
          })
      go false e (inr r) = inr (r.0, step_on earlier b bs used e ∙ r.1)

-- behind any bits, a synchronising block ends with the sequence
pub sync_ends : (k : ℕ) (earlier : Bits) → is_sequence (latest16 (earlier ++ sync_block k)) ≡ true
unfolding sync_block
sync_ends k earlier = ap is_sequence tail ∙ eq-eqb (number sync_sequence) (number sync_sequence) refl
  where
    e : earlier ++ ((service_sync ++ tens (k / 2)) ++ sync_sequence)
        ≡ (earlier ++ (service_sync ++ tens (k / 2))) ++ sync_sequence
    e = sym (append_assoc earlier (service_sync ++ tens (k / 2)) sync_sequence)

    n : length (earlier ++ (service_sync ++ tens (k / 2))) ≡ length
        ((earlier ++ (service_sync ++ tens (k / 2))) ++ sync_sequence) - 16
    n = omega (arith, length-append (earlier ++ (service_sync ++ tens (k / 2))) sync_sequence)

    tail : latest16 (earlier ++ ((service_sync ++ tens (k / 2)) ++ sync_sequence)) ≡ sync_sequence
    tail = ap latest16 e ∙ drop_at (earlier ++ (service_sync ++ tens (k / 2))) sync_sequence
        (length ((earlier ++ (service_sync ++ tens (k / 2))) ++ sync_sequence) - 16) n
