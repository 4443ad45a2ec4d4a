-- Doses in an array, and arrays and slices filled from the front. Assumes nothing.
use mathlib.Core.Path.{◌≡◌, refl, ap, ap₂, sym, ◌∙◌}
use mathlib.Core.List.{List, [], ◌∷◌, ◌++◌, map, append_assoc}
use native.Mathlib.Omega.{arith}
use borrow.Rule.Slice.PartMut.{put_mid}
use Prim.Native.Nat.{ℕ, zero, suc, ◌+◌, ◌-◌, ◌*◌, ◌≤◌, ◌<◌}
use lib.ListN.{length, get_or, take, drop, set, length-append}
use lib.Seq.{length-take-le, take_all, take-append_seam, drop-append-add, drop-drop}
use Rattle.std.specs.List.{flat_map}
use Rattle.std.proofs.lemmas.List.{length-map, map_more, take_more, flat_map_more}
use Rattle.tint.specs.Format.{canisters}
use Rattle.tint.specs.Calls.{no_dose, first_places, filled_up, doses_of, doses_from}
use Rattle.tint.specs.declared.Dose.{Dose}
use Rattle.tint.specs.declared.Doses.{Doses}
use Rattle.tint.proofs.FromTheFront.{filled_so_far, filled_next, filled_all}

-- ---- the first places

pub length_first_places : (n : ℕ) (ds : List Dose) → length (first_places n ds) ≡ n
length_first_places zero ds = refl
length_first_places (suc n) [] = ap suc (length_first_places n [])
length_first_places (suc n) (d ∷ ds) = ap suc (length_first_places n ds)

pub first_places-take : (n : ℕ) (ds : List Dose) → n ≤ length ds → take n ds ≡ first_places n ds
first_places-take zero ds h = refl
first_places-take (suc n) [] h = absurd (omega arith)
first_places-take (suc n) (d ∷ ds) h = ap (λ (r : List Dose). d ∷ r) (first_places-take n ds (omega arith))

pub first_places-append : (ds behind : List Dose) → first_places (length ds) (ds ++ behind) ≡ ds
first_places-append [] behind = refl
first_places-append (d ∷ ds) behind = ap (λ (r : List Dose). d ∷ r) (first_places-append ds behind)

pub doses_of-doses_from : (ds : List Dose) → doses_of (doses_from ds) ≡ ds
doses_of-doses_from ds = first_places-append ds _

-- ---- an array filled from the front

-- one dose more
pub filled_more : (ds : List Dose) (i : ℕ) (d : Dose) → i ≡ length ds → i < canisters → set (filled_up ds) i d ≡ filled_up (ds ++ d ∷ [])
filled_more ds i d e m =
    let all : List Dose = ds ++ d ∷ [] in
    let n : length all ≡ length ds + 1 = length-append ds (d ∷ []) in
    let few : length ds < canisters = omega arith in
    ap (λ (j : ℕ). set (filled_up ds) j d) e
    ∙ filled_all no_dose all [] (set (filled_up ds) (length ds) d) (length ds + 1) refl n
    (filled_next no_dose all (d ∷ []) [] (filled_up ds) (length ds) d few refl (filled_so_far no_dose ds (d ∷ []) (omega arith)))

module _ (f : List ℕ → Dose) (es : List (List ℕ)) (i : ℕ) (list : List Dose) (e : list ≡ filled_up (map f (take i es))) where
  -- with the dose of the next one
  pub filled_turn : (d : Dose) → i < length es → i < canisters → d ≡ f (get_or es i []) → set list i d ≡ filled_up (map f (take (i + 1) es))
  filled_turn d m few g =
      let n : i ≡ length (map f (take i es)) = sym (length-map (take i es) f ∙ length-take-le i es (omega arith)) in
      ap (λ (l : List Dose). set l i d) e ∙ filled_more (map f (take i es)) i d n few
      ∙ ap (λ (x : Dose). filled_up (map f (take i es) ++ x ∷ [])) g ∙ sym (ap filled_up (map_more f es i [] m))

  -- those of all
  pub filled_last : length es ≤ i → ◌≡◌ {A = Doses} (record { count = length es; list = list }) (doses_from (map f es))
  filled_last m =
      ap₂ (λ (k : ℕ) (l : List Dose). record { count = k; list = l }) (sym (length-map es f))
      (e ∙ ap (λ (x : List (List ℕ)). filled_up (map f x)) (take_all i es m))

-- ---- a slice overwritten from the front, with w numbers of each dose

module _ (f : Dose → List ℕ) (w : ℕ) (width : (d : Dose) → length (f d) ≡ w) where
  pub length_by_dose : (ds : List Dose) → length (flat_map f ds) ≡ length ds * w
  length_by_dose [] = omega arith
  length_by_dose (d ∷ ds) = length-append (f d) (flat_map f ds) ∙ omega (arith, width d, length_by_dose ds)

  module _ (ds : List Dose) (i : ℕ) (start slice : List ℕ) (e : slice ≡ flat_map f (take i ds) ++ drop (i * w) start) where
    pub overwritten_turn : (part : List ℕ) → i < length ds → part ≡ f (get_or ds i no_dose)
        → put_mid (i * w) (i * w + w - i * w) slice part ≡ flat_map f (take (i + 1) ds) ++ drop ((i + 1) * w) start
    overwritten_turn part m p =
        let d : Dose = get_or ds i no_dose in
        let front : List ℕ = flat_map f (take i ds) in
        let n : length front ≡ i * w = length_by_dose (take i ds) ∙ ap (λ (k : ℕ). k * w) (length-take-le i ds (omega arith)) in
        let k : i * w + w - i * w ≡ w = omega arith in
        let next : i * w + w ≡ (i + 1) * w = omega arith in
        let v : length (f d) ≡ w = width d in
        let before : take (i * w) slice ≡ front = ap₂ take (sym n) e ∙ take-append_seam front (drop (i * w) start) in
        let behind : drop (i * w + w) slice ≡ drop (i * w + w) start =
        ap₂ (λ (x : ℕ) (s : List ℕ). drop (x + w) s) (sym n) e ∙ drop-append-add front (drop (i * w) start) w ∙ drop-drop w (i * w) start in
        ap₂ (λ (x : List ℕ) (j : ℕ). x ++ (part ++ drop j (drop (i * w) slice))) before k
        ∙ ap₂ (λ (x y : List ℕ). front ++ (x ++ y)) p (drop-drop w (i * w) slice ∙ behind) ∙ sym (append_assoc front (f d) (drop (i * w + w) start))
        ∙ ap (λ (x : List ℕ). x ++ drop (i * w + w) start) (flat_map_more f [] (take i ds) d ∙ ap (flat_map f) (sym (take_more ds i no_dose m)))
        ∙ ap (λ (j : ℕ). flat_map f (take (i + 1) ds) ++ drop j start) next

    pub overwritten_last : i ≤ length ds → length ds ≤ i → slice ≡ flat_map f ds ++ drop (length ds * w) start
    overwritten_last a b =
        let n : i ≡ length ds = omega arith in
        e ∙ ap₂ (λ (x : List Dose) (k : ℕ). flat_map f x ++ drop (k * w) start) (take_all i ds b) n
