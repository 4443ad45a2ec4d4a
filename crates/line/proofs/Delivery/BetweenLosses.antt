-- A good block between two losses: the clause on pairs of losses, and the same as a truth value that goes along the list
-- once. Assumes nothing.
use mathlib.Core.Path.{◌≡◌, refl, ap, ap₂, sym, ◌∙◌, subst}
use mathlib.Core.Logic.{◌⊎◌, inl, inr, ⊎_elim}
use mathlib.Core.Bool.{Bool, true, false, not, ◌&&◌, ◌||◌, true≢false, false≢true}
use mathlib.Core.List.{List, [], ◌∷◌, ◌++◌}
use borrow.Author.Tests.{not-true}
use Rattle.block.proofs.Truth.{either, and_true, or-false, or_yes}
use Rattle.line.specs.Course.{Entry}
use Rattle.line.specs.Delivery.{some, is_alarm, is_good, is_lost}

-- ---- truth values

-- where the first holds, so does the second
abbrev pub implies : Bool → Bool → Bool
implies a b = not a || b

pub implies_true : (a b : Bool) → implies a b ≡ true → a ≡ true → b ≡ true
implies_true true b h e = h
implies_true false b h e = absurd (false≢true e)

or_else : (a b : Bool) → (a ≡ false → b ≡ true) → a || b ≡ true
or_else true b h = refl
or_else false b h = h refl

-- ---- the clause

-- of every two losses, no alarm before the second
abbrev pub BetweenLosses : List Entry → Type 0
BetweenLosses es =
    (before between behind : List Entry) (p q : Entry) → es ≡ before ++ (p ∷ (between ++ (q ∷ behind)))
    → is_lost p ≡ true → is_lost q ≡ true → some is_alarm (before ++ (p ∷ between)) ≡ false → some is_good between ≡ true

-- before a loss, no alarm before it
abbrev BeforeLoss : List Entry → Type 0
BeforeLoss es =
    (between behind : List Entry) (q : Entry) → es ≡ between ++ (q ∷ behind) → is_lost q ≡ true
    → some is_alarm between ≡ false → some is_good between ≡ true

-- whether one was lost and no good block read since, after an entry
abbrev pub pends : Bool → Entry → Bool
pends p e = is_lost e || (p && not (is_good e))

-- up to the first alarm, no loss while one pends
abbrev pub spaced : Bool → List Entry → Bool
spaced p [] = true
spaced p (e ∷ es) = implies (is_lost e) (not p) && (is_alarm e || spaced (pends p e) es)

-- ---- from the truth value to the clause

module _ (p : Bool) (e : Entry) (es : List Entry) (h : spaced p (e ∷ es) ≡ true) where
  parts : (implies (is_lost e) (not p) ≡ true) × (is_alarm e || spaced (pends p e) es ≡ true)
  parts = and_true (implies (is_lost e) (not p)) (is_alarm e || spaced (pends p e) es) h

  pub spaced_head : is_lost e ≡ true → p ≡ false
  spaced_head lost = not-true p (implies_true (is_lost e) (not p) parts.0 lost)

  pub spaced_tail : is_alarm e ≡ false → spaced (pends p e) es ≡ true
  spaced_tail quiet = sym (ap (λ (b : Bool). b || spaced (pends p e) es) quiet) ∙ parts.1

pends_lost : (p : Bool) (e : Entry) → is_lost e ≡ true → pends p e ≡ true
pends_lost p e h = ap (λ (b : Bool). b || (p && not (is_good e))) h

pends_still : (e : Entry) → is_good e ≡ false → pends true e ≡ true
pends_still e h = ap (λ (b : Bool). is_lost e || not b) h ∙ or_yes (is_lost e)

-- while one pends, a good block comes before the next
pending_before : (between behind : List Entry) (q : Entry) → spaced true (between ++ (q ∷ behind)) ≡ true → is_lost q ≡ true
    → some is_alarm between ≡ false → some is_good between ≡ true
pending_before [] behind q h lost quiet = absurd (true≢false (spaced_head true q behind h lost))
pending_before (e ∷ between) behind q h lost quiet =
    let a = or-false (is_alarm e) (some is_alarm between) quiet in
    let t : spaced (pends true e) (between ++ (q ∷ behind)) ≡ true = spaced_tail true e (between ++ (q ∷ behind)) h a.0 in
    ⊎_elim
    (λ g. ap (λ (b : Bool). b || some is_good between) g)
    (λ g.
    ap (λ (b : Bool). b || some is_good between) g
    ∙ pending_before between behind q (subst (λ (b : Bool). spaced b (between ++ (q ∷ behind)) ≡ true) (pends_still e g) t) lost a.1)
    (either (is_good e))

before_between : (p : Bool) (before between behind : List Entry) (x q : Entry)
    → spaced p (before ++ (x ∷ (between ++ (q ∷ behind)))) ≡ true → is_lost x ≡ true → is_lost q ≡ true
    → some is_alarm (before ++ (x ∷ between)) ≡ false → some is_good between ≡ true
before_between p [] between behind x q h lost again quiet =
    let a = or-false (is_alarm x) (some is_alarm between) quiet in
    let t = spaced_tail p x (between ++ (q ∷ behind)) h a.0 in
    pending_before between behind q (subst (λ (b : Bool). spaced b (between ++ (q ∷ behind)) ≡ true) (pends_lost p x lost) t) again a.1
before_between p (e ∷ before) between behind x q h lost again quiet =
    let a = or-false (is_alarm e) (some is_alarm (before ++ (x ∷ between))) quiet in
    before_between (pends p e) before between behind x q
    (spaced_tail p e (before ++ (x ∷ (between ++ (q ∷ behind)))) h a.0) lost again a.1

pub spaced_between : (es : List Entry) → spaced false es ≡ true → BetweenLosses es
spaced_between es h before between behind x q e =
    before_between false before between behind x q (sym (ap (spaced false) e) ∙ h)

-- ---- and back

spaced_from : (p : Bool) (es : List Entry) → BetweenLosses es → (p ≡ true → BeforeLoss es) → spaced p es ≡ true
spaced_from p [] c b = refl
spaced_from p (e ∷ es) c b =
    ap₂ ◌&&◌ (head (either (is_lost e)) (either p))
    (or_else (is_alarm e) (spaced (pends p e) es) (λ a. spaced_from (pends p e) es (tail a) (since a (either (is_lost e)))))
  where
    head : (is_lost e ≡ true) ⊎ (is_lost e ≡ false) → (p ≡ true) ⊎ (p ≡ false) → implies (is_lost e) (not p) ≡ true
    head (inr l) q = ap (λ (t : Bool). implies t (not p)) l
    head (inl l) (inr q) = ap₂ implies l (ap not q)
    head (inl l) (inl q) = absurd (false≢true (b q [] es e refl l refl))

    alarm_free : is_alarm e ≡ false → (l : List Entry) → some is_alarm l ≡ false → some is_alarm (e ∷ l) ≡ false
    alarm_free a l h = ap₂ ◌||◌ a h

    tail : is_alarm e ≡ false → BetweenLosses es
    tail a before between behind x q z lost again quiet =
        c (e ∷ before) between behind x q (ap (λ (l : List Entry). e ∷ l) z) lost again (alarm_free a (before ++ (x ∷ between)) quiet)

    since : is_alarm e ≡ false → (is_lost e ≡ true) ⊎ (is_lost e ≡ false) → pends p e ≡ true → BeforeLoss es
    since a (inl l) g between behind q z lost quiet =
        c [] between behind e q (ap (λ (l : List Entry). e ∷ l) z) l lost (alarm_free a between quiet)
    since a (inr l) g between behind q z lost quiet =
        let n = and_true p (not (is_good e)) (sym (ap (λ (t : Bool). t || (p && not (is_good e))) l) ∙ g) in
        sym (ap (λ (t : Bool). t || some is_good between) (not-true (is_good e) n.1))
        ∙ b n.0 (e ∷ between) behind q (ap (λ (l : List Entry). e ∷ l) z) lost (alarm_free a between quiet)

pub between_spaced : (es : List Entry) → BetweenLosses es → spaced false es ≡ true
between_spaced es c = spaced_from false es c (λ f. absurd (false≢true f))

-- ---- along two lists

abbrev pub pends_all : Bool → List Entry → Bool
pends_all p [] = p
pends_all p (e ∷ es) = pends_all (pends p e) es

pub pends_all_append : (p : Bool) (a b : List Entry) → pends_all p (a ++ b) ≡ pends_all (pends_all p a) b
pends_all_append p [] b = refl
pends_all_append p (e ∷ a) b = pends_all_append (pends p e) a b

pub spaced_append : (p : Bool) (a b : List Entry)
    → spaced p (a ++ b) ≡ spaced p a && (some is_alarm a || spaced (pends_all p a) b)
spaced_append p [] b = refl
spaced_append p (e ∷ a) b =
    ap (λ (t : Bool). implies (is_lost e) (not p) && (is_alarm e || t)) (spaced_append (pends p e) a b)
    ∙ regroup (implies (is_lost e) (not p)) (is_alarm e) (spaced (pends p e) a) (some is_alarm a) (spaced (pends_all p (e ∷ a)) b)
  where
    regroup : (i x s y t : Bool) → i && (x || (s && (y || t))) ≡ (i && (x || s)) && ((x || y) || t)
    regroup true true s y t = refl
    regroup true false s y t = refl
    regroup false x s y t = refl
