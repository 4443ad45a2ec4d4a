-- What is supposed of a list of calls holds of each of its prefixes. Assumes nothing.
use mathlib.Core.Path.{◌≡◌, refl, ap, sym}
use mathlib.Core.List.{List, [], ◌∷◌, ◌++◌, append_assoc}
use Prim.Native.Nat.{ℕ}
use Rattle.crc.specs.Bits.{Bits}
use Rattle.line.specs.Course.{Call, World, Entry, entry, next, course, final}
use Rattle.line.specs.Delivery.{All, Assumptions}

-- the course of two lists behind one another
pub course-append : (w : World) (a b : List Call) → course w (a ++ b) ≡ course w a ++ course (final w a) b
course-append w [] b = refl
course-append w (c ∷ a) b = ap (λ (es : List Entry). entry w c ∷ es) (course-append (next w c) a b)

pub final-append : (w : World) (a b : List Call) → final w (a ++ b) ≡ final (final w a) b
final-append w [] b = refl
final-append w (c ∷ a) b = final-append (next w c) a b

pub all_prefix : {A : Type 0} (P : A → Type 0) (a b : List A) → All P (a ++ b) → All P a
all_prefix P [] b h = tt
all_prefix P (x ∷ a) b h = (h.0, all_prefix P a b h.1)

module _ (k : ℕ) (content : Bits) where
  prefix_entries : (a b : List Entry) → Assumptions k content (a ++ b) → Assumptions k content a
  prefix_entries a b h =
      record {
        line = all_prefix _ a b h.line;
        order = all_prefix _ a b h.order;
        store = all_prefix _ a b h.store;
        damage = all_prefix _ a b h.damage;
        not_whole = all_prefix _ a b h.not_whole;
        sync_at_last = all_prefix _ a b h.sync_at_last;
        sync_not_data = all_prefix _ a b h.sync_not_data;
        between_losses = λ before between behind p q e. h.between_losses before between (behind ++ b) p q (split before between behind p q e);
      }
    where
      split : (before between behind : List Entry) (p q : Entry) → a ≡ before ++ (p ∷ (between ++ (q ∷ behind)))
          → a ++ b ≡ before ++ (p ∷ (between ++ (q ∷ (behind ++ b))))
      split before between behind p q e = rw e (simp append_assoc)

  pub prefix_assumptions : (w : World) (a b : List Call) → Assumptions k content (course w (a ++ b)) → Assumptions k content (course w a)
  prefix_assumptions w a b h = prefix_entries (course w a) (course (final w a) b) (rw (sym (course-append w a b)) h)
