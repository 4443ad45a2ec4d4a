-- Laws of a buffer with bytes behind it: none, one, and some behind others. Assumes nothing.
use mathlib.Core.Path.{◌≡◌, sym, ap, ap₂, ◌∙◌}
use mathlib.Core.List.{List, [], ◌∷◌, ◌++◌, append_assoc}
use Prim.Native.Nat.{ℕ, ◌+◌, ◌≤◌, ◌<◌}
use native.Mathlib.Nat.{add-zero, zero-add, add_assoc}
use native.Mathlib.Numerals.{add-one}
use native.Mathlib.Omega.{arith}
use lib.ListN.{length, take, drop, set, length-append, take-append-drop, replicate}
use lib.Seq.{take_at, drop-append-add, drop-drop, length-take-le, set_split}
use Rattle.session.specs.Buffer.{empty, filled, Appends}
use Rattle.session.specs.declared.buffer.Buffer.{Buffer}

-- bytes over those of a list from a place on
abbrev over : List ℕ → ℕ → List ℕ → List ℕ
over s at added = take at s ++ (added ++ drop (at + length added) s)

over_none : (s : List ℕ) (at : ℕ) → s ≡ over s at []
over_none s at = rw add-zero (sym (take-append-drop at s))

pub over_one : (s : List ℕ) (at b : ℕ) → at < length s → set s at b ≡ over s at (b ∷ [])
over_one s at b h = rw add-one (set_split s at b h)

over-over : (s a b : List ℕ) (at : ℕ) → at ≤ length s → over (over s at a) (at + length a) b ≡ over s at (a ++ b)
over-over s a b at h =
    let T : List ℕ = take at s in
    let D : List ℕ = drop (at + length a) s in
    let n : length (T ++ a) ≡ at + length a = rw (length-append, length-take-le at s h) in
    let t : take (at + length a) (T ++ (a ++ D)) ≡ T ++ a = rw (← append_assoc) (take_at (T ++ a) D _ n) in
    let d : drop (at + length a + length b) (T ++ (a ++ D)) ≡ drop (at + length a + length b) s =
    rw (← append_assoc) (ap (λ (m : ℕ). drop (m + length b) ((T ++ a) ++ D)) (sym n) ∙ drop-append-add (T ++ a) D (length b) ∙ drop-drop (length b) (at + length a) s) in
    rw (t, d) (simp (append_assoc, length-append, add_assoc))

pub appends_none : {N : ℕ} (t : Buffer N) → Appends t [] t
appends_none t = record { bytes = over_none t.bytes t.len; len = sym (add-zero t.len) }

pub appends_more : {N : ℕ} (t r s : Buffer N) (a b : List ℕ) → t.len ≤ length t.bytes → Appends t a r → Appends r b s → Appends t (a ++ b) s
appends_more t r s a b h x y =
    record {
      bytes =
          y.bytes ∙ ap (λ (l : List ℕ). over l r.len b) x.bytes ∙ ap (λ (n : ℕ). over (over t.bytes t.len a) n b) x.len
          ∙ over-over t.bytes a b t.len h;
      len = y.len ∙ rw (x.len, length-append) (add_assoc t.len (length a) (length b));
    }

-- what is appended to the empty buffer is all that the buffer holds
pub appends_all : {N : ℕ} (s : List ℕ) (r : Buffer N) → Appends (empty N) s r → r ≡ filled N s
appends_all {N} s r x =
    let z : 0 + length s ≡ length s = zero-add (length s) in
    let b : r.bytes ≡ s ++ drop (length s) (replicate N 0) = rw z at x.bytes in
    ap₂ (λ (l : List ℕ) (n : ℕ). the (record { bytes = l; len = n })) b (x.len ∙ z)
  where
    the : Buffer N → Buffer N
    the t = t

pub appends_next : {N : ℕ} (r s : Buffer N) (a b : List ℕ) → Appends (empty N) a r → Appends r b s → Appends (empty N) (a ++ b) s
appends_next {N} r s a b x y = appends_more (empty N) r s a b (omega arith) x y
