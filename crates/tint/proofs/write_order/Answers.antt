-- `write_order`: the head, and the entries in the part behind it. Assumes nothing.
use borrow.Author.Rules.{rules}
use borrow.Rule.Slice.PartMut.{mid_of, put_mid}
use mathlib.Core.List.{List, [], ◌++◌, append_assoc, append-nil}
use mathlib.Core.Path.{◌≡◌, sym, ap, ap₂, ◌∙◌}
use native.Mathlib.Omega.{arith}
use Prim.Native.Nat.{ℕ, ◌+◌, ◌-◌, ◌*◌}
use lib.ListN.{length, take, drop}
use lib.Seq.{take_all, drop-length, drop-drop}
use Rattle.tint.specs.Code.{head_bytes, low_entries}
use Rattle.tint.proofs.write_order.Goals as goal

-- the part behind three bytes, put back
put_back : (n follow : ℕ) (order after part low : List ℕ) → after ≡ head_bytes follow ++ drop 3 order
    → part ≡ low ++ drop n (mid_of 3 (length after - 3) after)
    → put_mid 3 (length after - 3) after part ≡ (head_bytes follow ++ low) ++ drop (3 + n) order
put_back n follow order after part low e p =
    let rest : List ℕ = drop 3 order in
    let l : length after - 3 ≡ length rest = let k = ap length e in omega arith in
    let d : drop 3 after ≡ rest = ap (drop 3) e in
    let t : take (length after - 3) (drop 3 after) ≡ rest = ap₂ take l d ∙ take_all (length rest) rest (omega arith) in
    let z : drop (length after - 3) (drop 3 after) ≡ [] = ap₂ drop l d ∙ drop-length rest in
    ap₂ (λ (x y : List ℕ). x ++ y) (ap (take 3) e) (ap (λ (y : List ℕ). part ++ y) z ∙ append-nil part ∙ p ∙ ap (λ (y : List ℕ). low ++ drop n y) t)
    ∙ sym (append_assoc (head_bytes follow) low (drop n rest)) ∙ ap (λ (y : List ℕ). (head_bytes follow ++ low) ++ y) (drop-drop n 3 order)

pub returns : goal.returns
returns c = let a = c.args in
    let n : ℕ = length a.doses.now * 3 in
    let head : c.copy_from_slice.new.self ≡ head_bytes (length a.doses.now * 3) = search rules in
    put_back n n a.order.now _ _ (low_entries a.doses.now) (ap (λ (x : List ℕ). x ++ drop 3 a.order.now) head) c.write_entries.ensures
