-- `shift_in`: the first byte holds the service bits and the first half of the data, the others the data shifted.
-- Assumes nothing.
use mathlib.Core.List.{List, [], ◌∷◌, ◌++◌, append-nil}
use mathlib.Core.Path.{◌≡◌, sym, ap, ap₂, subst, ◌∙◌}
use native.Mathlib.Omega.{arith}
use Prim.Native.Nat.{ℕ, suc, ◌-◌, ◌*◌, ◌/◌, ◌%◌, ◌^◌, ◌≤◌, ◌<◌}
use lib.Bits.{bit_or}
use lib.ListN.{length, get_or, take, drop, set, drop_of_length-le}
use lib.Seq.{take_all}
use Rattle.crc.specs.Bits.{Bits, binary, bits_of, bytes_of}
use Rattle.block.specs.Calls.{overwritten}
use Rattle.block.proofs.Packing.{drop_half_first, shifted_first, shifted_rest}
use Rattle.block.proofs.packed.shift_in.Goals as goal

-- a part from the second byte on, put back, and the first byte stored
front : (m c : ℕ) (payload block part : List ℕ) → 0 < m → m ≤ length payload → m ≤ length block → get_or payload 0 0 < 256
    → part ≡ bytes_of (m - 1) (drop 4 (bits_of payload)) ++ drop (m - 1) (take (length block - 1) (drop 1 block))
    → set (take 1 block ++ (part ++ drop (length block - 1) (drop 1 block))) 0 (bit_or ((c * 2 ^ 4) % 2 ^ 8) (get_or payload 0 0 / 2 ^ 4))
    ≡ bytes_of m (binary 4 c ++ bits_of payload) ++ drop m block
front m c payload [] part hm hp hb h0 e = absurd (omega arith)
front m c payload (b ∷ bs) part hm hp hb h0 e =
    let v : ℕ = bit_or ((c * 2 ^ 4) % 2 ^ 8) (get_or payload 0 0 / 2 ^ 4) in
    let n : length bs ≡ suc (length bs) - 1 = omega arith in
    let sm : suc (m - 1) ≡ m = omega arith in
    let t : take (suc (length bs) - 1) bs ≡ bs = take_all (suc (length bs) - 1) bs (omega arith) in
    let d : drop (suc (length bs) - 1) bs ≡ [] = drop_of_length-le bs {i = suc (length bs) - 1} (omega arith) in
    let first : bytes_of m (binary 4 c ++ bits_of payload) ≡ v ∷ bytes_of (m - 1) (drop 4 (bits_of payload)) =
    ap (λ (x : ℕ). bytes_of x (binary 4 c ++ bits_of payload)) (sym sm)
    ∙ shifted_first (m - 1) c payload 0 (omega arith) h0
    ∙ ap (λ (l : Bits). v ∷ bytes_of (m - 1) l) (sym (drop_half_first payload (omega arith))) in
    ap (λ (l : List ℕ). v ∷ l) (ap (λ (l : List ℕ). part ++ l) d ∙ append-nil part ∙ e ∙ ap (λ (l : List ℕ). bytes_of (m - 1) (drop 4 (bits_of payload)) ++ drop (m - 1) l) t)
    ∙ ap₂ (λ (x y : List ℕ). x ++ y) (sym first) (ap (λ (x : ℕ). drop x (b ∷ bs)) sm)

-- without data the service bits are left, and no byte is written
none_left : (m c : ℕ) (payload : List ℕ) → m ≡ 0 → binary 4 c ≡ drop (8 * m) (binary 4 c ++ bits_of (take m payload))
unfolding bits_of
none_left m c payload z =
    let e : 8 * m ≡ 0 = omega arith in
    sym (append-nil (binary 4 c)) ∙ ap₂ (λ (x y : ℕ). drop x (binary 4 c ++ bits_of (take y payload))) (sym e) (sym z)

none_written : (m : ℕ) (row : Bits) (block : List ℕ) → m ≡ 0 → block ≡ overwritten m row block
unfolding bytes_of
none_written m row block z = ap (λ (x : ℕ). overwritten x row block) (sym z)

pub returns-then-m-eq0 : goal.returns-then-m-eq0
returns-then-m-eq0 c = let a = c.args in (
  none_left a.m a.service a.payload.now c.if-m-eq0.true,
  none_written a.m _ a.block.now c.if-m-eq0.true,
)

-- with data, the last four of them
rest : (m c : ℕ) (payload : List ℕ) → 0 < m → m ≤ length payload
    → binary 4 (get_or payload (m - 1) 0) ≡ drop (8 * m) (binary 4 c ++ bits_of (take m payload))
rest m c payload hm hp =
    let e : suc (m - 1) ≡ m = omega arith in
    subst (λ (n : ℕ). binary 4 (get_or payload (m - 1) 0) ≡ drop (8 * n) (binary 4 c ++ bits_of (take n payload))) e
    (sym (shifted_rest c (m - 1) payload (omega arith)))

pub returns : goal.returns
returns c = let a = c.args in
    let hm : 0 < a.m = omega arith in (
      rest a.m a.service a.payload.now hm (omega arith),
      front a.m a.service a.payload.now a.block.now _ hm (omega arith) (omega arith)
          (c.shared_slice_known-2-1.given 0).fits c.shift_half.ensures,
    )
