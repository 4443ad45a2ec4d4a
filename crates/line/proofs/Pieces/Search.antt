-- A search split anywhere: the window behind the first bits, and the search from the state that holds it. Assumes nothing.
use mathlib.Core.Path.{◌≡◌, refl, ap, sym, ◌∙◌}
use mathlib.Core.Logic.{◌⊎◌, inl, inr}
use mathlib.Core.Bool.{Bool, true, false, cond}
use mathlib.Core.List.{List, [], ◌∷◌, ◌++◌}
use native.Mathlib.Omega.{arith}
use Prim.Native.Nat.{ℕ, suc, ◌+◌, ◌≤◌}
use lib.ListN.{length, drop}
use lib.Seq.{drop_at}
use Rattle.crc.specs.Bits.{Bits, bytes_of}
use Rattle.crc.proofs.Bytes.{length-bytes_of}
use Rattle.line.specs.Receiving.{unfinished, sequence_found, meaning, Reception, stops, latest, searching, is_sequence, search}
use Rattle.line.specs.Pieces.{add_used}
use Rattle.line.specs.declared.receiver.Receiver.{Receiver}
use Rattle.line.proofs.Delivery.SearchAnyBits.{length-latest}

-- the window is what was held, and the array's other bytes are as they were
searching_again : (s : Receiver) (earlier window : Bits) → searching (searching s earlier) window ≡ searching s window
searching_again s earlier window =
    ap (λ (others : List ℕ). record {
      setup = s.setup;
      bits = bytes_of 2 window ++ others;
      held = length window;
      bad_row = s.bad_row;
      back = true;
      taken = s.taken;
      ended = s.ended;
      phase = s.phase;
    }) (drop_at (bytes_of 2 earlier) (drop 2 s.bits) 2 (length-bytes_of 2 earlier))

module _ (s : Receiver) where
  abbrev pub unfound : Bits → ℕ → Reception
  unfound window used = record { rule = unfinished; row = []; used = used; state = searching s window }

  -- the sequence is not found among a's bits, with this window behind them, ...
  pub record Passed (window a : Bits) (used : ℕ) : Type 0 where
    pub then : Bits
    pub short : length then ≤ 15
    pub is : search s window a used ≡ unfound then (used + length a)
    pub more : (b : Bits) → search s window (a ++ b) used ≡ search s then b (used + length a)

  -- ... or it is
  pub record Found (window a : Bits) (used : ℕ) : Type 0 where
    pub event : (meaning (search s window a used).rule).uses_all ≡ false
    pub more : (b : Bits) → search s window (a ++ b) used ≡ search s window a used

  pub search_splits : (window a : Bits) (used : ℕ) → length window ≤ 15 → Passed window a used ⊎ Found window a used
  search_splits window [] used h =
      let n : used ≡ used + 0 = omega arith in
      inl (record {
        then = window;
        short = h;
        is = ap (unfound window) n;
        more = λ b. ap (search s window b) n;
      })
  search_splits window (c ∷ a) used h =
      go (is_sequence (window ++ (c ∷ []))) refl
      (search_splits (latest (window ++ (c ∷ []))) a (suc used) (length-latest (window ++ (c ∷ []))))
    where
      n : suc used + length a ≡ used + length (c ∷ a)
      n = omega arith

      on : is_sequence (window ++ (c ∷ [])) ≡ false → (bs : Bits)
          → search s window (c ∷ bs) used ≡ search s (latest (window ++ (c ∷ []))) bs (suc used)
      on e bs = ap (λ (t : Bool). cond t (stops s sequence_found [] (suc used)) (search s (latest (window ++ (c ∷ []))) bs (suc used))) e

      at : is_sequence (window ++ (c ∷ [])) ≡ true → (bs : Bits) → search s window (c ∷ bs) used ≡ stops s sequence_found [] (suc used)
      at e bs = ap (λ (t : Bool). cond t (stops s sequence_found [] (suc used)) (search s (latest (window ++ (c ∷ []))) bs (suc used))) e

      go : (t : Bool) → is_sequence (window ++ (c ∷ [])) ≡ t
          → Passed (latest (window ++ (c ∷ []))) a (suc used) ⊎ Found (latest (window ++ (c ∷ []))) a (suc used)
          → Passed window (c ∷ a) used ⊎ Found window (c ∷ a) used
      go true e r =
          inr (record {
            event = ap (λ (x : Reception). (meaning x.rule).uses_all) (at e a);
            more = λ b. at e (a ++ b) ∙ sym (at e a);
          })
      go false e (inl r) =
          inl (record {
            then = r.then;
            short = r.short;
            is = on e a ∙ r.is ∙ ap (unfound r.then) n;
            more = λ b. on e (a ++ b) ∙ r.more b ∙ ap (search s r.then b) n;
          })
      go false e (inr r) =
          inr (record {
            event = ap (λ (x : Reception). (meaning x.rule).uses_all) (on e a) ∙ r.event;
            more = λ b. on e (a ++ b) ∙ r.more b ∙ sym (on e a);
          })

  -- from the state that holds an earlier window, with fewer bits used
  pub search-add_used : (earlier window b : Bits) (m n : ℕ)
      → search s window b (m + n) ≡ add_used m (search (searching s earlier) window b n)
  search-add_used earlier window [] m n =
      ap (λ (t : Receiver). record { rule = unfinished; row = []; used = m + n; state = t }) (sym (searching_again s earlier window))
  search-add_used earlier window (c ∷ b) m n =
      go (is_sequence (window ++ (c ∷ []))) (search s (latest (window ++ (c ∷ []))) b (suc (m + n)))
      (search (searching s earlier) (latest (window ++ (c ∷ []))) b (suc n))
      (ap (search s (latest (window ++ (c ∷ []))) b) e ∙ search-add_used earlier (latest (window ++ (c ∷ []))) b m (suc n))
    where
      e : suc (m + n) ≡ m + suc n
      e = omega arith

      go : (t : Bool) (x y : Reception) → x ≡ add_used m y
          → cond t (stops s sequence_found [] (suc (m + n))) x ≡ add_used m (cond t (stops (searching s earlier) sequence_found [] (suc n)) y)
      go true x y q = ap (stops s sequence_found []) e
      go false x y q = q
