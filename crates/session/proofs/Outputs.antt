-- The program over the bytes of a part, one more at a time, and the turn that holds what they bring. Assumes nothing.
use mathlib.Core.Path.{◌≡◌, refl, sym, ap, ◌∙◌}
use mathlib.Core.Bool.{Bool}
use mathlib.Core.List.{List, [], ◌∷◌, ◌++◌, append_assoc, append-nil}
use Prim.Native.Nat.{ℕ, ◌+◌, ◌*◌, ◌≤◌, ◌<◌}
use native.Mathlib.Numerals.{add-one}
use native.Mathlib.Omega.{arith}
use lib.ListN.{length, take, drop, replicate, get_or, length-append}
use lib.Seq.{take-suc, take_all}
use Rattle.session.specs.Buffer.{empty, Appends}
use Rattle.session.specs.Text.{room, heading}
use Rattle.session.specs.Program.{Output, byte_taken, after_byte, after_bytes, yield_text, bytes_text, output_room, output_of, end_text, first_turn, turn, turn_to}
use Rattle.session.specs.Session.{over}
use Rattle.session.specs.declared.program.Program.{Program}
use Rattle.session.specs.declared.program.Turn.{Turn}
use Rattle.session.proofs.Appending.{appends_none, appends_more, appends_all}

-- a byte behind others
after_more : (p : Program) (cs : List ℕ) (c : ℕ) → after_bytes p (cs ++ (c ∷ [])) ≡ after_byte (after_bytes p cs) c
unfolding after_bytes
after_more p [] c = refl
after_more p (d ∷ cs) c = after_more (after_byte p d) cs c

text_more : (p : Program) (cs : List ℕ) (c : ℕ)
    → bytes_text p (cs ++ (c ∷ []))
    ≡ bytes_text p cs ++ yield_text (after_bytes p cs).number (byte_taken (after_bytes p cs) c).yielded
unfolding after_bytes bytes_text
text_more p [] c = append-nil (yield_text p.number (byte_taken p c).yielded)
text_more p (d ∷ cs) c =
    let text : List ℕ = yield_text p.number (byte_taken p d).yielded in
    ap (λ (l : List ℕ). text ++ l) (text_more (after_byte p d) cs c)
    ∙ sym (append_assoc text (bytes_text (after_byte p d) cs) _)

-- what has been read of a part, byte by byte
pub record Going (p₀ : Program) (part : List ℕ) (output₀ : Output) (p : Program) (output : Output) (i : ℕ) : Type 0 where
  pub program : p ≡ after_bytes p₀ (take i part)
  pub appends : Appends output₀ (bytes_text p₀ (take i part)) output
  pub fits : output.len ≤ output₀.len + room * i

pub begins : (p : Program) (part : List ℕ) (output : Output) → Going p part output p output 0
unfolding after_bytes bytes_text
begins p part output = record { program = refl; appends = appends_none output; fits = omega arith }

pub further : (p₀ : Program) (part : List ℕ) (output₀ : Output) (p : Program) (output : Output) (i : ℕ)
    → Going p₀ part output₀ p output i → output₀.len ≤ length output₀.bytes → i < length part
    → (p' : Program) (output' : Output) → p' ≡ after_byte p (get_or part i 0)
    → Appends output (yield_text p.number (byte_taken p (get_or part i 0)).yielded) output' → output'.len ≤ output.len + room
    → Going p₀ part output₀ p' output' (i + 1)
further p₀ part output₀ p output i g b h p' output' e a f =
    let d : take (i + 1) part ≡ take i part ++ (get_or part i 0 ∷ []) = rw add-one (take-suc part i 0 h) in
    record {
      program = rw (d, e, g.program) (sym (after_more p₀ (take i part) (get_or part i 0)));
      appends = rw (d, text_more p₀ (take i part) (get_or part i 0), ← g.program) (appends_more output₀ output output' _ _ b g.appends a);
      fits = omega (arith, g.fits, f);
    }

pub all_read : (p₀ : Program) (part : List ℕ) (output₀ : Output) (p : Program) (output : Output) (i : ℕ)
    → Going p₀ part output₀ p output i → length part ≤ i
    → (p ≡ after_bytes p₀ part) × Appends output₀ (bytes_text p₀ part) output
all_read p₀ part output₀ p output i g h =
    let e : take i part ≡ part = take_all i part h in
    (rw e at g.program, rw e at g.appends)

abbrev pub the_turn : Turn → Turn
the_turn t = t

-- bytes are no end
pub not_the_end : (p : Program) (part : List ℕ) → 0 < length part → turn p part ≡ turn_to (after_bytes p part) (bytes_text p part)
not_the_end p [] h = absurd (omega arith)
not_the_end p (c ∷ cs) h = refl

-- the turn after a program that put these bytes alone
pub made_of : (p q : Program) (text : List ℕ) (o₀ o : Output) (b : Bool) → o₀ ≡ empty output_room → q ≡ p → Appends o₀ text o
    → b ≡ over q.session.place → the_turn (record { program = q; output = o; over = b }) ≡ turn_to p text
made_of p q text o₀ o b z e a v = rw (v, e, appends_all text o (rw z at a)) refl

-- what an output holds lies in its array
text_fits : (text : List ℕ) → length text ≤ length (output_of text).bytes
text_fits text = rw (length-append text (drop (length text) (replicate output_room 0))) (omega arith)

pub start_fits : first_turn.output.len ≤ length first_turn.output.bytes
start_fits = text_fits heading

pub turn_fits : (p : Program) (part : List ℕ) → (turn p part).output.len ≤ length (turn p part).output.bytes
turn_fits p [] = text_fits (end_text p)
turn_fits p (c ∷ cs) = text_fits (bytes_text p (c ∷ cs))
