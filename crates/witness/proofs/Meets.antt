-- Whether a course meets what is supposed of it, as a truth value; and that it then does. Assumes nothing.
use mathlib.Core.Path.{◌≡◌, refl, ap, ap₂, sym, ◌∙◌, subst}
use mathlib.Core.Bool.{Bool, true, false, not, ◌&&◌, ◌||◌, beq, true≢false, false≢true}
use mathlib.Core.List.{List, [], ◌∷◌, ◌++◌}
use native.Mathlib.Omega.{arith}
use Prim.Native.Nat.{ℕ, suc, ◌≤◌}
use lib.Dec.{eqb}
use denote.Enum.Declared.{tag_of}
use lib.ListN.{length, take, drop, length-take, take-append-drop}
use borrow.Author.Tests.{eqb-true, not-true, not-false}
use Rattle.crc.specs.Bits.{Bits, zeros, parity, xor_bits}
use Rattle.crc.specs.Damage.{Damage, odd_number, burst}
use Rattle.block.specs.Lengths.{block_length}
use Rattle.block.proofs.Truth.{and_true, or-false, or_yes}
use Rattle.line.specs.Sending.{Block, synchronising, item}
use Rattle.line.specs.Receiving.{meaning}
use Rattle.line.specs.Course.{Sent, Heard, Entry, send_refused, receive_refused, sent, heard, on_sent, on_heard}
use Rattle.line.specs.Delivery.{All, some, event_of, is_alarm, is_lost, is_cancelled, is_item, OnLine, SameOrder, SameStore, Admitted, NotWhole, SyncAtLast, SyncNotData, Assumptions}
use Rattle.line.proofs.Delivery.BetweenLosses.{implies, implies_true, spaced, spaced_between, BetweenLosses, between_spaced}
use Rattle.line.specs.declared.receiving.Event.{Event}
use Rattle.line.specs.declared.receiving.Event.TheVariants as E
use Rattle.line.specs.contracts.receiving.Event.{the_type}

-- ---- rows, bytes and blocks

-- whether two lists are the same, item by item
abbrev same : {A : Type 0} → (A → A → Bool) → List A → List A → Bool
same eq [] [] = true
same eq [] (b ∷ y) = false
same eq (a ∷ x) [] = false
same eq (a ∷ x) (b ∷ y) = eq a b && same eq x y

same_list : {A : Type 0} (eq : A → A → Bool) → ((a b : A) → eq a b ≡ true → a ≡ b) → (x y : List A) → same eq x y ≡ true → x ≡ y
same_list eq f [] [] h = refl
same_list eq f [] (b ∷ y) h = absurd (false≢true h)
same_list eq f (a ∷ x) [] h = absurd (false≢true h)
same_list eq f (a ∷ x) (b ∷ y) h =
    let e = and_true (eq a b) (same eq x y) h in
    ap₂ ◌∷◌ (f a b e.0) (same_list eq f x y e.1)

abbrev pub same_bits : Bits → Bits → Bool
same_bits = same beq

pub same_bit : (a b : Bool) → beq a b ≡ true → a ≡ b
same_bit true true h = refl
same_bit true false h = absurd (false≢true h)
same_bit false true h = absurd (false≢true h)
same_bit false false h = refl

pub same_bits_lem : (x y : Bits) → same_bits x y ≡ true → x ≡ y
same_bits_lem = same_list beq same_bit

bits_same : (x : Bits) → same_bits x x ≡ true
bits_same [] = refl
bits_same (true ∷ x) = bits_same x
bits_same (false ∷ x) = bits_same x

-- a row begins with another
abbrev begins : Bits → Bits → Bool
begins [] y = true
begins (a ∷ x) [] = false
begins (a ∷ x) (b ∷ y) = beq a b && begins x y

begins_with : (x y : Bits) → begins x y ≡ true → (later : Bits) × (y ≡ x ++ later)
begins_with [] y h = (y, refl)
begins_with (a ∷ x) [] h = absurd (false≢true h)
begins_with (a ∷ x) (b ∷ y) h =
    let e = and_true (beq a b) (begins x y) h in
    let z = begins_with x y e.1 in
    (z.0, ap₂ ◌∷◌ (sym (same_bit a b e.0)) z.1)

not_item : (b : Block) → is_item b ≡ false → b ≡ synchronising
not_item synchronising h = refl
not_item (item i end used cancel) h = absurd (true≢false h)

-- ---- damage

abbrev no_ones : Bits → Bool
no_ones [] = true
no_ones (b ∷ e) = not b && no_ones e

no_ones_lem : (e : Bits) → no_ones e ≡ true → e ≡ zeros (length e)
no_ones_lem [] h = refl
no_ones_lem (true ∷ e) h = absurd (false≢true h)
no_ones_lem (false ∷ e) h = ap (λ (r : Bits). false ∷ r) (no_ones_lem e h)

-- all ones within 16 adjacent places
abbrev within16 : Bits → Bool
within16 [] = true
within16 (true ∷ e) = no_ones (drop 15 e)
within16 (false ∷ e) = within16 e

record Burst (e : Bits) : Type 0 where
  before : ℕ
  ones : Bits
  behind : ℕ
  short : length ones ≤ 16
  parts : e ≡ zeros before ++ (ones ++ zeros behind)

within_burst : (e : Bits) → within16 e ≡ true → Burst e
within_burst [] h = record { before = 0; ones = []; behind = 0; short = omega arith; parts = refl }
within_burst (true ∷ e) h =
    record {
      before = 0;
      ones = true ∷ take 15 e;
      behind = length (drop 15 e);
      short = omega (arith, length-take 15 e);
      parts = ap (λ (r : Bits). true ∷ r) (sym (take-append-drop 15 e) ∙ ap (λ (r : Bits). take 15 e ++ r) (no_ones_lem (drop 15 e) h));
    }
within_burst (false ∷ e) h =
    let b = within_burst e h in
    record {
      before = suc b.before;
      ones = b.ones;
      behind = b.behind;
      short = b.short;
      parts = ap (λ (r : Bits). false ∷ r) b.parts;
    }

abbrev admits : Bits → Bool
admits e = parity e || within16 e

admits_damage : (e : Bits) → admits e ≡ true → Damage e
admits_damage e h = go (parity e) refl h
  where
    go : (p : Bool) → parity e ≡ p → p || within16 e ≡ true → Damage e
    go true odd k = odd_number odd
    go false even k =
        let b = within_burst e k in
        subst Damage (sym b.parts) (burst b.before b.ones b.behind b.short)

-- ---- one entry

abbrev is_sync_event : Event → Bool
is_sync_event v = eqb (tag_of the_type v) (tag_of the_type E.Sync)

abbrev sent_meets : ℕ → Bits → Sent → Bool
sent_meets k content x =
    same_bits x.unused []
    && (eqb (length x.arrives) (block_length k)
    && (same_bits x.order content
    && (admits (xor_bits x.arrives x.plain)
    && implies (is_cancelled x.block) (not (same_bits x.arrives x.plain)))))

abbrev heard_meets : Heard → Bool
heard_meets y =
    begins y.lent y.left
    && (same eqb y.store y.kept
    && (implies (is_sync_event (event_of y)) (not (is_item y.block) && eqb y.used (length y.left))
    && (is_item y.block || not (meaning y.rule).data_or_end)))

abbrev entry_meets : ℕ → Bits → Entry → Bool
entry_meets k content e = on_sent (on_heard true heard_meets e) (sent_meets k content) e

-- all clauses but the one on losses
pub record Met (k : ℕ) (content : Bits) (e : Entry) : Type 0 where
  pub line : OnLine k e
  pub order : SameOrder content e
  pub store : SameStore e
  pub damage : Admitted e
  pub not_whole : NotWhole e
  pub sync_at_last : SyncAtLast e
  pub sync_not_data : SyncNotData e

sent_meets_lem : (k : ℕ) (content : Bits) (x : Sent) → sent_meets k content x ≡ true → Met k content (sent x)
sent_meets_lem k content x h =
    let a = and_true _ _ h in
    let b = and_true _ _ a.1 in
    let c = and_true _ _ b.1 in
    let d = and_true _ _ c.1 in
    record {
      line = (same_bits_lem x.unused [] a.0, eqb-true (length x.arrives) (block_length k) b.0);
      order = same_bits_lem x.order content c.0;
      store = tt;
      damage = admits_damage (xor_bits x.arrives x.plain) d.0;
      not_whole = λ cancel e. differ e (implies_true (is_cancelled x.block) _ d.1 cancel);
      sync_at_last = tt;
      sync_not_data = tt;
    }
  where
    differ : x.arrives ≡ x.plain → not (same_bits x.arrives x.plain) ≡ true → ⊥
    differ e n = false≢true (sym (ap not (ap (λ (r : Bits). same_bits r x.plain) e ∙ bits_same x.plain)) ∙ n)

sync_event : (v : Event) (b : Bool) → implies (is_sync_event v) b ≡ true → v ≡ E.Sync → b ≡ true
sync_event v b h e = implies_true (is_sync_event v) b h (ap is_sync_event e)

not-read : (b : Block) (d : Bool) → is_item b || not d ≡ true → b ≡ synchronising → d ≡ false
not-read b d h e = not-true d (sym (ap (λ (c : Block). is_item c || not d) e) ∙ h)

heard_meets_lem : (k : ℕ) (content : Bits) (y : Heard) → heard_meets y ≡ true → Met k content (heard y)
heard_meets_lem k content y h =
    let a = and_true _ _ h in
    let b = and_true _ _ a.1 in
    let c = and_true _ _ b.1 in
    record {
      line = begins_with y.lent y.left a.0;
      order = tt;
      store = same_list eqb eqb-true y.store y.kept b.0;
      damage = tt;
      not_whole = tt;
      sync_at_last = λ e. at_last_lem (and_true _ _ (sync_event (event_of y) _ c.0 e));
      sync_not_data = not-read y.block (meaning y.rule).data_or_end c.1;
    }
  where
    at_last_lem : (not (is_item y.block) ≡ true) × (eqb y.used (length y.left) ≡ true)
        → (y.block ≡ synchronising) × (y.used ≡ length y.left)
    at_last_lem q = (not_item y.block (not-true (is_item y.block) q.0), eqb-true y.used (length y.left) q.1)

entry_meets_lem : (k : ℕ) (content : Bits) (e : Entry) → entry_meets k content e ≡ true → Met k content e
entry_meets_lem k content (send_refused n) h =
    record { line = tt; order = tt; store = tt; damage = tt; not_whole = tt; sync_at_last = tt; sync_not_data = tt }
entry_meets_lem k content (receive_refused n) h =
    record { line = tt; order = tt; store = tt; damage = tt; not_whole = tt; sync_at_last = tt; sync_not_data = tt }
entry_meets_lem k content (sent x) h = sent_meets_lem k content x h
entry_meets_lem k content (heard y) h = heard_meets_lem k content y h

-- ---- the list

-- an entry that breaks one of them
abbrev pub unmet : ℕ → Bits → Entry → Bool
unmet k content e = not (entry_meets k content e)

all_met : (k : ℕ) (content : Bits) (es : List Entry) → some (unmet k content) es ≡ false → All (Met k content) es
all_met k content [] h = tt
all_met k content (e ∷ es) h =
    let a = or-false (unmet k content e) (some (unmet k content) es) h in
    (entry_meets_lem k content e (not-false (entry_meets k content e) a.0), all_met k content es a.1)

all_map : {P Q : Entry → Type 0} → ((e : Entry) → P e → Q e) → (es : List Entry) → All P es → All Q es
all_map f [] h = tt
all_map f (e ∷ es) h = (f e h.0, all_map f es h.1)

assumed : (k : ℕ) (content : Bits) (es : List Entry) → All (Met k content) es → spaced false es ≡ true → Assumptions k content es
assumed k content es m s =
    record {
      line = all_map (λ e c. c.line) es m;
      order = all_map (λ e c. c.order) es m;
      store = all_map (λ e c. c.store) es m;
      damage = all_map (λ e c. c.damage) es m;
      not_whole = all_map (λ e c. c.not_whole) es m;
      sync_at_last = all_map (λ e c. c.sync_at_last) es m;
      sync_not_data = all_map (λ e c. c.sync_not_data) es m;
      between_losses = spaced_between es s;
    }

pub meets : (k : ℕ) (content : Bits) (es : List Entry) → not (some (unmet k content) es) && spaced false es ≡ true → Assumptions k content es
meets k content es h =
    let a = and_true _ _ h in
    assumed k content es (all_met k content es (not-true _ a.0)) a.1

unlost_spaced : (es : List Entry) → some is_lost es ≡ false → spaced false es ≡ true
unlost_spaced [] h = refl
unlost_spaced (e ∷ es) h =
    let a = or-false (is_lost e) (some is_lost es) h in
    rw (a.0, unlost_spaced es a.1, or_yes (is_alarm e))

-- where no request is lost
pub meets_unlost : (k : ℕ) (content : Bits) (es : List Entry) → some (unmet k content) es ≡ false → some is_lost es ≡ false
    → Assumptions k content es
meets_unlost k content es met unlost = assumed k content es (all_met k content es met) (unlost_spaced es unlost)

-- where losses are not spaced, that clause alone is broken
pub breaks : (k : ℕ) (content : Bits) (es : List Entry) → not (some (unmet k content) es) && not (spaced false es) ≡ true
    → All (Met k content) es × (BetweenLosses es → ⊥)
breaks k content es h =
    let a = and_true _ _ h in
    (all_met k content es (not-true _ a.0), λ b. false≢true (sym (ap not (between_spaced es b)) ∙ a.1))
