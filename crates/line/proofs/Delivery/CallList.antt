-- The whole list: what is supposed of a list, call by call, and what its calls then come to. Assumes nothing.
use mathlib.Core.Path.{◌≡◌, refl, ap, sym, ◌∙◌, subst}
use mathlib.Core.Logic.{⊎_elim}
use mathlib.Core.Bool.{Bool, true, false, cond, not, ◌&&◌, ◌||◌, false≢true, or_assoc}
use mathlib.Core.List.{List, [], ◌∷◌, ◌++◌}
use native.Mathlib.Omega.{arith}
use Prim.Native.Nat.{ℕ, ◌+◌}
use Rattle.crc.specs.Bits.{bit}
use Rattle.block.proofs.Truth.{or_true, or-false, or_no, or_yes, bit_false}
use Rattle.line.specs.Course.{World, Call, Heard, Entry, send_refused, receive_refused, sent, heard, on_heard, entry, next, course, final}
use Rattle.line.specs.Delivery.{All, some, accepted, is_new, is_end, is_alarm, is_lost, is_good, reports_end, OnLine, SameOrder, SameStore, Admitted, NotWhole, SyncAtLast, SyncNotData, OnlyRefused, Assumptions}
use Rattle.line.proofs.Delivery.Ends.{Alarmed}
use Rattle.line.proofs.Delivery.Invariant.{alarmed-idle, alarmed_busy}
use Rattle.line.proofs.Delivery.State.{Session, Fit, alarm_stands, ends_of, lost', danger', Inv, Assumed, Keeps}
use Rattle.line.proofs.Delivery.OneCall.{call_keeps}
use Rattle.line.proofs.Delivery.BetweenLosses.{pends, spaced, spaced_head, spaced_tail, between_spaced}

-- ---- an entry

-- a test of what was heard holds of no entry but a receiving call that is not refused
pub by_heard : (P : Entry → Type 0) (f : Heard → Bool) → ((y : Heard) → f y ≡ true → P (heard y))
    → (e : Entry) → on_heard false f e ≡ true → P e
by_heard P f h (send_refused n) q = absurd (false≢true q)
by_heard P f h (receive_refused n) q = absurd (false≢true q)
by_heard P f h (sent x) q = absurd (false≢true q)
by_heard P f h (heard y) q = h y q

-- ---- what is supposed, entry by entry

-- from a state in which an alarm stands or not, and d says whether a loss pends
abbrev pub Okays : Session → Bool → ℕ → List Entry → Type 0
Okays o alarm d [] = Unit {0}
Okays o alarm d (e ∷ es) = Assumed o alarm d e × Okays o (alarm || is_alarm e) (danger' d e) es

bit_pends : (p : Bool) (e : Entry) → bit (pends p e) ≡ danger' (bit p) e
bit_pends p e = go (is_lost e) p (is_good e)
  where
    go : (l p g : Bool) → bit (l || (p && not g)) ≡ cond l 1 (cond g 0 (bit p))
    go true p g = refl
    go false true true = refl
    go false true false = refl
    go false false true = refl
    go false false false = refl

module _ (o : Session) where
  okays_from : (alarm p : Bool) (es : List Entry) → All (OnLine o.k) es → All (SameOrder o.content) es
      → All SameStore es → All Admitted es → All NotWhole es → All SyncAtLast es → All SyncNotData es
      → (alarm ≡ false → spaced p es ≡ true) → Okays o alarm (bit p) es
  okays_from alarm p [] a b c d f g h s = tt
  okays_from alarm p (e ∷ es) a b c d f g h s = (
    record {
      line = a.0;
      order = b.0;
      store = c.0;
      damage = d.0;
      not_whole = f.0;
      sync_at_last = g.0;
      sync_not_data = h.0;
      loss = λ lost quiet. ap bit (spaced_head p e es (s quiet) lost);
    },
    subst (λ (n : ℕ). Okays o (alarm || is_alarm e) n es) (bit_pends p e)
        (okays_from (alarm || is_alarm e) (pends p e) es a.1 b.1 c.1 d.1 f.1 g.1 h.1
        (λ q. let z = or-false alarm (is_alarm e) q in spaced_tail p e es (s z.0) z.1)),
  )

  pub okays : (es : List Entry) → Assumptions o.k o.content es → Okays o false 0 es
  okays es h =
      okays_from false false es h.line h.order h.store h.damage h.not_whole h.sync_at_last h.sync_not_data
      (λ q. between_spaced es h.between_losses)

-- ---- whether a request was lost, and whether one pends, after a list

abbrev pub losts : ℕ → List Entry → ℕ
losts l [] = l
losts l (e ∷ es) = losts (lost' l e) es

abbrev pub dangers : ℕ → List Entry → ℕ
dangers d [] = d
dangers d (e ∷ es) = dangers (danger' d e) es

losts_one : (es : List Entry) → losts 1 es ≡ 1
losts_one [] = refl
losts_one (e ∷ es) = ap (λ (l : ℕ). losts l es) (one (is_lost e)) ∙ losts_one es
  where
    one : (b : Bool) → cond {A = ℕ} b 1 1 ≡ 1
    one true = refl
    one false = refl

pub losts_zero : (es : List Entry) → losts 0 es ≡ bit (some is_lost es)
losts_zero [] = refl
losts_zero (e ∷ es) = go (is_lost e) (losts_zero es)
  where
    go : (b : Bool) → losts 0 es ≡ bit (some is_lost es) → losts (cond b 1 0) es ≡ bit (b || some is_lost es)
    go true h = losts_one es
    go false h = h

-- ---- the list

-- what holds of the entries before an alarm, and before each of a list
abbrev BeforeAlarm : World → ℕ → List Entry → Type 0
BeforeAlarm w l before = (losts l before ≡ 1) × (w.receiver.ended || some is_end before ≡ false)

abbrev BeforeEachAlarm : World → ℕ → List Entry → Type 0
BeforeEachAlarm w l es =
    (before behind : List Entry) (e : Entry) → es ≡ before ++ (e ∷ behind) → is_alarm e ≡ true → BeforeAlarm w l before

pub record Safe (o : Session) (w : World) (l d : ℕ) (es : List Entry) (w' : World) : Type 0 where
  pub inv : Inv o w' (losts l es) (dangers d es)
  pub taken : w'.receiver.taken ≡ accepted es + w.receiver.taken
  pub ended : w'.receiver.ended ≡ (w.receiver.ended || some is_end es)
  pub length : (M : ℕ) → some (reports_end M) es ≡ true → M ≡ o.L
  pub alarm : BeforeEachAlarm w l es
  pub refusals : All OnlyRefused es

bit-cond : (b : Bool) → bit b ≡ cond b 1 0
bit-cond true = refl
bit-cond false = refl

safe_none : (o : Session) (w : World) (l d : ℕ) → Inv o w l d → Safe o w l d [] w
safe_none o w l d h =
    record {
      inv = h;
      taken = omega arith;
      ended = sym (or_no w.receiver.ended);
      length = λ M e. absurd (false≢true e);
      alarm = no_alarm;
      refusals = tt;
    }
  where
    no_alarm : BeforeEachAlarm w l []
    no_alarm [] behind e z a = absurd (let v : ◌≡◌ {A = ℕ} 0 1 = cc in omega arith)
    no_alarm (x ∷ before) behind e z a = absurd (let v : ◌≡◌ {A = ℕ} 0 1 = cc in omega arith)

-- the end taken before a call or reported by it, and the list behind it
ended_behind : (w w' : World) (e : Entry) (es : List Entry) → w'.receiver.ended ≡ (w.receiver.ended || is_end e)
    → w'.receiver.ended || some is_end es ≡ w.receiver.ended || some is_end (e ∷ es)
ended_behind w w' e es h = ap (λ (b : Bool). b || some is_end es) h ∙ or_assoc w.receiver.ended (is_end e) (some is_end es)

alarmed_of : (o : Session) (w : World) (l d : ℕ) → Inv o w l d → alarm_stands w.receiver.phase ≡ true → Alarmed (ends_of w l d)
alarmed_of o w l d h a =
    ⊎_elim (λ g. alarmed-idle g.idle (ap bit a)) (λ g. alarmed_busy g.line.busy (ap bit a)) h.phase

-- a call that reports an alarm: a request was lost before it, and the end is not taken
alarm_call : (o : Session) (w w' : World) (l d : ℕ) (e : Entry) → Keeps o w l d e w' → is_alarm e ≡ true → BeforeAlarm w l []
alarm_call o w w' l d e y a =
    let stands = y.guaranteed.alarm ∙ ap (λ (b : Bool). alarm_stands w.receiver.phase || b) a ∙ or_yes (alarm_stands w.receiver.phase) in
    let h = alarmed_of o w' (lost' l e) (danger' d e) y.inv stands in
    let kept : is_lost e ≡ false = by_heard (λ x. is_lost x ≡ false) _ (λ v q. refl) e a in
    let still = or-false w.receiver.ended (is_end e) (sym y.guaranteed.ended ∙ bit_false w'.receiver.ended h.open_end) in
    (sym (ap (λ (b : Bool). cond b 1 l) kept) ∙ h.lost, ap (λ (b : Bool). b || false) still.0)

-- one call, and the list behind it
safe_call : (o : Session) (w w' w'' : World) (l d : ℕ) (e : Entry) (es : List Entry) → Keeps o w l d e w'
    → Safe o w' (lost' l e) (danger' d e) es w'' → Safe o w l d (e ∷ es) w''
safe_call o w w' w'' l d e es y z =
    record {
      inv = z.inv;
      taken = omega (arith, z.taken, y.guaranteed.taken, bit-cond (is_new e));
      ended = z.ended ∙ ended_behind w w' e es y.guaranteed.ended;
      length = λ M h. ⊎_elim (y.guaranteed.length M) (z.length M) (or_true (reports_end M e) _ h);
      alarm = before_alarm;
      refusals = (y.guaranteed.refusal, z.refusals);
    }
  where
    before_alarm : BeforeEachAlarm w l (e ∷ es)
    before_alarm [] behind x q a = alarm_call o w w' l d e y (let v : e ≡ x = cc in ap is_alarm v ∙ a)
    before_alarm (v ∷ before) behind x q a =
        let same : e ≡ v = cc in
        let more : es ≡ before ++ (x ∷ behind) = cc in
        let h = z.alarm before behind x more a in
        subst (λ (t : Entry). BeforeAlarm w l (t ∷ before)) same
        (h.0, sym (ended_behind w w' e before y.guaranteed.ended) ∙ h.1)

module _ (o : Session) (fit : Fit o) where
  pub safe : (cs : List Call) (w : World) (l d : ℕ) → Inv o w l d
      → Okays o (alarm_stands w.receiver.phase) d (course w cs) → Safe o w l d (course w cs) (final w cs)
  safe [] w l d h ok = safe_none o w l d h
  safe (c ∷ cs) w l d h ok =
      let y = call_keeps o fit w l d h c ok.0 in
      safe_call o w (next w c) (final (next w c) cs) l d (entry w c) (course (next w c) cs) y
      (safe cs (next w c) (lost' l (entry w c)) (danger' d (entry w c)) y.inv
      (subst (λ (b : Bool). Okays o b (danger' d (entry w c)) (course (next w c) cs)) (sym y.guaranteed.alarm) ok.1))
