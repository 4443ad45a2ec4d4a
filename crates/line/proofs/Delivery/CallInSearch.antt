-- A receiving call in search while a block is on the line: the window moves on, or the sequence is found. Assumes nothing.
use mathlib.Core.Path.{◌≡◌, refl, ap, ap₂, sym, ◌∙◌, subst}
use mathlib.Core.Logic.{◌⊎◌, inl, inr, ⊎_elim}
use mathlib.Core.Bool.{Bool, true, false, true≢false, false≢true}
use mathlib.Core.List.{List, [], ◌++◌, append_assoc, append-nil}
use Prim.Native.Nat.{ℕ, ◌+◌}
use native.Mathlib.Omega.{arith}
use lib.ListN.{length}
use borrow.Author.Tests.{le-leb}
use Rattle.crc.specs.Bits.{Bits, bit}
use Rattle.block.specs.Lengths.{block_length}
use Rattle.block.specs.Block.{sync_block}
use Rattle.block.proofs.Truth.{bit_true}
use Rattle.line.specs.Receiving.{unfinished, sequence_found, held_bits, Reception, stops, latest, searching, is_sequence, search, held_in_range}
use Rattle.line.specs.Course.{World}
use Rattle.line.specs.declared.sender.Sender.{Sender}
use Rattle.line.specs.declared.receiver.Receiver.{Receiver}
use Rattle.line.specs.declared.receiving.Phase.{Phase}
use Rattle.line.specs.declared.receiving.Phase.TheVariants as P
use Rattle.line.proofs.Delivery.Ends.{LineBlock, Busy}
use Rattle.line.proofs.Delivery.Ends as D
use Rattle.line.proofs.Delivery.WrittenBits.{length-searching, held_bits-searching}
use Rattle.line.proofs.Delivery.SearchAnyBits.{latest16, length-latest, GoesOn, search_reads, sync_ends}
use Rattle.line.proofs.Delivery.BlockStep.{same_sender}
use Rattle.line.proofs.Delivery.RuleOnLine.{found_ruling, sync_line_block}
use Rattle.line.proofs.Delivery.CallOnBlock.{ReceptionKept, whole_copy, search_step, quiet_unfinished, pass, finish}
use Rattle.line.proofs.Delivery.State.{Session, N, Fit, in_search, alarm_stands, ends_of, Base, BusyLine}
use Rattle.line.proofs.Delivery.State as S

-- a search leaves the numbers of the ends as they are where the return bit is 1
search-ends : (s : Sender) (r : Receiver) (window : Bits) (l d : ℕ) → r.back ≡ true
    → S.ends s (searching r window) l d ≡ S.ends s r l d
search-ends s r window l d e =
    ap (λ (b : Bool). S.ends s
    (record {
      setup = r.setup;
      bits = r.bits;
      held = r.held;
      bad_row = r.bad_row;
      back = b;
      taken = r.taken;
      ended = r.ended;
      phase = r.phase;
    }) l d) (sym e)

module _ (o : Session) (fit : Fit o) (w : World) (l d : ℕ) (copy : Bits) (f : LineBlock)
    (line : BusyLine o w l d copy f) (base : Base o w) (lent : Bits) (store : List ℕ) where
  abbrev r : Receiver
  r = w.receiver

  abbrev Kept : Reception → Type 0
  Kept y = ReceptionKept o w l d copy f lent store y

  module _ (searches : r.phase ≡ P.Search) where
    quiet : alarm_stands r.phase ≡ false
    quiet = ap alarm_stands searches

    back : r.back ≡ true
    back =
        bit_true r.back
        (⊎_elim
        (λ b. absurd (omega (arith, ap bit quiet, b.alarm)))
        (λ b. omega (arith, ap (λ (p : Phase). bit (in_search p)) searches, b.0.zero))
        line.busy.state)

    earlier : Bits
    earlier = (line.held.search searches).0

    window : held_bits r ≡ latest (earlier ++ line.used)
    unfolding earlier
    window = (line.held.search searches).1

    -- had they been the last of an unharmed synchronising block, the sequence would have been found
    not_unharmed : (remaining : Bits) → w.left ≡ lent ++ remaining → remaining ≡ []
        → (lent ≡ []) ⊎ (is_sequence (latest16 ((earlier ++ line.used) ++ lent)) ≡ false) → copy ≡ sync_block o.k → ⊥
    not_unharmed remaining split z (inl e) c = line.more (split ∙ ap₂ ◌++◌ e z)
    not_unharmed remaining split z (inr e) c =
        true≢false
        (sym (ap (λ (y : Bits). is_sequence (latest16 y))
        (append_assoc earlier line.used lent
        ∙ ap (λ (y : Bits). earlier ++ y) (sym (whole_copy o w l d copy f line lent remaining split z) ∙ c)) ∙ sync_ends o.k earlier)
        ∙ e)

    abbrev then : Receiver
    then = searching r (latest ((earlier ++ line.used) ++ lent))

    held_then : held_bits then ≡ latest ((earlier ++ line.used) ++ lent)
    held_then = held_bits-searching r (latest ((earlier ++ line.used) ++ lent))
        (length-latest ((earlier ++ line.used) ++ lent))

    ends_then : S.ends w.sender then l d ≡ ends_of w l d
    ends_then = search-ends w.sender r (latest ((earlier ++ line.used) ++ lent)) l d back

    search_on : GoesOn r (earlier ++ line.used) lent 0
        → Kept (record { rule = unfinished; row = []; used = 0 + length lent; state = then })
    search_on y ok =
        pass o fit w l d copy f line base lent store ok.store ok.line.0 ok.line.1 unfinished
        (0 + length lent) then (omega arith)
        (quiet_unfinished quiet)
        (record {
          setup = base.receiver_setup;
          array = length-searching r (latest ((earlier ++ line.used) ++ lent)) base.array;
          bad_row = base.bad_row;
          held = in_range;
          taken = refl;
          ended = refl;
          phase = refl;
        })
        (record {
          step = λ p. absurd (search_step searches p);
          search = λ p. (earlier, held_then ∙ ap latest (append_assoc earlier line.used lent));
        })
        (subst (λ (e : D.Ends). Busy (N o) e w.sender.next f) (sym ends_then) line.busy) (λ a. ends_then)
        (λ z. record {
          held = record {
            step = λ p. absurd (search_step searches p);
            search = λ p. (
              (earlier ++ line.used) ++ lent,
              held_then
                  ∙ ap latest (sym (append-nil ((earlier ++ line.used) ++ lent))),
            );
          };
          reads =
              D.searches (same_sender w.sender r then l d d)
              (record { search = refl; bad_row = refl; back = ap bit (sym back); taken = refl; ended = refl; alarm = refl })
              refl (ap bit quiet)
              (ap (λ (p : Phase). bit (in_search p)) searches);
          clean = λ p c n. absurd (not_unharmed ok.line.0 ok.line.1 z y.last c);
        })
      where
        in_range : held_in_range r.phase (block_length o.k)
            (length (latest ((earlier ++ line.used) ++ lent))) ≡ true
        in_range =
            ap (λ (p : Phase). held_in_range p (block_length o.k) (length (latest ((earlier ++ line.used) ++ lent))))
            searches
            ∙ le-leb (length (latest ((earlier ++ line.used) ++ lent))) 15
            (length-latest ((earlier ++ line.used) ++ lent))

    search_found : (n : ℕ) → Kept (stops r sequence_found [] n)
    search_found n ok =
        let s = ok.sync_at_last refl in
        finish o fit w l d copy f line base lent store ok.store sequence_found [] n s.1 (λ e. absurd (false≢true e)) quiet
        (found_ruling o fit w l d copy f line quiet (sync_line_block o fit w l d copy f line s.0))

    pub in_search_lem : Kept (search r (held_bits r) lent 0)
    in_search_lem =
        subst Kept (sym (ap (λ (y : Bits). search r y lent 0) window))
        (⊎_elim
        (λ y. subst Kept (sym y.is) (search_on y))
        (λ y. subst Kept (sym y.1) (search_found y.0))
        (search_reads r (earlier ++ line.used) lent 0))
