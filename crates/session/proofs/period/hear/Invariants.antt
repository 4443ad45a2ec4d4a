use mathlib.Core.Path.{◌≡◌}
use lib.ListN.{length, take}
use Rattle.crc.specs.Bits.{bits_of}
use Rattle.session.specs.Period.{Lent, hear}
use Rattle.session.proofs.period.hear.Given as goal

abbrev pub invariant-loop-left : goal.invariant-loop-left
invariant-loop-left l = Lent l.line l.left × (length l.line ≡ length l.initial.line) × (length l.store ≡ length l.initial.store)
    × (hear l.left l.state (take l.left (bits_of l.line)) l.store l.last ≡ hear l.count l.initial.state (take l.count (bits_of l.initial.line)) l.initial.store l.initial.last)

abbrev pub decreases-loop-left : goal.decreases-loop-left
decreases-loop-left l = l.left
