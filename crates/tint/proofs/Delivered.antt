-- What was sent and reported as ended is read as the same doses: from line's statement on whole orders alone. Assumes nothing.
use mathlib.Core.Path.{◌≡◌, ap, ◌∙◌, subst}
use mathlib.Core.List.{List}
use Prim.Native.Nat.{ℕ, ◌/◌}
use native.Mathlib.Omega.{arith}
use lib.ListN.{take}
use Rattle.line.specs.Course.{opened, final}
use Rattle.line.specs.WholeOrder.{WholeOrder}
use Rattle.line.proofs.Delivery.WholeOrder.{whole_order}
use Rattle.tint.specs.Calls.{Read}
use Rattle.tint.specs.Delivered.{TintDelivery}
use Rattle.tint.proofs.RoundTrip.{round_trip}

pub tint_delivery_from : WholeOrder → TintDelivery
unfolding WholeOrder TintDelivery
tint_delivery_from whole doses slice slice' n w order b same k speed loop_ms L sender_size receiver_size s o initial_store e c h calls a end r g =
    let store : List ℕ = (final (opened s o.state initial_store) calls).store in
    let stored = whole k speed loop_ms L sender_size receiver_size order s o initial_store h calls a end in
    let m : L / 8 ≡ n = omega arith in
    let t : take (L / 8) store ≡ take n slice' = ap (λ (i : ℕ). take i store) m ∙ stored.bytes n e b c ∙ same in
    round_trip.reads_written doses slice slice' n r w (subst (λ (l : List ℕ). Read l r) t g)

pub tint_delivery : TintDelivery
tint_delivery = tint_delivery_from whole_order
