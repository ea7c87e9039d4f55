use Rattle.std.proofs.Common.{◌≡◌, ◌+◌, slice_index}
use Rattle.order_list.specs.Order.{place_of}
use Rattle.order_list.specs.Places.{items_along}
use Rattle.order_list.proofs.place.item_ahead.Given as goal

abbrev pub invariant-loop-step : goal.invariant-loop-step
invariant-loop-step l = l.item ≡ slice_index (items_along l.places) (place_of l.first (items_along l.places) + l._step)
