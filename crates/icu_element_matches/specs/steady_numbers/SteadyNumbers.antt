-- A number whose weights are given one by one.
use Rattle.std.specs.Prelude.{ℕ, List, drop}
use Rattle.icu_order_levels.specs.Numbers.{in_threes}
use Rattle.icu_element_matches.specs.declared.steady_numbers.steady_number.SteadyNumber.{SteadyNumber}
use Rattle.icu_element_matches.specs.steady_numbers.inner.Rooms.{room_bytes}

-- the weights that are still to be given
unfoldable pub weights_left : SteadyNumber → List ℕ
weights_left n = in_threes n.lead (drop n.next (room_bytes n.room))
