use Rattle.std.proofs.Common.{◌≡◌, ◌<◌, ◌≤◌, ◌+◌, ◌/◌, ◌∷◌, ◌++◌, All, length}
use Rattle.icu_order_levels.specs.Numbers.{pair_bytes}
use Rattle.icu_element_matches.specs.numbers.inner.Pairs.{in_twos}
use Rattle.icu_element_matches.specs.steady_numbers.inner.Rooms.{room_bytes}
use Rattle.icu_element_matches.proofs.steady_numbers.spelled_number.push_pairs.Given as goal

-- what was appended, and then the bytes of the pairs that are left, are the bytes of all pairs
abbrev pub invariant-loop-left : goal.invariant-loop-left
invariant-loop-left l = record {
  decimal : All (λ d. d < 10) l.left;
  pair : l.pair < 100;
  fits : length (room_bytes l.room) + 1 + length l.left / 2 ≤ 128;
  bytes : room_bytes l.room ++ pair_bytes (l.pair ∷ in_twos l.left) ≡ room_bytes l.fn.room ++ pair_bytes (l.fn.first ∷ in_twos l.digits);
}

abbrev pub decreases-loop-left : goal.decreases-loop-left
decreases-loop-left l = length l.left
