use Rattle.std.proofs.Common.{◌≤◌, length, reverse}
use Rattle.icu_order_levels.specs.Secondaries.{secondary_level}
use Rattle.icu_key_writers.specs.WriterRests.{secondary_rest}
use Rattle.icu_key_writers.proofs.Writing.{Owes}
use Rattle.icu_key_writers.proofs.backward.write_segment.Given as goal

-- what the weights that are left give is still owed
abbrev pub invariant-loop-left : goal.invariant-loop-left
invariant-loop-left g l = record {
  sound : g.S.CollationKeySink.is_sound l.sink l.state;
  within : length l.left ≤ length l.weights;
  owes : Owes g.S.CollationKeySink.effects l.fn.sink l.fn.state (secondary_level (reverse l.weights)) (secondary_rest l.writer (reverse l.left)) l.sink l.state;
}

abbrev pub decreases-loop-left : goal.decreases-loop-left
decreases-loop-left g l = length l.left
