use Rattle.std.proofs.Common.{◌≡◌, ◌+◌, take, length}
use Rattle.std.specs.List.{flat_map}
use Rattle.icu_rule_meaning.specs.Rules.{characters_of}
use Rattle.icu_rule_steps.proofs.relation_counts.room_after_starred.Given as goal

abbrev pub invariant-loop-range : goal.invariant-loop-range
invariant-loop-range l = l.left + length (flat_map characters_of (take l.range-index l.range-items)) ≡ l.room
