use Rattle.std.proofs.Common.{take}
use Rattle.icu_rule_weights.specs.PrimaryGaps.{FillPrimaryGaps}
use Rattle.icu_rule_weights.proofs.primary_gaps.number_primaries.Given as goal

abbrev pub invariant-loop-place : goal.invariant-loop-place
invariant-loop-place l = FillPrimaryGaps (take l.place l.gaps) l.lists.items
