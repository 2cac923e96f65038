use Rattle.std.proofs.Common.{◌≡◌, drop}
use Rattle.icu_rule_meaning.specs.Rules.{have_character}
use Rattle.icu_rule_steps.proofs.symbolic_mappings.kept_mappings.have_character.Given as goal

abbrev pub invariant-loop-range : goal.invariant-loop-range
invariant-loop-range l = have_character (drop l.range-index l.ranges) l.c ≡ have_character l.ranges l.c
