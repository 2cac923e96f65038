use Rattle.std.proofs.Common.{arith}
use Rattle.icu_rule_steps.proofs.CharacterCountLemmas.{characters_counted}
use Rattle.icu_rule_steps.proofs.relation_counts.character_count.Goals as goal

pub returns : goal.returns
returns c = omega (arith, characters_counted c.args.range)
