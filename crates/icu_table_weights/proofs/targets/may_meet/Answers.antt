use Rattle.std.proofs.Common.{arith}
use Rattle.icu_table_weights.specs.WeightSets.{weights_of_set}
use Rattle.icu_table_weights.proofs.WeightSetLemmas.{in_fits}
use Rattle.icu_table_weights.proofs.TargetLemmas.{clear_of_four, clear_of_two, clear_of_one}
use Rattle.icu_table_weights.proofs.targets.may_meet.Goals as goal

pub returns-then-written-ne0 : goal.returns-then-written-ne0
returns-then-written-ne0 c = λ h. clear_of_four (weights_of_set c.args.targets.now) c.args.written (in_fits c.args.targets.now) (omega arith) (omega arith) (λ has three. c.has_three.ensures h three has)

pub returns-then-written-ne0-2 : goal.returns-then-written-ne0-2
returns-then-written-ne0-2 c = λ h. clear_of_two (weights_of_set c.args.targets.now) c.args.written (in_fits c.args.targets.now) (omega arith) c.requires (omega arith) (omega arith) (λ q has three at. c.has_block.ensures h q has three (omega (arith, at)))

pub returns-then-written-ne0-3 : goal.returns-then-written-ne0-3
returns-then-written-ne0-3 c = λ h. clear_of_one (weights_of_set c.args.targets.now) c.args.written (in_fits c.args.targets.now) (omega arith) c.requires (omega arith) (omega arith) (omega arith) (λ q has three at. c.has_lead.ensures h q (record { has = has; three = three; of_lead = omega (arith, at) }))
