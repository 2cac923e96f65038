-- The state without the contexts.
use Rattle.std.proofs.Common.{refl}
use Rattle.icu_rule_steps.specs.symbolic_mappings.KeptMappings.{mappings_in}
use Rattle.icu_rule_steps.specs.SymbolicTailorings.{state_in}
use Rattle.icu_rule_steps.proofs.StateLemmas.{suppressed_is}
use Rattle.icu_rule_steps.proofs.symbolic_tailoring.SymbolicTailoring.suppress.Goals as goal

pub returns-clause-state : goal.returns-clause-state
returns-clause-state g c =
    let mappings_of = g.R.RootMappings.mappings_of in
    let state = state_in mappings_of c.args.self.now in
    suppressed_is c.args.ranges.now state (mappings_in mappings_of c.suppression_step.new.self)
    (c.in_ok-suppression_step.ensures.mappings state refl)
