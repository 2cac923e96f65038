-- The state with these elements.
use Rattle.icu_rule_steps.specs.symbolic_mappings.KeptMappings.{mappings_in}
use Rattle.icu_rule_steps.specs.SymbolicTailorings.{settings_in}
use Rattle.icu_rule_steps.proofs.symbolic_tailoring.SymbolicTailoring.set_elements.Goals as goal

pub returns-clause-state : goal.returns-clause-state
returns-clause-state g c =
    c.set_elements.ensures (mappings_in g.R.RootMappings.mappings_of c.args.self.now.mappings) (settings_in c.args.self.now)
