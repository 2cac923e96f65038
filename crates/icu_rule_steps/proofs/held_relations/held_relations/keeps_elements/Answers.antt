-- Where no statement is refused, none of the first ones is.
use Rattle.icu_rule_meaning.specs.Steps.{first_state}
use Rattle.icu_rule_meaning.specs.TailoredRoots.{Root}
use Rattle.icu_rule_steps.specs.SymbolicTailorings.{root_in}
use Rattle.icu_rule_steps.proofs.held_relations.PrefixErrors.{first_unrefused, of_memory}
use Rattle.icu_rule_steps.proofs.held_relations.held_relations.keeps_elements.Goals as goal

pub returns-in-Err-clause-err : goal.returns-in-Err-clause-err
returns-in-Err-clause-err g c =
    let root : Root = root_in g.R.RootWeights.root g.R.RootMappings.mappings_of c.args.root.now in
    of_memory _ c.in-Err.error (first_unrefused root (first_state root) c.args.statements.now c.args.count c.requires.read) c.in-Err.ensures.err
