-- The elements with their case.
use Rattle.std.proofs.Common.{◌∙◌, refl}
use Rattle.icu_rule_steps.specs.symbolic_mappings.KeptMappings.{mappings_in}
use Rattle.icu_rule_steps.specs.SymbolicTailorings.{root_in, state_in}
use Rattle.icu_rule_meaning.specs.TailoredRoots.{Root}
use Rattle.icu_rule_steps.proofs.StateLemmas.{case_is}
use Rattle.icu_rule_steps.proofs.symbolic_tailoring.SymbolicTailoring.take_case.Goals as goal

pub returns-clause-state : goal.returns-clause-state
returns-clause-state g c =
    let mappings_of = g.R.RootMappings.mappings_of in
    let root : Root = root_in g.R.RootWeights.root mappings_of c.args.root.now in
    c.set_elements.ensures.state
    ∙ case_is root (state_in mappings_of c.args.self.now) c.args.string.now c.in_ok-string.string.items
    (mappings_in mappings_of c.new-in_root.result) c.elements.result.now c.as_slice.result.now c.in_ok-cased.cased.items
    (c.new-in_root.ensures.mappings root refl) c.in_ok-string.ensures.items (c.as_slice.ensures.value ∙ c.in_ok-of_string.ensures)
    c.elements.ensures c.in_ok-cased.ensures
