-- The state that the relation makes.
use Rattle.std.proofs.Common.{◌∙◌}
use Rattle.icu_rule_meaning.specs.TailoredRoots.{Root}
use Rattle.icu_rule_steps.specs.SymbolicTailorings.{root_in, state_in}
use Rattle.icu_rule_steps.proofs.StateLemmas.{relation_read}
use Rattle.icu_rule_steps.proofs.symbolic_tailoring.SymbolicTailoring.relate.Goals as goal

pub returns-clause-ok : goal.returns-clause-ok
returns-clause-ok g c =
    let mappings_of = g.R.RootMappings.mappings_of in
    let root : Root = root_in g.R.RootWeights.root mappings_of c.args.root.now in
    relation_read root c.args.strength c.args.prefix.now c.args.string.now c.args.extension.now c.as_slice.result.now
    c.as_slice-2.result.now c.in_ok-extension.extension.items (state_in mappings_of c.args.self.now)
    (state_in mappings_of c.relate_decomposed.new.self) (c.as_slice.ensures.value ∙ c.in_ok-prefix.ensures)
    (c.as_slice-2.ensures.value ∙ c.in_ok-string.ensures) c.in_ok-extension.ensures c.in_ok-relate_decomposed.ensures.ok
    c.in_ok-relate_decomposed.ensures.sound
