-- The state that the reset makes.
use Rattle.std.proofs.Common.{◌∙◌}
use Rattle.icu_rule_meaning.specs.Rules.{place_of_anchor}
use Rattle.icu_rule_meaning.specs.TailoredRoots.{Root}
use Rattle.icu_rule_steps.specs.SymbolicTailorings.{kept_mappings, root_in, state_in}
use Rattle.icu_rule_steps.proofs.StateLemmas.{reset_read}
use Rattle.icu_rule_steps.proofs.TouchedRuleLemmas.{touches_nothing}
use Rattle.icu_rule_steps.proofs.symbolic_tailoring.SymbolicTailoring.read_reset.Goals as goal

pub returns-clause-ok : goal.returns-clause-ok
returns-clause-ok g c =
    let mappings_of = g.R.RootMappings.mappings_of in
    let root : Root = root_in g.R.RootWeights.root mappings_of c.args.root.now in
    reset_read root c.args.said.now.before (place_of_anchor c.args.said.now.anchor) (state_in mappings_of c.args.self.now)
    (state_in mappings_of c.set_elements.new.self) (state_in mappings_of c.go_before.new.self) c.in_ok-elements.elements.items
    c.in_ok-elements.ensures.ok c.set_elements.ensures.state c.in_ok-go_before.ensures.ok c.in_ok-elements.ensures.sound
    c.in_ok-go_before.ensures.sound

pub returns-clause-touched : goal.returns-clause-touched
returns-clause-touched g c =
    touches_nothing (kept_mappings c.args.self.now) (kept_mappings c.go_before.new.self)
    (c.in_ok-go_before.ensures.kept ∙ c.set_elements.ensures.kept)
