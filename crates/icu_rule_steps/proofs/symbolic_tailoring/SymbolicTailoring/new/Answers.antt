-- Nothing but the root.
use Rattle.std.proofs.Common.{List, Bor, map, reverse, ap, ◌∙◌, refl}
use Rattle.icu_rule_parser.specs.declared.statement.RuleSetting.{RuleSetting}
use Rattle.icu_rule_meaning.specs.TailoredMappings.{root_mappings}
use Rattle.icu_rule_meaning.specs.TailoredRoots.{Root}
use Rattle.icu_rule_meaning.specs.weight_tree.RuleStates.{state_with}
use Rattle.icu_rule_steps.specs.SymbolicTailorings.{root_in}
use Rattle.icu_rule_steps.proofs.symbolic_tailoring.SymbolicTailoring.new.Goals as goal

pub returns-clause-state : goal.returns-clause-state
returns-clause-state g c =
    let root : Root = root_in g.R.RootWeights.root g.R.RootMappings.mappings_of c.args.root.now in
    ap (λ ms. state_with ms (reverse (map (λ (s : Bor RuleSetting). s.now) c.new-3.result.items)) c.new.result) (c.new-2.ensures.mappings root refl)
    ∙ ap (λ (ss : List (Bor RuleSetting)). state_with (root_mappings root) (reverse (map (λ (s : Bor RuleSetting). s.now) ss)) c.new.result) c.new-3.ensures.items
    ∙ c.new.ensures root

pub returns-clause-touched : goal.returns-clause-touched
returns-clause-touched g c = c.new-2.ensures.touched
