-- The state before the elements.
use Rattle.std.proofs.Common.{ap, sym, ◌∙◌}
use Rattle.icu_rule_steps.specs.symbolic_mappings.KeptMappings.{mappings_in}
use Rattle.icu_rule_meaning.specs.Steps.{before_level}
use Rattle.icu_rule_steps.specs.ReadRules.{maybe_before}
use Rattle.icu_rule_steps.specs.RuleFaults.{before_fault, maybe_before_fault}
use Rattle.icu_rule_steps.specs.SymbolicTailorings.{root_in, settings_in, state_in}
use Rattle.icu_rule_steps.proofs.StateLemmas.{before_same}
use Rattle.icu_rule_steps.proofs.symbolic_tailoring.SymbolicTailoring.go_before.Goals as goal

pub returns-clause-ok : goal.returns-clause-ok
returns-clause-ok g c =
    let mappings_of = g.R.RootMappings.mappings_of in
    let held = c.args.self.now in
    let state = state_in mappings_of held in
    c.in_ok-go_before_by.ensures (mappings_in mappings_of held.mappings) (settings_in held)
    ∙ sym (before_same (g.R.RootWeights.root c.args.root.now) (mappings_of c.args.root.now) (before_level c.in-Some.strength) state)
    ∙ sym (ap (λ b. maybe_before (root_in g.R.RootWeights.root mappings_of c.args.root.now) b state) c.in-Some.is)

pub returns-in-Some-before_fault-clause-err : goal.returns-in-Some-before_fault-clause-err
returns-in-Some-before_fault-clause-err g c =
    let root = root_in g.R.RootWeights.root g.R.RootMappings.mappings_of c.args.root.now in
    ap (λ b. maybe_before_fault root b c.args.self.now.rule.elements.items) c.in-Some.is
    ∙ ap (before_fault root (before_level c.in-Some.strength)) (sym c.elements.ensures)
    ∙ sym c.before_fault.ensures ∙ c.in-Some-before_fault.is
