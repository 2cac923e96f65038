-- The state before a weight.
use Rattle.std.proofs.Common.{ap, ◌∙◌}
use Rattle.icu_rule_meaning.specs.Steps.{last_element}
use Rattle.icu_rule_meaning.specs.weight_tree.TreeBuilders.{tree_of, made_of, weight_in_front}
use Rattle.icu_rule_meaning.specs.weight_tree.RuleStates.{state_with}
use Rattle.icu_rule_meaning.proofs.weight_tree.RuleStateLemmas.{other_is, before_is}
use Rattle.icu_rule_meaning.proofs.weight_tree.rule_elements.RuleElements.go_before_at.Goals as goal

pub returns : goal.returns
returns g c = λ mappings settings.
    let last = c.last_or_ignorable-last.result in
    let other = c.make_element-other.result in
    let root = g.R.RootWeights.root c.args.root.now in
    before_is root c.args.level (state_with mappings settings c.args.self.now) (tree_of c.put_before.new.self)
    c.set_last.new.elements.items c.keep_counting.new.elements.items (made_of c.put_before.new.self) last other
    c.keep_counting.ensures (c.last_or_ignorable-last.ensures ∙ ap last_element c.as_slice.ensures.value) c.in_ok-found.ensures.tree
    (other_is other last c.args.level c.from-count.result c.min.result c.in_ok-found.found
    (weight_in_front root (tree_of c.args.self.now.tree) c.args.level last.weights)
    c.from-count.ensures c.min.ensures c.in_ok-found.ensures.found c.make_element-other.ensures)
    c.in_ok-set_last.ensures c.put_before.ensures.made
