-- The state after a difference.
use Rattle.std.proofs.Common.{ap, ◌∙◌}
use Rattle.icu_rule_meaning.specs.declared.symbolic.SymbolicWeight.TheVariants.{Tailored}
use Rattle.icu_rule_meaning.specs.Steps.{last_element}
use Rattle.icu_rule_meaning.specs.weight_tree.TreeBuilders.{tree_of, made_of}
use Rattle.icu_rule_meaning.specs.weight_tree.RuleStates.{state_with}
use Rattle.icu_rule_meaning.proofs.weight_tree.RuleStateLemmas.{other_is, difference_is}
use Rattle.icu_rule_meaning.proofs.weight_tree.rule_elements.RuleElements.differ_at.Goals as goal

pub returns : goal.returns
returns c = λ mappings settings.
    let last = c.last_or_ignorable-last.result in
    let other = c.make_element-other.result in
    difference_is c.args.level (state_with mappings settings c.args.self.now) (tree_of c.put_new_weight.new.self)
    c.set_last.new.elements.items c.keep_counting.new.elements.items (made_of c.put_new_weight.new.self) last other
    c.keep_counting.ensures (c.last_or_ignorable-last.ensures ∙ ap last_element c.as_slice.ensures.value) c.in_ok-new.ensures.tree
    (other_is other last c.args.level c.from-count.result c.min.result c.in_ok-new.new (Tailored (made_of c.args.self.now.tree))
    c.from-count.ensures c.min.ensures c.in_ok-new.ensures.new c.make_element-other.ensures)
    c.in_ok-set_last.ensures c.in_ok-new.ensures.made
