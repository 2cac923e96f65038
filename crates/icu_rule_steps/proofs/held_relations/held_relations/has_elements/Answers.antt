-- The elements are those that were read.
use Rattle.std.proofs.Common.{◌∙◌}
use Rattle.icu_rule_steps.proofs.held_relations.SameElements.{lists_decide}
use Rattle.icu_rule_steps.proofs.held_relations.held_relations.has_elements.Goals as goal

pub returns : goal.returns
returns g c =
    lists_decide c.as_slice.result.now c.args.elements.now _ c.eq.result c.eq.ensures (c.as_slice.ensures.value ∙ c.in_ok-found.ensures)
