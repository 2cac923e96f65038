-- The law, by those that it calls.
use Rattle.icu_rule_laws.proofs.related_texts.RelationOrderLemmas.{relations_are_ordered}
use Rattle.icu_rule_laws.proofs.related_texts.relations_order.Goals as goal

pub returns : goal.returns
returns c =
    relations_are_ordered c.relations_hold.ensures.elements c.relations_hold.ensures.extended c.numbered_elements_keep_order.ensures
    c.args.root.now c.texts_are_read_by_rules.ensures
