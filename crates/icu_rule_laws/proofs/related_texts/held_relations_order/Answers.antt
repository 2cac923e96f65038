-- The law, by those that it calls.
use Rattle.icu_rule_laws.proofs.related_texts.HeldOrderLemmas.{held_are_ordered}
use Rattle.icu_rule_laws.proofs.related_texts.held_relations_order.Goals as goal

pub returns : goal.returns
returns c = held_are_ordered c.args.root.now c.relations_order.ensures c.identities_order.ensures
