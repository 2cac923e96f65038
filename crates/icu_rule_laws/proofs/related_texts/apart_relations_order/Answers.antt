-- The law, by what the calls ensure.
use Rattle.icu_rule_laws.proofs.related_texts.RelationApartLemmas.{apart_relations_are_ordered}
use Rattle.icu_rule_laws.proofs.related_texts.apart_relations_order.Goals as goal

pub returns : goal.returns
returns c = apart_relations_are_ordered c.numbered_elements_keep_order.ensures c.args.root.now c.texts_are_read_by_rules.ensures
