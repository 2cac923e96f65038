-- The law, by what the calls ensure.
use Rattle.icu_rule_laws.proofs.related_texts.RelationApartLemmas.{before_is_ordered}
use Rattle.icu_rule_laws.proofs.related_texts.before_relations_order.Goals as goal

pub returns : goal.returns
returns c = before_is_ordered c.numbered_elements_keep_order.ensures c.args.root.now c.texts_are_read_by_rules.ensures
