-- The law, by those that it calls.
use Rattle.icu_rule_laws.proofs.related_texts.SwedishLemmas.{swedish_letters}
use Rattle.icu_rule_laws.proofs.related_texts.swedish_letters_order.Goals as goal

pub returns : goal.returns
returns c =
    swedish_letters c.args.root.now c.relations_order.ensures c.rules_keep_scripts.ensures c.untouched_texts_keep_elements.ensures
