-- The law, by what the call ensures.
use Rattle.icu_rule_laws.proofs.related_texts.IdentityLemmas.{identities_are_ordered}
use Rattle.icu_rule_laws.proofs.related_texts.identities_order.Goals as goal

pub returns : goal.returns
returns c = identities_are_ordered c.args.root.now c.texts_are_read_by_rules.ensures
