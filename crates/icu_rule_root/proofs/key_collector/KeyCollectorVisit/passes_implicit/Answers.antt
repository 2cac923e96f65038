-- An entry for an implicit weight states no element.
use Rattle.icu_rule_root.proofs.KeyCollectionLemmas.{implicit_adds_nothing}
use Rattle.icu_rule_root.proofs.key_collector.KeyCollectorVisit.passes_implicit.Goals as goal

pub returns : goal.returns
returns c passes home char e is = implicit_adds_nothing c.args.self.now.keys.items home char e is
