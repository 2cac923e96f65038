-- The keys of an entry's elements come one after another.
use Rattle.std.proofs.Common.{◌∙◌, sym}
use Rattle.icu_table_data.proofs.WalkLemmas.{on_ok}
use Rattle.icu_table_data.specs.StoredData.{data_of}
use Rattle.icu_rule_root.proofs.KeyCollectionLemmas.{keys_stated}
use Rattle.icu_rule_root.proofs.key_collector.KeyCollectorVisit.visit.Goals as goal

pub returns-then-is_stated : goal.returns-then-is_stated
returns-then-is_stated c =
    on_ok _ _ (λ seen. seen ∙ keys_stated c.args.self.now.keys.items (data_of c.args.home) c.args.c c.args.entry (sym c.is_stated.ensures.value ∙ c.if-is_stated.true)) c.visit_elements.result c.visit_elements.ensures
