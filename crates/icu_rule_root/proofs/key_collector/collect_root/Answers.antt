-- Each entry that is reachable was visited.
use Rattle.std.proofs.Common.{false, subst}
use Rattle.icu_table_data.proofs.WalkLemmas.{on_ok}
use Rattle.icu_table_data.specs.Data.{Data}
use Rattle.icu_table_data.specs.Walks.{Walked}
use Rattle.icu_table_provider.specs.well_formed.Checked.{checked_tables}
use Rattle.icu_rule_root.specs.inner.KeyCollections.{with_keys}
use Rattle.icu_rule_root.proofs.KeyCollectionLemmas.{walk_adds}
use Rattle.icu_rule_root.proofs.key_collector.collect_root.Goals as goal

pub returns : goal.returns
returns c =
    let old = c.args.collector.now.keys.items in
    let new = c.visit_chars.new.visitor.keys.items in
    on_ok _ _ (λ walked. walk_adds (checked_tables c.args.tables.now).tables old new (subst (λ (home : Data). Walked with_keys false home old new) c.root.ensures walked))
    c.visit_chars.result c.visit_chars.ensures
