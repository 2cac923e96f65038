-- The keys of three tables.
use Rattle.std.proofs.Common.{◌≡◌, List, ℕ, length, rules, subst}
use Rattle.icu_table_data.specs.CollectedWeights.{Adds}
use Rattle.icu_table_provider.specs.well_formed.Checked.{checked_tables}
use Rattle.icu_rule_root.specs.RootElements.{IsStatedInRoot}
use Rattle.icu_rule_root.specs.inner.KeyCollections.{HoldsBelow, IsDiacriticKey, IsKeyOf}
use Rattle.icu_rule_root.proofs.KeyCollectionLemmas.{keys_of_root}
use Rattle.icu_rule_root.proofs.key_collector.all_keys.Goals as goal

pub returns : goal.returns
returns c =
    let tables = (checked_tables c.args.tables.now).tables in
    let same : c.secondaries.result.now ≡ tables.diacritics = search rules in
    keys_of_root tables c.collect_root.new.collector.keys.items c.collect_jamo.new.collector.keys.items c.collect_diacritics.new.collector.keys.items
    (subst (λ (xs : List ℕ). Adds (IsKeyOf (IsStatedInRoot tables)) xs c.collect_root.new.collector.keys.items) c.new.ensures.items c.in_ok-collect_root.ensures)
    c.in_ok-collect_jamo.ensures
    (subst (λ (ss : List ℕ). Adds (HoldsBelow (IsDiacriticKey ss) (length ss)) c.collect_jamo.new.collector.keys.items c.collect_diacritics.new.collector.keys.items) same c.in_ok-collect_diacritics.ensures)
