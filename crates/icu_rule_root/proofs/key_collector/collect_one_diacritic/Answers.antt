-- The key of a diacritic is added.
use Rattle.std.proofs.Common.{sym, ap, ◌∙◌, subst}
use Rattle.icu_table_data.proofs.WalkLemmas.{on_ok}
use Rattle.icu_table_entries.specs.Elements.{of_secondary}
use Rattle.icu_table_data.specs.CollectedWeights.{Adds}
use Rattle.icu_rule_root.specs.inner.KeyCollections.{IsDiacriticKey}
use Rattle.icu_rule_root.proofs.KeyCollectionLemmas.{diacritic_added}
use Rattle.icu_rule_root.proofs.key_collector.collect_one_diacritic.Goals as goal

pub returns : goal.returns
returns c =
    on_ok _ _
    (λ is. subst (Adds (IsDiacriticKey c.args.secondaries.now c.args.place) c.args.collector.now.keys.items) (sym is)
    (diacritic_added c.args.secondaries.now c.args.place c.args.collector.now.keys.items c.new_from_secondary-element.result (sym c.is_replaced_index.ensures ∙ c.if-is_replaced_index.false)
    (c.new_from_secondary-element.ensures ∙ ap of_secondary c.requires)))
    c.visit.result c.visit.ensures
