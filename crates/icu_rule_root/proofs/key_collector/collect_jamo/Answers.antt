-- The places so far, and at the end all.
use Rattle.std.proofs.Common.{◌≡◌, ℕ, ◌≤◌, List, length, ap, arith, subst}
use Rattle.icu_table_data.specs.CollectedWeights.{Adds}
use Rattle.icu_table_provider.specs.well_formed.Checked.{checked_tables}
use Rattle.icu_rule_root.specs.inner.KeyCollections.{HoldsBelow, IsJamoKey}
use Rattle.icu_rule_root.proofs.KeyCollectionLemmas.{below_step}
use Rattle.icu_rule_root.proofs.key_collector.collect_jamo.Goals as goal

whole : (xs ys : List ℕ) (n : ℕ) → length xs ≡ length ys → length ys ≡ 256 → length xs ≤ n → n ≤ length xs → n ≡ 256
whole xs ys n same count end inside = omega (arith, same, count, end, inside)

pub loop-place-preserved : goal.loop-place-preserved
loop-place-preserved c =
    below_step (IsJamoKey (checked_tables c.args.tables.now).tables) c.loop-place.place _ _ _ c.loop-place.invariant c.in_ok-collect_one_jamo.ensures

pub returns : goal.returns
returns c =
    subst (λ n. Adds (HoldsBelow (IsJamoKey (checked_tables c.args.tables.now).tables) n) c.args.collector.now.keys.items c.loop-place.collector.keys.items)
    (whole _ _ _ (ap length c.ce32s-entry-items.ensures.value) c.ce32s-entry-items.ensures.jamo.count c.loop-place-test.false c.loop-place.auto.place-end)
    c.loop-place.invariant
