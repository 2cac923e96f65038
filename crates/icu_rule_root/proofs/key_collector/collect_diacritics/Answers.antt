-- The places so far, and at the end all.
use Rattle.std.proofs.Common.{◌≡◌, ◌≤◌, ℕ, arith, subst}
use Rattle.icu_table_data.specs.CollectedWeights.{Adds}
use Rattle.icu_rule_root.specs.inner.KeyCollections.{HoldsBelow, IsDiacriticKey}
use Rattle.icu_rule_root.proofs.KeyCollectionLemmas.{below_step}
use Rattle.icu_rule_root.proofs.key_collector.collect_diacritics.Goals as goal

whole : (n m : ℕ) → m ≤ n → n ≤ m → n ≡ m
whole n m end inside = omega (arith, end, inside)

pub loop-place-preserved : goal.loop-place-preserved
loop-place-preserved c =
    below_step (IsDiacriticKey c.args.secondaries.now) c.loop-place.place _ _ _ c.loop-place.invariant c.in_ok-collect_one_diacritic.ensures

pub returns : goal.returns
returns c =
    subst (λ n. Adds (HoldsBelow (IsDiacriticKey c.args.secondaries.now) n) c.args.collector.now.keys.items c.loop-place.collector.keys.items)
    (whole _ _ c.loop-place-test.false c.loop-place.auto.place-end) c.loop-place.invariant
