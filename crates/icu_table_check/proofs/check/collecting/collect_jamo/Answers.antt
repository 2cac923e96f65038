use Rattle.std.proofs.Common.{◌≡◌, ℕ, ◌≤◌, List, length, ap, arith}
use Rattle.icu_table_provider.specs.TableSets.{tables_in}
use Rattle.icu_table_check.specs.inner.ComparedWeights.{IsJamoWeight}
use Rattle.icu_table_check.proofs.CollectLemmas.{below_step, loaded_jamo}
use Rattle.icu_table_check.proofs.check.collecting.collect_jamo.Goals as goal

whole : (xs ys : List ℕ) (n : ℕ) → length xs ≡ length ys → length ys ≡ 256 → length xs ≤ n → n ≤ length xs → n ≡ 256
whole xs ys n same count end inside = omega (arith, same, count, end, inside)

pub loop-place-preserved : goal.loop-place-preserved
loop-place-preserved g c =
    below_step (IsJamoWeight c.args.list (tables_in c.args.tables)) _ _ _ c.loop-place.place c.loop-place.invariant c.in_ok-collect_of_jamo.ensures

pub returns : goal.returns
returns g c =
    loaded_jamo c.args.tables c.args.list c.loop-place.place
    (whole _ _ _ (ap length c.ce32s-entry-items.ensures.value) c.ce32s-entry-items.ensures.jamo.count c.loop-place-test.false c.loop-place.auto.place-end) _ _ c.loop-place.invariant
