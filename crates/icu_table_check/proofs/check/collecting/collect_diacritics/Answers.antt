use Rattle.std.proofs.Common.{◌≡◌, ℕ, ◌≤◌, List, length, ap, arith}
use Rattle.icu_table_provider.specs.TableSets.{tables_in}
use Rattle.icu_table_check.specs.inner.ComparedWeights.{IsDiacriticWeight}
use Rattle.icu_table_check.proofs.CollectLemmas.{below_step, loaded_diacritics}
use Rattle.icu_table_check.proofs.check.collecting.collect_diacritics.Goals as goal

whole : (xs ys : List ℕ) (n : ℕ) → length xs ≡ length ys → length xs ≤ n → n ≤ length xs → n ≡ length ys
whole xs ys n same end inside = omega (arith, same, end, inside)

pub loop-place-preserved : goal.loop-place-preserved
loop-place-preserved g c =
    below_step (IsDiacriticWeight c.args.list (tables_in c.args.tables)) _ _ _ c.loop-place.place c.loop-place.invariant c.in_ok-collect_diacritic.ensures

pub returns : goal.returns
returns g c =
    loaded_diacritics c.args.tables c.args.list c.loop-place.place
    (whole _ _ _ (ap length c.secondaries-secondary-items.ensures.value) c.loop-place-test.false c.loop-place.auto.place-end) _ _ c.loop-place.invariant
