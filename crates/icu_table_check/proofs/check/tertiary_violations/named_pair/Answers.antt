use Rattle.std.proofs.Common.{refl, subst}
use Rattle.icu_table_check.specs.declared.check.weights.WeightList.TheVariants.{TertiaryElements, WithSecondary}
use Rattle.icu_table_provider.specs.TableSets.{tables_in}
use Rattle.icu_table_check.specs.inner.PairViolations.{AreTooLow}
use Rattle.icu_table_check.proofs.WeightListLemmas.{more_listed}
use Rattle.icu_table_check.proofs.check.tertiary_violations.named_pair.Goals as goal

pub low_violation-requires : goal.low_violation-requires
low_violation-requires c =
    let all = tables_in c.args.tables in
    let alone = c.collect.new.weights.items in
    let beside = c.collect-in-loop-table.new.weights.items in
    let found = c.in-Some.found in
    let low : AreTooLow alone beside found =
    subst (λ ws. AreTooLow ws beside found) c.deref.ensures.value (subst (λ ws. AreTooLow c.deref.result.now ws found) c.deref-in-loop-table.ensures.value c.in-Some.ensures.some) in
    record {
      first = more_listed TertiaryElements TertiaryElements all _ _ alone refl c.loop-table.invariant.0 c.in_ok-collect.ensures found.alone low.first;
      second = more_listed WithSecondary WithSecondary all _ _ beside refl c.loop-table.invariant.1 c.in_ok-collect-2.ensures found.beside low.second;
      low = low.low;
    }

pub loop-table-preserved : goal.loop-table-preserved
loop-table-preserved c =
    let all = tables_in c.args.tables in (
      more_listed TertiaryElements TertiaryElements all _ _ c.collect.new.weights.items refl c.loop-table.invariant.0 c.in_ok-collect.ensures,
      more_listed WithSecondary WithSecondary all _ _ c.collect-in-loop-table.new.weights.items refl c.loop-table.invariant.1 c.in_ok-collect-2.ensures,
    )
