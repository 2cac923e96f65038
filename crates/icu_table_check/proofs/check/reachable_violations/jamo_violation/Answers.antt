use Rattle.std.proofs.Common.{◌≡◌, ℕ, ◌<◌, ◌≤◌, List, length, IfSome, sym, ap, subst, arith}
use Rattle.icu_table_data.proofs.ViolationLemmas.{earlier-keeps}
use Rattle.icu_table_provider.specs.TableSets.{tables_in}
use Rattle.icu_table_check.specs.inner.Violations.{violation_rank, IsTrueViolation}
use Rattle.icu_table_check.specs.inner.EntryViolations.{JamoPasses}
use Rattle.icu_table_check.proofs.LoadedViolationLemmas.{none_step, loaded_places}
use Rattle.icu_table_check.proofs.check.reachable_violations.jamo_violation.Goals as goal

reached : (xs ys : List ℕ) (i n : ℕ) → length xs ≡ length ys → length ys ≡ 256 → length xs ≤ n → i < 256 → i < n
reached xs ys i n same count end inside = omega (arith, same, count, end, inside)

pub loop-place-preserved : goal.loop-place-preserved
loop-place-preserved c = (
  none_step (JamoPasses (tables_in c.args.tables)) _ _ _ c.loop-place.place c.earlier-first.ensures c.loop-place.invariant.0 c.violation_of_jamo.ensures.none,
  subst (λ o. IfSome o (IsTrueViolation (tables_in c.args.tables))) (sym c.earlier-first.ensures)
      (earlier-keeps violation_rank (IsTrueViolation (tables_in c.args.tables)) _ _ c.loop-place.invariant.1 c.violation_of_jamo.ensures.some),
)

pub returns-clause-none : goal.returns-clause-none
returns-clause-none c = λ h. loaded_places c.args.tables (λ i inside. c.loop-place.invariant.0 h i (reached _ _ i _ (ap length c.ce32s-entry-items.ensures.value) c.ce32s-entry-items.ensures.jamo.count c.loop-place-test.false inside))
