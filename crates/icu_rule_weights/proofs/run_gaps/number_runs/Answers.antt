use Rattle.std.proofs.Common.{ℕ, ◌≡◌, ◌<◌, List, length, Result, Ok, Err, IfOk, subst, sym}
use Rattle.icu_rule_weights.specs.declared.gap_level.GapLevel.{GapLevel}
use Rattle.icu_rule_weights.specs.declared.gap_numbers.GapNumbers.{GapNumbers}
use Rattle.icu_rule_weights.specs.declared.gap_numbers.GapNumbers.TheVariants.{Filled, NoRoom}
use Rattle.icu_rule_weights.specs.declared.level_gap.LevelGap.{LevelGap}
use Rattle.icu_rule_weights.specs.declared.sibling_run.SiblingRun.{SiblingRun}
use Rattle.icu_rule_weights.specs.GapOutcomes.{IfFilled, IfNoRoom}
use Rattle.icu_rule_weights.specs.LevelGaps.{greatest_second, FillEach}
use Rattle.icu_rule_weights.specs.NumberedRuns.{FillRuns}
use Rattle.icu_rule_weights.specs.inner.RunGaps.{AreGapsOfRuns}
use Rattle.icu_rule_weights.proofs.NumberedRunLemmas.{fill_runs, gaps_as_many}
use Rattle.icu_rule_weights.proofs.run_gaps.number_runs.Goals as goal

fills_of : {E : Type 0} (level : GapLevel) (runs : List SiblingRun) (gaps : List LevelGap) (r : Result GapNumbers E) → AreGapsOfRuns level runs gaps
    → IfOk r (λ found. IfFilled found (FillEach (greatest_second level) gaps)) → IfOk r (λ found. IfFilled found (FillRuns level runs))
fills_of level runs gaps (Ok (Filled lists)) are each = fill_runs level runs gaps lists.items are each
fills_of level runs gaps (Ok (NoRoom k)) are each = tt
fills_of level runs gaps (Err e) are each = tt

place_of : {E : Type 0} (n m : ℕ) (r : Result GapNumbers E) → n ≡ m → IfOk r (λ found. IfNoRoom found (λ k. k < n))
    → IfOk r (λ found. IfNoRoom found (λ k. k < m))
place_of n m r e h = subst (λ i. IfOk r (λ found. IfNoRoom found (λ k. k < i))) e h

pub returns-clause-fills : goal.returns-clause-fills
returns-clause-fills c =
    fills_of c.args.level c.args.runs.now c.as_slice.result.now c.number_level.result
    (subst (AreGapsOfRuns c.args.level c.args.runs.now) (sym c.as_slice.ensures.value) c.in_ok-gaps.ensures) c.number_level.ensures.fills

pub returns-clause-place : goal.returns-clause-place
returns-clause-place c =
    let are = subst (AreGapsOfRuns c.args.level c.args.runs.now) (sym c.as_slice.ensures.value) c.in_ok-gaps.ensures in
    place_of (length c.as_slice.result.now) (length c.args.runs.now) c.number_level.result
    (gaps_as_many c.args.level c.args.runs.now c.as_slice.result.now are) c.number_level.ensures.place
