use Rattle.std.proofs.Common.{ℕ, false, ◌+◌, ◌∷◌, [], ◌++◌, List, None, get_or, take, sym, subst}
use Rattle.std.proofs.lemmas.List.{take_more}
use Rattle.icu_rule_weights.specs.declared.level_gap.LevelGap.{LevelGap}
use Rattle.icu_rule_weights.specs.declared.sibling_run.SiblingRun.{SiblingRun}
use Rattle.icu_rule_weights.specs.inner.RunGaps.{AreGapsOfRuns}
use Rattle.icu_rule_weights.proofs.NumberedRunLemmas.{gaps_more}
use Rattle.icu_rule_weights.proofs.run_gaps.gaps_of_runs.Goals as goal

pub loop-run-preserved : goal.loop-run-preserved
loop-run-preserved c =
    let level = c.args.level in
    let runs : List SiblingRun = c.args.runs.now in
    let i : ℕ = c.loop-run.run-index in
    let none : SiblingRun = record { alone = false; rooted = 0; next = None; tailored = record { ref_ptr = (0, 0); now = [] } } in
    let gaps : List LevelGap = c.loop-run.gaps.items in
    let gap : LevelGap = c.gap_of_run.result in
    let more = gaps_more level (take i runs) gaps (get_or runs i none) gap c.loop-run.invariant c.gap_of_run.ensures in
    subst (AreGapsOfRuns level (take (i + 1) runs)) (sym c.in_ok-push.ensures.items)
    (subst (λ (rs : List SiblingRun). AreGapsOfRuns level rs (gaps ++ gap ∷ [])) (sym (take_more runs i none c.loop-run-test.true)) more)
