use Rattle.std.proofs.Common.{ℕ, false, ◌+◌, ◌∷◌, [], ◌++◌, List, None, get_or, take, sym, subst}
use Rattle.std.proofs.lemmas.List.{take_more}
use Rattle.icu_table_provider.specs.SpecialPrimaries.{SpecialPrimaries}
use Rattle.icu_table_provider.specs.StoredTables.{special_of}
use Rattle.icu_rule_weights.specs.declared.primary_gaps.PrimaryGap.{PrimaryGap}
use Rattle.icu_rule_weights.specs.declared.sibling_run.SiblingRun.{SiblingRun}
use Rattle.icu_rule_weights.specs.PrimaryRuns.{ArePrimaryGapsOf}
use Rattle.icu_rule_weights.proofs.PrimaryGapLemmas.{primary_gaps_more}
use Rattle.icu_rule_weights.proofs.primary_runs.primary_gaps_of_runs.Goals as goal

pub loop-run-preserved : goal.loop-run-preserved
loop-run-preserved c =
    let special : SpecialPrimaries = special_of c.args.special in
    let limit : ℕ = c.args.limit in
    let runs : List SiblingRun = c.args.runs.now in
    let i : ℕ = c.loop-run.run-index in
    let none : SiblingRun = record { alone = false; rooted = 0; next = None; tailored = record { ref_ptr = (0, 0); now = [] } } in
    let gaps : List PrimaryGap = c.loop-run.gaps.items in
    let gap : PrimaryGap = c.primary_gap_of.result in
    let more = primary_gaps_more special limit (take i runs) gaps (get_or runs i none) gap c.loop-run.invariant c.primary_gap_of.ensures in
    subst (ArePrimaryGapsOf special limit (take (i + 1) runs)) (sym c.in_ok-push.ensures.items)
    (subst (λ (rs : List SiblingRun). ArePrimaryGapsOf special limit rs (gaps ++ gap ∷ [])) (sym (take_more runs i none c.loop-run-test.true)) more)
