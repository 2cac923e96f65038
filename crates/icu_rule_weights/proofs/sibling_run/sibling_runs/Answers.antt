use Rattle.std.proofs.Common.{List, sym, subst}
use Rattle.icu_rule_meaning.specs.declared.symbolic.SymbolicWeight.{SymbolicWeight}
use Rattle.icu_rule_weights.specs.declared.sibling_run.SiblingRun.{SiblingRun}
use Rattle.icu_rule_weights.proofs.SiblingRunLemmas.{IsSplit, split_more}
use Rattle.icu_rule_weights.proofs.sibling_run.sibling_runs.Goals as goal

pub splitting-preserved : goal.splitting-preserved
splitting-preserved c = λ first.
    let siblings : List SymbolicWeight = c.args.siblings.now in
    let runs : List SiblingRun = c.splitting.runs.items in
    subst (λ (rs : List SiblingRun). IsSplit c.args.alone siblings rs c.in-Some.others.now) (sym c.in_ok-push.ensures.items)
    (split_more c.args.alone siblings c.splitting.rest.now c.in-Some.others.now runs c.in-Some.run' (c.splitting.invariant first) c.in-Some.ensures)
