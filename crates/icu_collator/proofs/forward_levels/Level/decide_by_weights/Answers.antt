-- Weights that differ decide.
use Rattle.std.proofs.Common.{sym, ◌∙◌}
use Rattle.icu_collator.proofs.InStepLemmas.{both_decide, differ}
use Rattle.icu_collator.proofs.forward_levels.Level.decide_by_weights.Goals as goal

pub returns-in-Some-Some : goal.returns-in-Some-Some
returns-in-Some-Some c =
    let w = c.in-Some-Some in
    both_decide c.args.self c.args.one c.args.other w.weight w.other_weight c.cmp.result
    (sym c.weight.ensures ∙ w.is-0) (sym c.weight-2.ensures ∙ w.is-1)
    c.cmp.ensures (differ w.weight w.other_weight c.cmp.result c.cmp.ensures c.if-weight-other_weight.true)
