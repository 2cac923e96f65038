use Rattle.std.proofs.Common.{ℕ, true, ◌≡◌, List, ap}
use Rattle.std.proofs.lemmas.List.Elements.{All-more}
use Rattle.icu_rule_meaning.specs.declared.symbolic.SymbolicWeight.{SymbolicWeight}
use Rattle.icu_rule_meaning.specs.declared.symbolic.SymbolicWeight.TheVariants.{Rooted}
use Rattle.icu_rule_meaning.specs.SymbolicElements.{has_tailored_weight}
use Rattle.icu_rule_weights.proofs.sibling_run.tailored_len.Goals as goal

pub loop-i-preserved : goal.loop-i-preserved
loop-i-preserved c =
    let siblings : List SymbolicWeight = c.args.siblings.now in
    let i : ℕ = c.loop-i.i in
    All-more (λ (w : SymbolicWeight). has_tailored_weight w ≡ true) siblings i (Rooted 0) c.loop-i-test.true c.loop-i.invariant
    (ap has_tailored_weight c.in-Tailored.is)
