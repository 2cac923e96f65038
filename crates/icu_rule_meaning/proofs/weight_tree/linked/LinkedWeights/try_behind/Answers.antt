-- The place of a weight stands for it.
use Rattle.std.proofs.Common.{◌≡◌, false, ◌∙◌, ap, sym, subst, IfOk, if◌then◌else◌}
use Rattle.icu_rule_meaning.specs.declared.symbolic.SymbolicWeight.TheVariants.{Tailored}
use Rattle.icu_rule_meaning.specs.WeightTrees.{with_behind}
use Rattle.icu_rule_meaning.specs.declared.weight_tree.stop.Stop.TheVariants.{End}
use Rattle.icu_rule_meaning.specs.weight_tree.inner.LinkStops.{standing_weight, is_stop}
use Rattle.icu_rule_meaning.proofs.weight_tree.LinkingLemmas.{weight_of_stop}
use Rattle.icu_rule_meaning.proofs.weight_tree.LinkStopLemmas.{not_end}
use Rattle.icu_rule_meaning.proofs.weight_tree.linked.LinkedWeights.try_behind.Goals as goal

pub put_behind-requires : goal.put_behind-requires
put_behind-requires c = subst (λ s. is_stop s End ≡ false) (sym c.in-Some.ensures.some.0) (not_end c.args.w)

pub returns-in-Ok : goal.returns-in-Ok
returns-in-Ok c =
    subst (λ v. IfOk c.put_behind.result (λ done. c.put_behind.new.self
    ≡ (if done then with_behind v (Tailored c.args.new) c.args.self.now else c.args.self.now)))
    (ap standing_weight c.in-Some.ensures.some.0 ∙ weight_of_stop c.args.w)
    (subst (λ k. IfOk c.put_behind.result (λ done. c.put_behind.new.self
    ≡ (if done then with_behind (standing_weight c.in-Some.at) (Tailored k) c.args.self.now else c.args.self.now)))
    c.in-Ok.ensures.1 c.put_behind.ensures)
