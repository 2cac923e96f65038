-- Directly behind a weight is before the one behind it.
use Rattle.std.proofs.Common.{◌≡◌, true, ◌∙◌, ap, sym, subst}
use Rattle.icu_rule_meaning.specs.declared.symbolic.SymbolicWeight.TheVariants.{Tailored}
use Rattle.icu_rule_meaning.specs.WeightTrees.{with_behind}
use Rattle.icu_rule_meaning.specs.weight_tree.inner.LinkStops.{stands, in_front, standing_weight}
use Rattle.icu_rule_meaning.specs.weight_tree.inner.LinkedOrders.{next_in}
use Rattle.icu_rule_meaning.proofs.weight_tree.LinkStopLemmas.{ascends_tailored}
use Rattle.icu_rule_meaning.proofs.weight_tree.LinkingLemmas.{put_behind_is, next_is_there}
use Rattle.icu_rule_meaning.proofs.weight_tree.linked.LinkedWeights.put_behind.Goals as goal

pub put-requires-clause-next : goal.put-requires-clause-next
put-requires-clause-next c =
    let es = c.self.inside.links.entries in
    subst (λ q. stands q c.args.self.now ≡ true) (sym c.next_in-next.ensures)
    (subst (λ xs. stands (next_in es c.args.at) xs ≡ true) c.self.view_is
    (next_is_there es c.self.invariant c.args.at c.requires
    (ap (stands c.args.at) c.self.view_is ∙ (sym c.has.ensures.value ∙ c.if-not-has.false))))

pub put-requires-clause-ascends : goal.put-requires-clause-ascends
put-requires-clause-ascends c = ascends_tailored c.next_in-next.result c.args.new c.args.self.now c.has.ensures.ascends

pub returns : goal.returns
returns c =
    let es = c.self.inside.links.entries in
    c.in_ok-put.ensures
    ∙ (ap (λ q. in_front q (Tailored c.args.new) c.args.self.now) c.next_in-next.ensures
    ∙ subst (λ xs. in_front (next_in es c.args.at) (Tailored c.args.new) xs ≡ with_behind (standing_weight c.args.at) (Tailored c.args.new) xs) c.self.view_is
    (put_behind_is es c.self.invariant c.args.at (Tailored c.args.new) c.requires
    (ap (stands c.args.at) c.self.view_is ∙ (sym c.has.ensures.value ∙ c.if-not-has.false))))
