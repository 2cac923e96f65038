-- What was walked and what is left of the walk are the order.
use Rattle.std.proofs.Common.{◌-◌, [], ◌∷◌, ◌++◌, ◌∙◌, ap, sym}
use Rattle.icu_rule_meaning.specs.weight_tree.inner.LinkedOrders.{next_in, walk}
use Rattle.icu_rule_meaning.proofs.weight_tree.LinkWalkLemmas.{list_on, list_ended, list_done}
use Rattle.icu_rule_meaning.proofs.weight_tree.linked.LinkedWeights.to_vec.Goals as goal

pub loop-left-preserved : goal.loop-left-preserved
loop-left-preserved c =
    let next = next_in c.self.inside.links.entries in
    ap (λ ys. ys ++ walk (c.loop-left.left - 1) next c.next_in-at-in-loop-left.result) c.in_ok-push-in-Some.ensures.items
    ∙ (ap (λ q. (c.loop-left.weights.items ++ c.in-Some.w ∷ []) ++ walk (c.loop-left.left - 1) next q) c.next_in-at-in-loop-left.ensures
    ∙ list_on c.loop-left.left next c.loop-left.at c.in-Some.w c.loop-left.weights.items _ c.loop-left-test.true (sym c.in-Some.ensures) c.loop-left.invariant)

pub returns-in-None : goal.returns-in-None
returns-in-None c =
    list_ended c.loop-left.left (next_in c.self.inside.links.entries) c.loop-left.at c.loop-left.weights.items _ (sym c.in-None.ensures) c.loop-left.invariant
    ∙ c.self.view_is

pub returns : goal.returns
returns c =
    list_done c.loop-left.left (next_in c.self.inside.links.entries) c.loop-left.at c.loop-left.weights.items _ c.loop-left-test.false c.loop-left.invariant
    ∙ c.self.view_is
