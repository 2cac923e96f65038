-- What is left of the walk decides.
use Rattle.std.proofs.Common.{◌-◌, ◌∙◌, ap, sym}
use Rattle.icu_rule_meaning.specs.weight_tree.inner.LinkedOrders.{next_in, walk}
use Rattle.icu_rule_meaning.specs.weight_tree.inner.TailoredSiblings.{first_of_tailored}
use Rattle.icu_rule_meaning.proofs.weight_tree.LinkWalkLemmas.{tailored_on, tailored_met, tailored_common, tailored_ended, tailored_done}
use Rattle.icu_rule_meaning.proofs.weight_tree.linked.LinkedWeights.first_tailored.Goals as goal
use Rattle.icu_rule_meaning.proofs.weight_tree.linked.LinkedWeights.first_tailored.Goals.{then-is_tailored-via-then-is_tailored, then-is_tailored-via-else-is_tailored+then-is_same}

pub loop-left-preserved : goal.loop-left-preserved
loop-left-preserved c =
    let next = next_in c.self.inside.links.entries in
    ap (λ q. first_of_tailored c.args.common (walk (c.loop-left.left - 1) next q)) c.next_in-at-in-loop-left.ensures
    ∙ tailored_on c.loop-left.left next c.loop-left.at c.in-Some.w c.args.common _ c.loop-left-test.true (sym c.in-Some.ensures)
    (sym c.is_tailored.ensures ∙ c.if-is_tailored.false) (sym c.is_same.ensures ∙ c.if-is_same.false) c.loop-left.invariant

pub returns-then-is_tailored : goal.returns-then-is_tailored
returns-then-is_tailored c =
    let next = next_in c.self.inside.links.entries in
    elim c.then-is_tailored.branch [
      | then-is_tailored-via-then-is_tailored v ↦
          tailored_met c.loop-left.left next c.loop-left.at c.in-Some.w c.args.common _ c.loop-left-test.true (sym c.in-Some.ensures)
          (sym c.is_tailored.ensures ∙ v.if-is_tailored.true) c.loop-left.invariant
          ∙ ap (first_of_tailored c.args.common) c.self.view_is
      | then-is_tailored-via-else-is_tailored+then-is_same v ↦
          tailored_common c.loop-left.left next c.loop-left.at c.in-Some.w c.args.common _ c.loop-left-test.true (sym c.in-Some.ensures)
          (sym v.is_same.ensures ∙ v.if-is_same.true) c.loop-left.invariant
          ∙ ap (first_of_tailored c.args.common) c.self.view_is
    ]

pub returns-in-None : goal.returns-in-None
returns-in-None c =
    tailored_ended c.loop-left.left (next_in c.self.inside.links.entries) c.loop-left.at c.args.common _ (sym c.in-None.ensures) c.loop-left.invariant
    ∙ ap (first_of_tailored c.args.common) c.self.view_is

pub returns : goal.returns
returns c =
    tailored_done c.loop-left.left (next_in c.self.inside.links.entries) c.loop-left.at c.args.common _ c.loop-left-test.false c.loop-left.invariant
    ∙ ap (first_of_tailored c.args.common) c.self.view_is
