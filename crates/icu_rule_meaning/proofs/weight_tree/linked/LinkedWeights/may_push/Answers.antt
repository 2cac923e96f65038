-- A tailored weight may stand behind all, and one of the root that is greater than all of the root.
use Rattle.std.proofs.Common.{◌≡◌, false, ◌∙◌, ap, sym, subst}
use Rattle.std.specs.Bool.{OnTrue}
use Rattle.icu_rule_meaning.specs.declared.weight_tree.stop.Stop.TheVariants.{End}
use Rattle.icu_rule_meaning.specs.weight_tree.inner.LinkStops.{stands, is_stop, in_front, standing_weight}
use Rattle.icu_rule_meaning.specs.weight_tree.inner.LinkedOrders.{RootedAscend}
use Rattle.icu_rule_meaning.proofs.weight_tree.LinkStopLemmas.{ascends_tailored}
use Rattle.icu_rule_meaning.proofs.weight_tree.LinkingLemmas.{may_push_rooted}
use Rattle.icu_rule_meaning.proofs.weight_tree.linked.LinkedWeights.may_push.Goals as goal

pub returns-in-Rooted : goal.returns-in-Rooted
returns-in-Rooted c =
    let xs = c.args.self.now in
    subst (λ s. OnTrue c.is_end.result ((stands s xs ≡ false) × RootedAscend (in_front End (standing_weight s) xs))) (sym c.in-Rooted.is)
    (may_push_rooted c.in-Rooted.w xs c.is_end.result (c.is_end.ensures ∙ ap (λ q. is_stop q End) c.rooted_above.ensures)
    (ap (λ s. stands s xs) (sym c.in-Rooted.is) ∙ (sym c.has.ensures.value ∙ c.if-has.false)) c.has.ensures.ascends)

pub returns-in-Tailored : goal.returns-in-Tailored
returns-in-Tailored c =
    let xs = c.args.self.now in
    subst (λ s. (stands s xs ≡ false) × RootedAscend (in_front End (standing_weight s) xs)) (sym c.in-Tailored.is) (
      ap (λ s. stands s xs) (sym c.in-Tailored.is) ∙ (sym c.has.ensures.value ∙ c.if-has.false),
      ascends_tailored End c.in-Tailored.field-0 xs c.has.ensures.ascends,
    )
