-- What is before the next greater weight of the root is the last of what was tailored behind this one.
use Rattle.std.proofs.Common.{◌≡◌, ◌∙◌, ap, sym, subst, unwrap_or, take_while}
use Rattle.icu_rule_meaning.specs.declared.symbolic.SymbolicWeight.TheVariants.{Rooted}
use Rattle.icu_rule_meaning.specs.declared.weight_tree.stop.Stop.TheVariants as stops
use Rattle.icu_rule_meaning.specs.SymbolicElements.{has_tailored_weight}
use Rattle.icu_rule_meaning.specs.WeightTrees.{put_behind}
use Rattle.icu_rule_meaning.specs.RootPositions.{last_weight}
use Rattle.icu_rule_meaning.specs.weight_tree.inner.LinkStops.{stop_weight, stands, rooted_above}
use Rattle.icu_rule_meaning.specs.weight_tree.inner.LinkedOrders.{prev_in}
use Rattle.icu_rule_meaning.proofs.weight_tree.LinkingLemmas.{last_behind_found, none_behind}
use Rattle.icu_rule_meaning.proofs.weight_tree.linked.LinkedWeights.last_behind.Goals as goal

pub returns-then-not-has : goal.returns-then-not-has
returns-then-not-has c = none_behind c.args.w c.args.self.now (sym c.has.ensures.value ∙ c.if-not-has.true)

pub returns : goal.returns
returns c =
    let es = c.self.inside.links.entries in
    let n = c.args.w in
    c.unwrap_or.ensures
    ∙ (ap (λ o. unwrap_or o (Rooted n)) (c.stop_weight.ensures ∙ ap stop_weight (c.prev_in.ensures ∙ ap (prev_in es) c.rooted_above-next.ensures))
    ∙ subst (λ xs. unwrap_or (stop_weight (prev_in es (rooted_above n xs))) (Rooted n)
    ≡ last_weight (Rooted n) (take_while has_tailored_weight (put_behind (Rooted n) xs))) c.self.view_is
    (last_behind_found es c.self.invariant n (ap (stands (stops.Rooted n)) c.self.view_is ∙ (sym c.has.ensures.value ∙ c.if-not-has.false))))
