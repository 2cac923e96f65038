-- A weight that is linked between two places stands between them.
use Rattle.std.proofs.Common.{◌≡◌, true, ◌∙◌, ap, sym, subst}
use Rattle.icu_rule_meaning.specs.weight_tree.inner.LinkStops.{stands, in_front, standing_weight}
use Rattle.icu_rule_meaning.specs.weight_tree.inner.LinkedOrders.{is_linked, IsChain, LinksBetween, RootedAscend}
use Rattle.icu_rule_meaning.proofs.weight_tree.LinkingLemmas.{joined_chain, prev_is_linked}
use Rattle.icu_rule_meaning.proofs.weight_tree.linked.LinkedWeights.put.Goals as goal

pub join-requires-clause-new : goal.join-requires-clause-new
join-requires-clause-new c = c.self.invariant.known c.args.new ∙ (ap (stands c.args.new) c.self.view_is ∙ c.requires.new)

pub join-requires-clause-prev : goal.join-requires-clause-prev
join-requires-clause-prev c =
    let es = c.self.inside.links.entries in
    subst (λ p. is_linked es p ≡ true) (sym c.prev_in-prev.ensures)
    (prev_is_linked es c.self.invariant c.args.next (ap (stands c.args.next) c.self.view_is ∙ c.requires.next))

pub join-requires-clause-next : goal.join-requires-clause-next
join-requires-clause-next c = c.self.invariant.known c.args.next ∙ (ap (stands c.args.next) c.self.view_is ∙ c.requires.next)

pub invariant_of-self : goal.invariant_of-self
invariant_of-self c = subst IsChain (sym c.in_err-join.ensures.err) c.self.invariant

pub invariant_of-self-2 : goal.invariant_of-self-2
invariant_of-self-2 c =
    let es = c.self.inside.links.entries in
    let fs = c.join.new.links.entries in
    (joined_chain es fs c.args.new c.args.next c.self.invariant (ap (stands c.args.next) c.self.view_is ∙ c.requires.next)
    (ap (stands c.args.new) c.self.view_is ∙ c.requires.new)
    (subst (λ xs. RootedAscend (in_front c.args.next (standing_weight c.args.new) xs)) (sym c.self.view_is) c.requires.ascends) c.requires.small
    (subst (λ p. LinksBetween es fs p c.args.new c.args.next) c.prev_in-prev.ensures c.in_ok-join.ensures.ok)).1

pub returns : goal.returns
returns c =
    let es = c.self.inside.links.entries in
    let fs = c.join.new.links.entries in
    (joined_chain es fs c.args.new c.args.next c.self.invariant (ap (stands c.args.next) c.self.view_is ∙ c.requires.next)
    (ap (stands c.args.new) c.self.view_is ∙ c.requires.new)
    (subst (λ xs. RootedAscend (in_front c.args.next (standing_weight c.args.new) xs)) (sym c.self.view_is) c.requires.ascends) c.requires.small
    (subst (λ p. LinksBetween es fs p c.args.new c.args.next) c.prev_in-prev.ensures c.in_ok-join.ensures.ok)).0
    ∙ ap (in_front c.args.next (standing_weight c.args.new)) c.self.view_is
