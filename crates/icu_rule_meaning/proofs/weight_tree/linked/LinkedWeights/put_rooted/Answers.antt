-- A weight of the root is put before the first greater one.
use Rattle.std.proofs.Common.{◌≡◌, true, ◌∙◌, ap, sym, subst, OnOk}
use Rattle.icu_rule_meaning.specs.declared.symbolic.SymbolicWeight.TheVariants.{Rooted}
use Rattle.icu_rule_meaning.specs.weight_tree.inner.LinkStops.{stands, in_front}
use Rattle.icu_rule_meaning.specs.weight_tree.inner.LinkedOrders.{RootedAscend}
use Rattle.icu_rule_meaning.proofs.weight_tree.LinkStopLemmas.{rooted_put, rooted_stays, ascends_rooted, above_stands}
use Rattle.icu_rule_meaning.proofs.weight_tree.linked.LinkedWeights.put_rooted.Goals as goal

pub returns-then-has : goal.returns-then-has
returns-then-has c =
    rooted_stays c.args.w c.args.self.now c.has.ensures.ascends (sym c.has.ensures.value ∙ c.if-has.true)

pub put-requires-clause-next : goal.put-requires-clause-next
put-requires-clause-next c =
    subst (λ q. stands q c.args.self.now ≡ true) (sym c.rooted_above-next.ensures) (above_stands c.args.w c.args.self.now)

pub put-requires-clause-ascends : goal.put-requires-clause-ascends
put-requires-clause-ascends c =
    subst (λ q. RootedAscend (in_front q (Rooted c.args.w) c.args.self.now)) (sym c.rooted_above-next.ensures)
    (ascends_rooted c.args.w c.args.self.now (sym c.has.ensures.value ∙ c.if-has.false) c.has.ensures.ascends)

pub returns : goal.returns
returns c =
    subst (λ ys. OnOk c.put.result (c.put.new.self ≡ ys))
    (ap (λ q. in_front q (Rooted c.args.w) c.args.self.now) c.rooted_above-next.ensures
    ∙ rooted_put c.args.w c.args.self.now (sym c.has.ensures.value ∙ c.if-has.false))
    c.put.ensures
