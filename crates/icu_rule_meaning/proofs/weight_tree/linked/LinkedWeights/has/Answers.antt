-- A place that is linked stands in the order.
use Rattle.std.proofs.Common.{◌∙◌, ap, subst}
use Rattle.icu_rule_meaning.specs.weight_tree.inner.LinkStops.{stands}
use Rattle.icu_rule_meaning.specs.weight_tree.inner.LinkedOrders.{RootedAscend}
use Rattle.icu_rule_meaning.proofs.weight_tree.linked.LinkedWeights.has.Goals as goal

pub returns-clause-value : goal.returns-clause-value
returns-clause-value c = c.is_linked.ensures ∙ (c.self.invariant.known c.args.stop ∙ ap (stands c.args.stop) c.self.view_is)

pub returns-clause-ascends : goal.returns-clause-ascends
returns-clause-ascends c = subst RootedAscend c.self.view_is c.self.invariant.ascends
