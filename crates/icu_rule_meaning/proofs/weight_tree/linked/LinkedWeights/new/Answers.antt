-- The end alone is linked.
use Rattle.std.proofs.Common.{◌∙◌, ap}
use Rattle.std.specs.BTreeMap.{insert_entry}
use Rattle.icu_rule_meaning.specs.declared.weight_tree.stop.Stop.TheVariants.{End}
use Rattle.icu_rule_meaning.specs.weight_tree.inner.LinkedOrders.{stop_order}
use Rattle.icu_rule_meaning.proofs.weight_tree.LinkingLemmas.{alone_chain}
use Rattle.icu_rule_meaning.proofs.weight_tree.linked.LinkedWeights.new.Goals as goal

pub invariant_of-result : goal.invariant_of-result
invariant_of-result c =
    (alone_chain c.insert.new.self.entries (c.in_ok-insert.ensures.entries
    ∙ ap (λ es. insert_entry stop_order es End (record { prev = End; next = End })) c.new-links.ensures.empty)).1

pub returns : goal.returns
returns c =
    (alone_chain c.insert.new.self.entries (c.in_ok-insert.ensures.entries
    ∙ ap (λ es. insert_entry stop_order es End (record { prev = End; next = End })) c.new-links.ensures.empty)).0
