-- A new place, and the places before and behind it, are linked.
use Rattle.std.proofs.Common.{ap, ◌∙◌}
use Rattle.std.specs.Option.{is_some}
use Rattle.icu_rule_meaning.proofs.weight_tree.LinkingLemmas.{joined, one_more}
use Rattle.icu_rule_meaning.proofs.weight_tree.links.join.Goals as goal

pub returns-clause-ok : goal.returns-clause-ok
returns-clause-ok c =
    joined c.args.links.now.entries c.insert.new.self.entries c.set_next.new.links.entries c.set_prev.new.links.entries c.args.prev c.args.new c.args.next
    c.in_ok-insert.ensures.updates.0
    (one_more _ (ap (λ o. is_some o) c.in_ok-insert.ensures.old ∙ c.requires.new) c.in_ok-insert.ensures.len)
    c.set_next.ensures c.set_prev.ensures
