-- The last of a row.
use Rattle.std.proofs.Common.{◌≡◌, ◌<◌, ◌-◌, length, get_or, rules, ◌∙◌}
use Rattle.icu_rule_meaning.proofs.weight_tree.PositionLemmas.{last_weight_is}
use Rattle.icu_rule_meaning.proofs.weight_tree.listed.last_in_row.Goals as goal

pub returns-in-Some : goal.returns-in-Some
returns-in-Some c =
    let xs = c.args.weights.now in
    let some : 0 < length xs = search rules in
    let at : c.in-Some.w.now ≡ get_or xs (length xs - 1) c.in-Some.w.now = search rules in
    at ∙ last_weight_is c.args.other xs c.in-Some.w.now some
