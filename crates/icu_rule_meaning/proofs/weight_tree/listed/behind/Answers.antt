-- What stands behind a weight is what follows its place.
use Rattle.std.proofs.Common.{◌≡◌, suc, ◌+◌, ◌≤◌, length, drop, ap, sym, ◌∙◌, arith}
use Rattle.std.proofs.lemmas.List.{drop_all, take_rest}
use Rattle.icu_rule_meaning.specs.weight_tree.inner.SiblingPlaces.{first_place}
use Rattle.icu_rule_meaning.proofs.weight_tree.PositionLemmas.{behind_is}
use Rattle.icu_rule_meaning.proofs.weight_tree.listed.behind.Goals as goal

pub returns-then-place-weights : goal.returns-then-place-weights
returns-then-place-weights c =
    let xs = c.args.weights.now in
    let next : c.search_first-place.result + 1 ≡ suc (first_place c.args.w xs) = omega (arith, c.search_first-place.ensures) in
    take_rest xs (c.search_first-place.result + 1) ∙ ap (λ n. drop n xs) next ∙ behind_is c.args.w xs

pub returns : goal.returns
returns c =
    let xs = c.args.weights.now in
    let past : length xs ≤ suc (first_place c.args.w xs) = omega (arith, c.search_first-place.ensures) in
    sym (drop_all (suc (first_place c.args.w xs)) xs past) ∙ behind_is c.args.w xs
