-- A weight of the root is put where the definition has it.
use Rattle.std.proofs.Common.{◌≡◌, ◌∙◌, ap, get_or, arith}
use Rattle.icu_rule_meaning.specs.declared.symbolic.SymbolicWeight.TheVariants.{Rooted, Tailored}
use Rattle.icu_rule_meaning.specs.SymbolicElements.{is_same_weight}
use Rattle.icu_rule_meaning.specs.weight_tree.inner.SiblingPlaces.{ends_search, place_among}
use Rattle.icu_rule_meaning.proofs.weight_tree.SiblingLemmas.{rooted_stays, rooted_put, place_le}
use Rattle.icu_rule_meaning.proofs.weight_tree.listed.put_rooted.Goals as goal

pub returns-then-stands_at : goal.returns-then-stands_at
returns-then-stands_at c =
    rooted_stays c.args.w c.search_place-place.result c.args.weights.now.items c.stands_at.result
    (c.search_place-place.ensures ∙ ap (place_among (Rooted c.args.w)) c.as_slice.ensures.value)
    (c.stands_at.ensures ∙ ap (λ xs. is_same_weight (get_or xs c.search_place-place.result (Tailored 0)) (Rooted c.args.w)) c.as_slice-2.ensures.value)
    c.if-stands_at.true

pub insert-requires : goal.insert-requires
insert-requires c =
    let most = place_le (ends_search (Rooted c.args.w)) c.args.weights.now.items in
    let at : c.search_place-place.result ≡ place_among (Rooted c.args.w) c.args.weights.now.items =
    c.search_place-place.ensures ∙ ap (place_among (Rooted c.args.w)) c.as_slice.ensures.value in
    omega arith

pub returns : goal.returns
returns c =
    c.in_ok-insert.ensures.items
    ∙ rooted_put c.args.w c.search_place-place.result c.args.weights.now.items c.stands_at.result
    (c.search_place-place.ensures ∙ ap (place_among (Rooted c.args.w)) c.as_slice.ensures.value)
    (c.stands_at.ensures ∙ ap (λ xs. is_same_weight (get_or xs c.search_place-place.result (Tailored 0)) (Rooted c.args.w)) c.as_slice-2.ensures.value)
    c.if-stands_at.false
