use Rattle.std.proofs.Common.{◌≡◌, ◌∷◌, ◌++◌, ◌+◌, [], ℕ, List, length, sym, ◌∙◌}
use Rattle.std.specs.Prelude.{nat_eq}
use Rattle.std.specs.Cmp.Lexicographic.{unequal}
use Rattle.std.proofs.lemmas.List.{length_push}
use Rattle.icu_element_matches.proofs.steady_matches.BegunLemmas.{begun_is}
use Rattle.icu_element_matches.proofs.steady_matches.begun.is_joined.Goals as goal

pub returns-then-mapping-front : goal.returns-then-mapping-front
returns-then-mapping-front c =
    let mapping : List ℕ = c.args.mapping.now in
    let wanted : List ℕ = c.args.front.now ++ c.args.last ∷ [] in
    let long : length wanted ≡ length c.args.front.now + 1 = length_push c.args.front.now c.args.last in
    sym (unequal nat_eq mapping wanted (λ e. c.if-mapping-front.true (e ∙ long)))

pub returns : goal.returns
returns c =
    let mapping : List ℕ = c.args.mapping.now in
    let wanted : List ℕ = c.args.front.now ++ c.args.last ∷ [] in
    let long : length wanted ≡ length c.args.front.now + 1 = length_push c.args.front.now c.args.last in
    c.begins_with.ensures ∙ begun_is mapping wanted (c.if-mapping-front.false ∙ sym long)
