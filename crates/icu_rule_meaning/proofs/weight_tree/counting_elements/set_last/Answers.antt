-- All elements but the last stay.
use Rattle.std.proofs.Common.{◌≡◌, ◌-◌, ◌++◌, ◌∷◌, [], length, take, ap, sym, ◌∙◌, rules}
use Rattle.std.specs.Vec.{vec_len}
use Rattle.icu_rule_meaning.proofs.weight_tree.CountingLemmas.{front_is}
use Rattle.icu_rule_meaning.proofs.weight_tree.counting_elements.set_last.Goals as goal

pub returns : goal.returns
returns c =
    let items = c.args.elements.now.items in
    let many : vec_len c.args.elements.now ≡ length items = search rules in
    c.in_ok-push.ensures.items
    ∙ ap (λ es. es ++ c.args.last ∷ []) (c.pop.ensures.rest ∙ (ap (λ n. take (n - 1) items) many ∙ sym (front_is items)))
