-- A new weight is put where the definition has it.
use Rattle.std.proofs.Common.{◌≡◌, ◌+◌, suc, ap, sym, ◌∙◌, arith}
use Rattle.icu_rule_meaning.specs.declared.symbolic.SymbolicWeight.TheVariants.{Tailored}
use Rattle.std.specs.List.{insert}
use Rattle.icu_rule_meaning.specs.weight_tree.inner.SiblingPlaces.{first_place}
use Rattle.icu_rule_meaning.proofs.weight_tree.SiblingLemmas.{behind_found, behind_none}
use Rattle.icu_rule_meaning.proofs.weight_tree.listed.put_behind.Goals as goal

pub returns-then-place-len : goal.returns-then-place-len
returns-then-place-len c =
    let items = c.args.weights.now.items in
    let at : c.search_first-place.result ≡ first_place c.args.w items =
    c.search_first-place.ensures ∙ ap (first_place c.args.w) c.as_slice.ensures.value in
    let next : c.search_first-place.result + 1 ≡ suc (first_place c.args.w items) = omega arith in
    c.in_ok-insert.ensures.items ∙ (ap (λ n. insert items n (Tailored c.args.new)) next ∙ sym (behind_found c.args.w (Tailored c.args.new) items (omega arith)))

pub returns : goal.returns
returns c =
    let items = c.args.weights.now.items in
    let at : c.search_first-place.result ≡ first_place c.args.w items =
    c.search_first-place.ensures ∙ ap (first_place c.args.w) c.as_slice.ensures.value in
    c.in_ok-extend_from_slice.ensures.items ∙ sym (behind_none c.args.w (Tailored c.args.new) items (omega arith))
