use Rattle.std.proofs.Common.{◌≡◌, ◌<◌, ℕ, List, [], ◌∷◌, ◌++◌, true, length, get_or, refl, ap, sym, subst, ◌∙◌, arith, rules}
use Rattle.std.specs.Prelude.{chars, string_bytes}
use Rattle.icu_collator.specs.Collators.{collation_borrowed}
use Rattle.icu_table_entries.specs.Elements.{Element}
use Rattle.icu_table_provider.specs.CollatorTables.{reorder}
use Rattle.icu_order_texts.specs.weighting.Forms.{last_variable_by}
use Rattle.icu_search.specs.inner.FirstWeights.{BeginsOtherwise, counts}
use Rattle.icu_search.proofs.FirstWeightLemmas.{reads_other, unequal_part}
use Rattle.icu_search.proofs.searcher.Searcher.has_other_weight.Goals as goal

pub returns-in-Some-true : goal.returns-in-Some-true
returns-in-Some-true c = λ is text part more front whole size begins.
    let s = c.args.self.now in
    let collation = collation_borrowed s.collator in
    let last = last_variable_by collation in
    let element = c.in-Some.element in
    let front_weights = c.as_slice-first.result.now in
    let first = c.in-Some.ensures in
    let left : List ℕ → List Element = λ _. element ∷ first.rest in
    let later : List ℕ → List Element = λ _. first.rest in
    let inside : c.args.index < length front_weights = omega (arith, c.if-index-first.false) in
    let counted : counts last element.primary ≡ true = ap (counts last) (sym c.primary.ensures) ∙ sym (c.in-Some-true.ensures last s.sure_is (search rules)) ∙ c.in-Some-true.field-0-test in
    let other : reorder collation.tables element.primary ≡ reorder collation.tables (get_or front_weights c.args.index 0) → ⊥ = λ e. c.differ.ensures collation s.apart_is is (ap (reorder collation.tables) c.primary-in-Some-true.ensures ∙ e) in
    let otherwise = reads_other collation text left later c.args.index element (record { gone = front; before = []; elements = whole ∙ ap (λ (l : List Element). front ++ l) first.is; count = size }) (λ before. ([], refl))
    front_weights counted inside other in
    unequal_part collation collation refl text part more (chars (string_bytes s.pattern)) s.first.items (subst (λ (l : List ℕ). BeginsOtherwise collation text l) c.as_slice-first.ensures.value otherwise) s.first_is begins
