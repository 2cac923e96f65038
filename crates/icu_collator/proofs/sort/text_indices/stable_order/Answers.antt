-- The closure keeps the collator's collation and the texts, and answers by a total order of indices.
use Rattle.std.proofs.Common.{rules, ◌≡◌, refl, ◌∙◌, ap}
use Rattle.std.specs.Ordering.{is_lt}
use Rattle.std.proofs.lemmas.Fn.{answers_by}
use Rattle.std.proofs.lemmas.Cmp.{then_total, on_total, nat_cmp_total}
use Rattle.std.proofs.lemmas.List.Sorted.{ranks_by}
use Rattle.icu_collator.specs.Collators.{collation_borrowed}
use Rattle.icu_collator.specs.sort.TextIndices.{indices_order, text_at}
use Rattle.icu_collator.proofs.sort.IndexRangeLemmas.{next_index}
use Rattle.icu_collator.proofs.sort.text_indices.stable_order.Goals as goal

pub returns-clause-sorted : goal.returns-clause-sorted
returns-clause-sorted c =
    let collation = collation_borrowed c.args.collator.now in
    let text = text_at c.args.texts.now in
    c.sort_unstable_by.ensures.sorted (λ i j. is_lt (indices_order collation text i j))
    (ranks_by (then_total (on_total text (c.text_order_is_total.ensures collation)) nat_cmp_total) (λ i. i))
    (answers_by _ _ (λ f. (f.0.now ≡ c.args.collator.now) × (f.1.now ≡ c.args.texts.now))
    (λ f a r f' called same. (
      ap is_lt (called.met.1 ∙ (λ i. indices_order (collation_borrowed (same.0 i)) (text_at (same.1 i)) a.0.now a.1.0.now)),
      (ap (λ b. b.now) called.met.0.0 ∙ same.0, ap (λ b. b.now) called.met.0.1 ∙ same.1),
    ))
    _ (refl, refl))

pub loop-index-preserved : goal.loop-index-preserved
loop-index-preserved c = search (rules, next_index)

pub returns-clause-permutation : goal.returns-clause-permutation
returns-clause-permutation c = search rules
