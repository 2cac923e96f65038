-- The closure keeps the collator, and answers by the order of texts, which is total.
use Rattle.std.proofs.Common.{◌≡◌, refl, ◌∙◌, ap, chars}
use Rattle.std.specs.Ordering.{is_lt}
use Rattle.std.proofs.lemmas.Fn.{answers_by}
use Rattle.std.proofs.lemmas.List.Sorted.{ranks_by}
use Rattle.icu_collator.specs.Collators.{collation_borrowed}
use Rattle.icu_order_texts.specs.TextOrder.{text_order}
use Rattle.icu_collator.proofs.sort.in_place.sort_texts.Goals as goal

pub returns-clause-sorted : goal.returns-clause-sorted
returns-clause-sorted c =
    let collation = collation_borrowed c.args.collator.now in
    c.sort_unstable_by.ensures.sorted (λ one other. is_lt (text_order collation (chars one.now) (chars other.now)))
    (ranks_by (c.text_order_is_total.ensures collation) (λ name. chars name.now))
    (answers_by _ _ (λ f. f.0.now ≡ c.args.collator.now)
    (λ f a r f' called same. (
      ap is_lt (called.met.1 ∙ ap (λ k. text_order (collation_borrowed k) (chars a.0.now.now) (chars a.1.0.now.now)) same),
      ap (λ b. b.now) called.met.0 ∙ same,
    ))
    _ refl)
