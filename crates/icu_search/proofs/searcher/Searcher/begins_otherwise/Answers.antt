use Rattle.std.proofs.Common.{ℕ, List, refl, subst}
use Rattle.std.specs.Prelude.{chars, string_bytes}
use Rattle.icu_collator.specs.Collators.{collation_borrowed}
use Rattle.icu_search.specs.inner.FirstWeights.{BeginsOtherwise}
use Rattle.icu_search.proofs.FirstWeightLemmas.{unequal_part}
use Rattle.icu_search.proofs.searcher.Searcher.begins_otherwise.Goals as goal

pub returns-then-begins_with_other : goal.returns-then-begins_with_other
returns-then-begins_with_other c = λ is part rest begins.
    let s = c.args.self.now in
    let collation = collation_borrowed s.collator in
    unequal_part collation collation refl c.args.text.now part rest (chars (string_bytes s.pattern)) s.first.items (c.begins_with_other.ensures c.if-begins_with_other.true) s.first_is begins

pub returns : goal.returns
returns c = λ is part rest begins.
    let s = c.args.self.now in
    let collation = collation_borrowed s.collator in
    let none : BeginsOtherwise collation c.args.text.now s.first.items = subst (λ (l : List ℕ). BeginsOtherwise collation c.args.text.now l) c.as_slice.ensures.value (c.rules_out.ensures is) in
    unequal_part collation collation refl c.args.text.now part rest (chars (string_bytes s.pattern)) s.first.items none s.first_is begins
