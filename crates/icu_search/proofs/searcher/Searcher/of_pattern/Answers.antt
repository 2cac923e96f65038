use Rattle.std.proofs.Common.{ℕ, List, subst}
use Rattle.std.specs.Prelude.{chars}
use Rattle.unicode_normalization.specs.Forms.{nfd}
use Rattle.icu_collator.specs.Collators.{collation_borrowed}
use Rattle.icu_order_texts.specs.TextOrder.{lists_by}
use Rattle.icu_search.specs.inner.AsciiMarks.{MarkOthers}
use Rattle.icu_search.specs.inner.FirstWeights.{BeginsWith}
use Rattle.icu_search.specs.inner.PartLevels.{AreLevelsOf}
use Rattle.icu_search.proofs.searcher.Searcher.of_pattern.Goals as goal

pub invariant_of-result-clause-first_is : goal.invariant_of-result-clause-first_is
invariant_of-result-clause-first_is c =
    let front = c.in_ok-first.first.items in
    subst (λ (bytes : List ℕ). BeginsWith front (lists_by (collation_borrowed c.as_borrowed-borrowed.result) (nfd (chars bytes))).primaries) c.as_str-4.ensures.value c.in_ok-first.ensures

pub invariant_of-result-clause-others_are : goal.invariant_of-result-clause-others_are
invariant_of-result-clause-others_are c =
    subst (λ (l : List ℕ). MarkOthers (collation_borrowed c.as_borrowed-borrowed.result) l c.other_marks-others.result) c.as_slice-2.ensures.value c.other_marks-others.ensures

pub invariant_of-result-clause-levels_are : goal.invariant_of-result-clause-levels_are
invariant_of-result-clause-levels_are c =
    subst (λ (bytes : List ℕ). AreLevelsOf (collation_borrowed c.as_borrowed-borrowed.result) (chars bytes) c.in_ok-levels.levels) c.as_str-2.ensures.value c.in_ok-levels.ensures
