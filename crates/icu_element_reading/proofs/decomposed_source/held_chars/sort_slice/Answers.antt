use Rattle.std.proofs.Common.{rules}
use Rattle.std.proofs.lemmas.List.Sorted.{answers_always, IsNonDecreasingBy-from_sort}
use Rattle.std.proofs.lemmas.Result.{on_ok_weaker}
use Rattle.ucd_normal.specs.CanonicalCombiningClass.{canonical_combining_class}
use Rattle.unicode_normalization.proofs.SortLemmas.{canonical_order-from_sort}
use Rattle.icu_element_reading.proofs.decomposed_source.held_chars.sort_slice.Goals as goal

pub returns-clause-ok : goal.returns-clause-ok
returns-clause-ok c =
    let keys = answers_always _ _ _ (λ f a r next called. search rules) in
    let stable = c.sort_by_key.ensures.stable canonical_combining_class keys in
    on_ok_weaker c.sort_by_key.result
    (λ sorted. canonical_order-from_sort _ _ c.requires (IsNonDecreasingBy-from_sort canonical_combining_class _ (sorted canonical_combining_class keys)) stable)
    c.sort_by_key.ensures.sorted
