use Rattle.std.proofs.Common.{◌≤◌, ℕ, List, length, map, ap, ◌∙◌, arith}
use Rattle.icu_table_entries.specs.Elements.{of_primary}
use Rattle.icu_order_levels.specs.Numbers.{without_first_zeros, longest_number}
use Rattle.icu_element_cursor.specs.inner.NumberElements.{few_digits}
use Rattle.icu_element_cursor.proofs.NumberLemmas.{kept_first, short_number}
use Rattle.icu_element_cursor.proofs.digit_run.number_of.Goals as goal

pub new-requires-clause-first : goal.new-requires-clause-first
new-requires-clause-first c =
    kept_first (few_digits c.args.digits.now) _ (c.without_zeros-kept.ensures.kept ∙ ap without_first_zeros c.as_slice.ensures.value)

pub returns : goal.returns
returns c =
    let digits : List ℕ = few_digits c.args.digits.now in
    let kept : List ℕ = c.without_zeros-kept.result.now in
    let fits : length kept ≤ longest_number = omega (arith, c.without_zeros-kept.ensures.fewer, c.as_slice.ensures.few, ap length c.as_slice.ensures.value) in
    ap (map of_primary) c.new.ensures
    ∙ short_number c.args.lead digits kept c.requires.some (c.without_zeros-kept.ensures.kept ∙ ap without_first_zeros c.as_slice.ensures.value) fits
