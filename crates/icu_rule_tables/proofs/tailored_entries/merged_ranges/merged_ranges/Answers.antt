-- The ranges have the characters of those that were sorted.
use Rattle.std.proofs.Common.{◌||◌, ℕ, List, ap, sym, ◌∙◌}
use Rattle.std.specs.Prelude.{◌&&◌, nat_le}
use Rattle.std.specs.List.Sorted.{IsPermutation}
use Rattle.std.proofs.lemmas.List.{drop_all}
use Rattle.std.proofs.lemmas.List.Sorted.{list_any-IsPermutation}
use Rattle.std.proofs.Math.Bool.{or-false}
use Rattle.icu_rule_parser.specs.declared.statement.CharacterRange.{CharacterRange}
use Rattle.icu_rule_meaning.specs.Rules.{have_character}
use Rattle.icu_rule_tables.proofs.tailored_entries.merged_ranges.merged_ranges.Goals as goal

pub returns : goal.returns
returns c x =
    let ranges : List CharacterRange = c.deref-range-items.result.now in
    let i : ℕ = c.loop-range.range-index in
    let merged : List CharacterRange = c.loop-range.merged.items in
    let moved : IsPermutation c.in_ok-sorted.sorted.items c.sort_by_key.new.self.items = c.in_ok-sort_by_key.ensures.permutation in
    sym (or-false (have_character merged x))
    ∙ ap (λ (rs : List CharacterRange). have_character merged x || have_character rs x) (sym (drop_all i ranges c.loop-range-test.false))
    ∙ c.loop-range.invariant x
    ∙ ap (λ (rs : List CharacterRange). have_character rs x) c.deref-range-items.ensures.value
    ∙ sym (list_any-IsPermutation (λ (range : CharacterRange). nat_le range.first x && nat_le x range.last) c.in_ok-sorted.sorted.items c.sort_by_key.new.self.items moved)
    ∙ ap (λ (rs : List CharacterRange). have_character rs x) c.in_ok-sorted.ensures.items
