-- The ranges have the characters of those that were sorted.
use Rattle.std.proofs.Common.{rules, List, ap, sym, ◌∙◌}
use Rattle.std.specs.Prelude.{◌&&◌, nat_le}
use Rattle.std.proofs.lemmas.List.Sorted.{IsNonDecreasingBy-from_sort_by_key, list_any-IsPermutation}
use Rattle.icu_rule_parser.specs.declared.statement.CharacterRange.{CharacterRange}
use Rattle.icu_rule_parser.specs.CharacterSets.{have_character}
use Rattle.icu_rule_parser.proofs.code_ranges.sorted_ranges.Goals as goal

pub returns-clause-same : goal.returns-clause-same
returns-clause-same c x =
    sym (list_any-IsPermutation (λ (range : CharacterRange). nat_le range.first x && nat_le x range.last) c.in_ok-sorted.sorted.items c.sort_by_key.new.self.items c.in_ok-sort_by_key.ensures.permutation)
    ∙ ap (λ (rs : List CharacterRange). have_character rs x) c.in_ok-sorted.ensures.items

pub returns-clause-ascending : goal.returns-clause-ascending
returns-clause-ascending c =
    IsNonDecreasingBy-from_sort_by_key (λ (range : CharacterRange). range.first) _ c.in_ok-sort_by_key.ensures.sorted
    (λ a r q k. search rules)
