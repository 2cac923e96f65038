use Rattle.std.proofs.Common.{◌≡◌, ◌≤◌, ◌<◌, ℕ, not, true, false, take, length, slice_index_or}
use Rattle.std.specs.List.Sorted.{IsNonDecreasingBy}
use Rattle.std.specs.Char.{IsScalar}
use Rattle.icu_rule_parser.specs.declared.statement.CharacterRange.{CharacterRange}
use Rattle.icu_rule_parser.specs.CharacterSets.{have_character}
use Rattle.icu_rule_parser.proofs.code_ranges.complement.Given as goal

-- the others so far are right below the next number, from which on the ranges so far have none; they are below all
-- ranges that follow
abbrev pub invariant-loop-range : goal.invariant-loop-range
invariant-loop-range l = record {
  up : IsNonDecreasingBy (λ (range : CharacterRange). range.first) l.range-items;
  right : (x : ℕ) → IsScalar x → x < l.next
      → have_character l.others.items x ≡ not (have_character (take l.range-index l.range-items) x);
  none : (x : ℕ) → l.next ≤ x → have_character (take l.range-index l.range-items) x ≡ false;
  below : (x : ℕ) → IsScalar x → have_character l.others.items x ≡ true
      → (j : ℕ) → l.range-index ≤ j → j < length l.range-items → (d : CharacterRange) → x < (slice_index_or l.range-items j d).first;
}
