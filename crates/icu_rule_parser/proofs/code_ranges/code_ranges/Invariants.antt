use Rattle.std.proofs.Common.{◌≡◌, ℕ, take}
use Rattle.std.specs.Char.{IsScalar}
use Rattle.ucd_table.specs.Rows.{in_ranges}
use Rattle.icu_rule_parser.specs.CharacterSets.{have_character}
use Rattle.icu_rule_parser.proofs.code_ranges.code_ranges.Given as goal

-- those so far
abbrev pub invariant-loop-pair : goal.invariant-loop-pair
invariant-loop-pair l =
    (x : ℕ) → IsScalar x → have_character l.ranges.items x ≡ in_ranges (take l.pair-index l.fn.codes) x
