use Rattle.std.proofs.Common.{◌≡◌, ◌≤◌, ◌<◌, length}
use Rattle.std.specs.List.{AllByRecursion}
use Rattle.std.specs.Char.{digit_value}
use Rattle.icu_rule_parser.specs.RuleStrings.{hex_number}
use Rattle.icu_rule_parser.proofs.escapes.hex_character.Given as goal

-- the number so far goes on with the rest as the whole does
abbrev pub invariant-loop-digit : goal.invariant-loop-digit
invariant-loop-digit l = record {
  bound : l.number ≤ 0x10FFFF;
  value : hex_number l.number l.rest ≡ hex_number 0 l.fn.digits;
  each : AllByRecursion (λ digit. digit_value digit < 16) l.rest
      → AllByRecursion (λ digit. digit_value digit < 16) l.fn.digits;
}

abbrev pub decreases-loop-digit : goal.decreases-loop-digit
decreases-loop-digit l = length l.rest
