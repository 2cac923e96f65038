use Rattle.std.proofs.Common.{◌≡◌, ◌++◌, map, drop}
use Rattle.std.specs.List.{AllByRecursion}
use Rattle.icu_rule_parser.specs.Statements.{IsInertRange, single}
use Rattle.icu_rule_parser.proofs.starred.Allowance.add_singles.Given as goal

-- the ranges so far, and those of the characters that are left, are all
abbrev pub invariant-loop-c : goal.invariant-loop-c
invariant-loop-c l = record {
  ranges : l.ranges.items ++ map single (drop l.c-index l.characters) ≡ l.fn.ranges.items ++ map single l.characters;
  inert : AllByRecursion IsInertRange l.fn.ranges.items → AllByRecursion IsInertRange l.ranges.items;
}
