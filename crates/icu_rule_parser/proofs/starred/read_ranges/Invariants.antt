use Rattle.std.proofs.Common.{◌≤◌, ◌<◌, length, vec_len, drop}
use Rattle.std.specs.List.{AllByRecursion}
use Rattle.icu_rule_parser.specs.Statements.{IsInertRange}
use Rattle.icu_rule_parser.proofs.StarredLemmas.{Naming}
use Rattle.icu_rule_parser.proofs.starred.read_ranges.Given as goal

-- the ranges so far, and what the rest of the string and the strings behind it name
abbrev pub invariant-loop-after : goal.invariant-loop-after
invariant-loop-after l = record {
  naming : Naming l.fn.text l.ranges.items (drop l.from l.string.items) l.rest;
  inert : AllByRecursion IsInertRange l.ranges.items;
  from : l.from ≤ 1;
  some : 0 < vec_len l.string;
  len : length l.rest ≤ length l.fn.text;
}

abbrev pub decreases-loop-after : goal.decreases-loop-after
decreases-loop-after l = length l.rest
