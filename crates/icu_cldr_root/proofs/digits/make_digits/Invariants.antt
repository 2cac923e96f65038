use Rattle.std.proofs.Common.{drop}
use Rattle.icu_table_provider.specs.builder.Building.{built_data}
use Rattle.icu_table_mappings.specs.GrownLists.{Extends}
use Rattle.icu_cldr_root.proofs.CountedDigitLemmas.{DigitsSoFar}
use Rattle.icu_cldr_root.proofs.digits.make_digits.Given as goal

-- the digits of the ranges so far
abbrev pub invariant-loop-range : goal.invariant-loop-range
invariant-loop-range l = record {
  extends : Extends (built_data l.fn.builder) (built_data l.builder);
  so_far : DigitsSoFar (built_data l.builder) l.fn.entries l.entries l.start l.end (drop l.range-index l.range-items);
}
