use Rattle.icu_table_provider.specs.builder.Building.{built_data}
use Rattle.icu_cldr_root.specs.inner.Digits.{MakesDigits}
use Rattle.icu_table_mappings.specs.GrownLists.{Extends}
use Rattle.icu_cldr_root.proofs.digits.make_digits_of.Given as goal

-- the digits so far
abbrev pub invariant-loop-code : goal.invariant-loop-code
invariant-loop-code l = record {
  extends : Extends (built_data l.fn.builder) (built_data l.builder);
  digits : MakesDigits (built_data l.builder) l.start l.first l.code l.fn.entries l.entries;
}
