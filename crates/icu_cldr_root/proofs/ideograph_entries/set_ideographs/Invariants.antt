use Rattle.std.proofs.Common.{ℕ, drop}
use Rattle.std.specs.Char.{IsScalar}
use Rattle.icu_table_provider.specs.builder.Building.{built_data}
use Rattle.icu_cldr_root.specs.RangeWeights.{primary_among}
use Rattle.icu_cldr_root.specs.inner.IdeographValues.{GivesOrKeeps}
use Rattle.icu_table_mappings.specs.GrownLists.{HasMoreLists}
use Rattle.icu_cldr_root.proofs.ideograph_entries.set_ideographs.Given as goal

-- the ideographs of the ranges behind have their entries
abbrev pub invariant-loop-index : goal.invariant-loop-index
invariant-loop-index l = record {
  lists : HasMoreLists (built_data l.fn.builder) (built_data l.builder);
  gives : (x : ℕ) → IsScalar x → GivesOrKeeps (built_data l.fn.builder) (built_data l.builder) x (primary_among (drop l.index l.ranges) x);
}
