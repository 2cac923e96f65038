-- The levels of weights, none of which may begin another.
use Rattle.std.specs.Prelude.{ℕ, List, Option, None}
use Rattle.icu_table_provider.specs.Reorderings.{Reordering}
use Rattle.icu_table_provider.specs.declared.well_formed.condition.PairCondition.{PairCondition}
use Rattle.icu_table_provider.specs.declared.well_formed.condition.PairCondition.TheVariants as conditions
use Rattle.icu_table_check.specs.declared.check.weights.ComparedLevel.{ComparedLevel}
use Rattle.icu_table_check.specs.declared.check.weights.ComparedLevel.TheVariants.{Primary, Secondary, Tertiary}
use Rattle.icu_table_check.specs.declared.check.weights.WeightList.{WeightList}
use Rattle.icu_table_check.specs.declared.check.weights.WeightList.TheVariants as lists
use Rattle.icu_table_provider.specs.CollatorTables.{CollatorTables}
use Rattle.icu_table_weights.specs.Overlaps.{written_bytes}

-- the weights of a level, as they are collected
abbrev pub list_of : ComparedLevel → WeightList
list_of Primary = lists.Primaries
list_of Secondary = lists.Secondaries
list_of Tertiary = lists.Tertiaries

-- the condition that none of them begins another
abbrev pub overlap_condition : ComparedLevel → PairCondition
overlap_condition Primary = conditions.Primaries
overlap_condition Secondary = conditions.Secondaries
overlap_condition Tertiary = conditions.Tertiaries

-- the reordering by which they are compared
abbrev pub reordering_at : ComparedLevel → CollatorTables → Option Reordering
reordering_at Primary all = all.reordering
reordering_at _ all = None

-- how they are written
abbrev pub bytes_at : ComparedLevel → CollatorTables → ℕ → List ℕ
bytes_at level all = written_bytes (reordering_at level all)
