-- What the parts of the check find where there is no violation.
use Rattle.icu_table_provider.specs.declared.well_formed.condition.LeadCondition.{LeadCondition}
use Rattle.icu_table_check.specs.declared.check.weights.ComparedLevel.TheVariants.{Secondary, Tertiary}
use Rattle.icu_table_provider.specs.CollatorTables.{CollatorTables}
use Rattle.icu_table_provider.specs.well_formed.LeadConditions.{LeadMeets}
use Rattle.icu_table_check.specs.inner.PairViolations.{TertiaryElementsAreHigh, LevelIsFree, PrimariesAreFree}

-- lead bytes meet each condition on them
abbrev pub LeadsMeet : CollatorTables → Type 0
LeadsMeet all = (condition : LeadCondition) → LeadMeets condition all

-- tertiary weights alone are high, and no weight of a level begins another
pub record PairsMeet (all : CollatorTables) : Type 0 where
  pub tertiary_elements : TertiaryElementsAreHigh all.tables
  pub secondaries : LevelIsFree Secondary all
  pub tertiaries : LevelIsFree Tertiary all
  pub primaries : PrimariesAreFree all
