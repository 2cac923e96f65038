-- The parts of the check together.
use Rattle.icu_table_provider.specs.declared.well_formed.condition.Condition.{Condition}
use Rattle.icu_table_provider.specs.declared.well_formed.condition.Condition.TheVariants as conditions
use Rattle.icu_table_provider.specs.declared.well_formed.condition.PairCondition.{PairCondition}
use Rattle.icu_table_provider.specs.declared.well_formed.condition.PairCondition.TheVariants.{TertiaryElementWeights, Primaries, Secondaries, Tertiaries, Compression}
use Rattle.icu_table_provider.specs.declared.well_formed.condition.LeadCondition.TheVariants.{Separator, HighLead, ImplicitLead, NumericLead, LeadsApart, NumericWhole}
use Rattle.icu_table_provider.specs.CollatorTables.{CollatorTables}
use Rattle.icu_table_provider.specs.well_formed.LeadConditions.{LeadMeets}
use Rattle.icu_table_check.specs.inner.EntryViolations.{ReachableMeets}
use Rattle.icu_table_provider.specs.well_formed.WellFormedTables.{AreTables, HasDiacriticCount, Meets, IsWellFormedTables}
use Rattle.icu_table_check.specs.inner.Checks.{LeadsMeet, PairsMeet}
use Rattle.icu_table_check.proofs.ComparedLevelLemmas.{meets_in}
use Rattle.icu_table_check.proofs.LevelMeets.{tertiary_element_meet, secondaries_meet, tertiaries_meet}
use Rattle.icu_table_check.proofs.PrimaryMeets.{primaries_meet, compression_meets}

pub leads_meet : (all : CollatorTables) → LeadMeets Separator all → LeadMeets HighLead all → LeadMeets ImplicitLead all → LeadMeets NumericLead all → LeadMeets LeadsApart all → LeadMeets NumericWhole all → LeadsMeet all
leads_meet all a b c d e f Separator = a
leads_meet all a b c d e f HighLead = b
leads_meet all a b c d e f ImplicitLead = c
leads_meet all a b c d e f NumericLead = d
leads_meet all a b c d e f LeadsApart = e
leads_meet all a b c d e f NumericWhole = f

module _ (all : CollatorTables) (tables : AreTables all) (count : HasDiacriticCount all) (reachable : ReachableMeets all) (leads : LeadsMeet all) (pairs : PairsMeet all) where
  pair_meets : (condition : PairCondition) → Meets (conditions.Pair condition) all
  pair_meets TertiaryElementWeights = tertiary_element_meet all reachable tables pairs.tertiary_elements
  pair_meets Secondaries = secondaries_meet all reachable tables pairs.secondaries.weights pairs.secondaries.all_held pairs.secondaries.free
  pair_meets Tertiaries = tertiaries_meet all reachable tables pairs.tertiaries.weights pairs.tertiaries.all_held pairs.tertiaries.free
  pair_meets Primaries = primaries_meet all reachable tables (leads ImplicitLead) (leads Separator) (leads HighLead) pairs.primaries.weights pairs.primaries.all_held pairs.primaries.free
  pair_meets Compression = compression_meets all reachable tables (leads ImplicitLead) (leads Separator) (leads HighLead) pairs.primaries.weights pairs.primaries.all_held pairs.primaries.alike

  each : (condition : Condition) → Meets condition all
  each conditions.DiacriticCount = count
  each (conditions.Entry condition) = λ table. (meets_in all reachable table).entries condition
  each conditions.PrefixMappings = λ table. (meets_in all reachable table).mappings
  each (conditions.Element condition) = λ table. (meets_in all reachable table).elements condition
  each (conditions.Pair condition) = pair_meets condition
  each (conditions.Lead condition) = leads condition

  pub well_formed_tables : IsWellFormedTables all
  well_formed_tables = record { tables = tables; each = each }
