-- That tables meet the conditions is a proposition.
use Rattle.std.proofs.Props.{props}
use Rattle.icu_table_entries.specs.Elements.{Element}
use Rattle.icu_table_provider.specs.declared.well_formed.condition.Condition.{Condition}
use Rattle.icu_table_provider.specs.declared.well_formed.condition.Condition.TheVariants as conditions
use Rattle.icu_table_provider.specs.declared.well_formed.condition.PairCondition.{PairCondition}
use Rattle.icu_table_provider.specs.declared.well_formed.condition.PairCondition.TheVariants.{TertiaryElementWeights, Primaries, Secondaries, Tertiaries, Compression}
use Rattle.icu_table_provider.specs.declared.well_formed.condition.LeadCondition.{LeadCondition}
use Rattle.icu_table_provider.specs.declared.well_formed.condition.LeadCondition.TheVariants.{Separator, HighLead, ImplicitLead, NumericLead, LeadsApart, NumericWhole}
use Rattle.icu_table_provider.specs.CollatorTables.{CollatorTables}
use Rattle.icu_table_provider.specs.well_formed.PairConditions.{PairMeets}
use Rattle.icu_table_provider.specs.well_formed.LeadConditions.{LeadMeets}
use Rattle.icu_table_provider.specs.well_formed.WellFormedTables.{Meets, IsWellFormedTables}

pair_prop : (all : CollatorTables) (condition : PairCondition) (x y : Element) → IsProp (PairMeets condition all x y)
pair_prop all TertiaryElementWeights x y = hlevel props
pair_prop all Primaries x y = hlevel props
pair_prop all Secondaries x y = hlevel props
pair_prop all Tertiaries x y = hlevel props
pair_prop all Compression x y = hlevel props

lead_prop : (all : CollatorTables) (condition : LeadCondition) → IsProp (LeadMeets condition all)
lead_prop all Separator = hlevel props
lead_prop all HighLead = hlevel props
lead_prop all ImplicitLead = hlevel props
lead_prop all NumericLead = hlevel props
lead_prop all LeadsApart = hlevel props
lead_prop all NumericWhole = hlevel props

meets_prop : (all : CollatorTables) (condition : Condition) → IsProp (Meets condition all)
meets_prop all conditions.DiacriticCount = hlevel props
meets_prop all (conditions.Entry condition) = hlevel props
meets_prop all conditions.PrefixMappings = hlevel props
meets_prop all (conditions.Element condition) = hlevel props
meets_prop all (conditions.Pair condition) = hlevel (props, pair_prop)
meets_prop all (conditions.Lead condition) = lead_prop all condition

-- two proofs that tables meet the conditions are the same
pub well_formed_prop : (all : CollatorTables) → IsProp (IsWellFormedTables all)
well_formed_prop all = hlevel (props, meets_prop)
