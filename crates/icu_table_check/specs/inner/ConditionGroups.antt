-- The order in which failing conditions are reported.
use Rattle.std.specs.Prelude.{ℕ}
use Rattle.icu_table_data.specs.declared.reachable_condition.ReachableCondition.{ReachableCondition}
use Rattle.icu_table_data.specs.declared.reachable_condition.ReachableCondition.TheVariants as of_entry
use Rattle.icu_table_provider.specs.declared.well_formed.condition.Condition.{Condition}
use Rattle.icu_table_provider.specs.declared.well_formed.condition.Condition.TheVariants as conditions
use Rattle.icu_table_check.specs.declared.condition_group.ConditionGroup.{ConditionGroup}
use Rattle.icu_table_check.specs.declared.condition_group.ConditionGroup.TheVariants.{Counts, Indices, PrefixMappings, Chains, Digits, Bytes, Offsets, Shapes, Leads, TertiaryElements, Overlaps, Primaries, KeptLeads, OwnLeads, ReorderedLeads, Compression}
use Rattle.icu_table_provider.specs.declared.well_formed.condition.ReachableElementCondition.{ReachableElementCondition}
use Rattle.icu_table_provider.specs.declared.well_formed.condition.ReachableElementCondition.TheVariants as of_element
use Rattle.icu_table_provider.specs.declared.well_formed.condition.PairCondition.{PairCondition}
use Rattle.icu_table_provider.specs.declared.well_formed.condition.PairCondition.TheVariants as of_pair
use Rattle.icu_table_provider.specs.declared.well_formed.condition.LeadCondition.{LeadCondition}
use Rattle.icu_table_provider.specs.declared.well_formed.condition.LeadCondition.TheVariants as of_lead

-- the groups in their order
abbrev pub group_place : ConditionGroup → ℕ
group_place Counts = 0
group_place Indices = 1
group_place PrefixMappings = 2
group_place Chains = 3
group_place Digits = 4
group_place Bytes = 5
group_place Offsets = 6
group_place Shapes = 7
group_place Leads = 8
group_place TertiaryElements = 9
group_place Overlaps = 10
group_place Primaries = 11
group_place KeptLeads = 12
group_place OwnLeads = 13
group_place ReorderedLeads = 14
group_place Compression = 15

-- the group of each condition
abbrev pub group_of_entry : ReachableCondition → ConditionGroup
group_of_entry of_entry.Indices = Indices
group_of_entry of_entry.PrefixMappings = PrefixMappings
group_of_entry of_entry.Chains = Chains
group_of_entry of_entry.Digits = Digits
group_of_entry of_entry.Bytes = Bytes
group_of_entry of_entry.Offsets = Offsets
group_of_entry of_entry.Shapes = Shapes
group_of_entry of_entry.Leads = Leads
group_of_entry of_entry.Primaries = Primaries

-- the group of a condition on elements
abbrev pub group_of_element : ReachableElementCondition → ConditionGroup
group_of_element of_element.Width = Shapes
group_of_element of_element.BackwardLead = Leads
group_of_element of_element.TertiaryElement = TertiaryElements
group_of_element of_element.MiddleLead = KeptLeads
group_of_element of_element.ImplicitLength = OwnLeads
group_of_element of_element.NumericLead = OwnLeads
group_of_element of_element.SharedLead = ReorderedLeads
group_of_element of_element.SecondByte = Compression

-- the group of a condition on two elements
abbrev pub group_of_pair : PairCondition → ConditionGroup
group_of_pair of_pair.TertiaryElementWeights = TertiaryElements
group_of_pair of_pair.Primaries = Overlaps
group_of_pair of_pair.Secondaries = Overlaps
group_of_pair of_pair.Tertiaries = Overlaps
group_of_pair of_pair.Compression = Compression

-- the group of a condition on lead bytes
abbrev pub group_of_lead : LeadCondition → ConditionGroup
group_of_lead of_lead.Separator = KeptLeads
group_of_lead of_lead.HighLead = KeptLeads
group_of_lead of_lead.ImplicitLead = ReorderedLeads
group_of_lead of_lead.NumericLead = ReorderedLeads
group_of_lead of_lead.LeadsApart = ReorderedLeads
group_of_lead of_lead.NumericWhole = Compression

-- the group of any condition
abbrev pub group_of : Condition → ConditionGroup
group_of conditions.DiacriticCount = Counts
group_of (conditions.Entry condition) = group_of_entry condition
group_of conditions.PrefixMappings = PrefixMappings
group_of (conditions.Element condition) = group_of_element condition
group_of (conditions.Pair condition) = group_of_pair condition
group_of (conditions.Lead condition) = group_of_lead condition
