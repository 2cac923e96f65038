-- The conditions on all tables of a collator together, and what an error says.
use Rattle.std.specs.Prelude.{ℕ, ◌≡◌, ◌⊎◌, ◌<◌, nat_lt, length, All, ◌==◌, ◌||◌, IsTrue, if◌then◌else◌}
use Rattle.std.specs.Option.{ForSome}
use Rattle.icu_table_entries.specs.declared.error.DataError.{DataError}
use Rattle.icu_table_entries.specs.declared.error.DataErrorKind.{DataErrorKind}
use Rattle.icu_table_entries.specs.declared.error.DataErrorKind.TheVariants as kinds
use Rattle.icu_table_entries.specs.declared.error.DataTable.{DataTable}
use Rattle.icu_table_entries.specs.declared.error.DataTable.TheVariants as tables
use Rattle.icu_table_data.specs.declared.reachable_condition.ReachableCondition.{ReachableCondition}
use Rattle.icu_table_data.specs.declared.reachable_condition.ReachableCondition.TheVariants as of_entry
use Rattle.icu_table_entries.specs.Elements.{Element}
use Rattle.icu_table_data.specs.Data.{Context, Data}
use Rattle.icu_table_data.specs.Contexts.{has_ascending_mappings}
use Rattle.icu_table_provider.specs.Diacritics.{IsDiacritics}
use Rattle.icu_table_provider.specs.Jamo.{IsJamo}
use Rattle.icu_table_data.specs.DataConditions.{avoids_diacritics}
use Rattle.icu_table_data.specs.ReachableConditions.{meets}
use Rattle.icu_table_provider.specs.Metadata.{has_tailored_diacritics}
use Rattle.icu_table_provider.specs.Reorderings.{Reordering}
use Rattle.icu_table_provider.specs.SpecialPrimaries.{IsSpecialPrimaries}
use Rattle.icu_table_provider.specs.declared.well_formed.condition.Condition.{Condition}
use Rattle.icu_table_provider.specs.declared.well_formed.condition.Condition.TheVariants as conditions
use Rattle.icu_table_provider.specs.declared.well_formed.condition.ReachableElementCondition.{ReachableElementCondition}
use Rattle.icu_table_provider.specs.declared.well_formed.condition.ReachableElementCondition.TheVariants as of_element
use Rattle.icu_table_provider.specs.declared.well_formed.condition.PairCondition.{PairCondition}
use Rattle.icu_table_provider.specs.declared.well_formed.condition.PairCondition.TheVariants as of_pair
use Rattle.icu_table_provider.specs.declared.well_formed.condition.LeadCondition.{LeadCondition}
use Rattle.icu_table_provider.specs.declared.well_formed.condition.LeadCondition.TheVariants as of_lead
use Rattle.icu_table_provider.specs.CollatorTables.{CollatorTables}
use Rattle.icu_table_provider.specs.well_formed.ReachableElements.{IsReachableBy, IsElementBy}
use Rattle.icu_table_provider.specs.well_formed.ElementConditions.{reachable_element_meets}
use Rattle.icu_table_provider.specs.well_formed.PairConditions.{AreOverlapping}
use Rattle.icu_table_provider.specs.well_formed.PairConditions.{PairMeets}
use Rattle.icu_table_provider.specs.well_formed.LeadConditions.{LeadMeets}

-- ---- what each table shows by itself

-- the mappings of each context ascend
abbrev pub HasAscendingContexts : Data → Type 0
HasAscendingContexts home = All (λ (x : Context). IsTrue (has_ascending_mappings x)) home.contexts

-- a new lead byte for each of the 256 lead bytes
pub record IsReordering (r : Reordering) : Type 0 where
  pub count : length r.leads ≡ 256
  pub bytes : All (λ b. b < 256) r.leads

-- what the constructors of the tables check
pub record AreTables (all : CollatorTables) : Type 0 where
  pub root : HasAscendingContexts all.tables.root
  pub tailoring : ForSome all.tables.tailoring HasAscendingContexts
  pub jamo : IsJamo all.tables.jamo
  pub diacritics : IsDiacritics all.tables.diacritics
  pub special : IsSpecialPrimaries all.special.last all.special.numeric
  pub reordering : ForSome all.reordering IsReordering

-- ---- what they show together

-- 79 diacritics, or at most so many where they are tailored
abbrev pub HasDiacriticCount : CollatorTables → Type 0
HasDiacriticCount all = IsTrue (length all.tables.diacritics == 79 || has_tailored_diacritics all.bits)

-- P holds of each entry that is reachable by the table, with its home and its character
abbrev pub EachEntry : (Data → ℕ → ℕ → Type 0) → DataTable → CollatorTables → Type 0
EachEntry P table all = (home : Data) (c e : ℕ) → IsReachableBy table all.tables home c e → P home c e

-- P holds of each element that is reachable by the table
abbrev pub EachElement : (Element → Type 0) → DataTable → CollatorTables → Type 0
EachElement P table all = (x : Element) → IsElementBy table all.tables x → P x

-- P holds of each element of one table with each of another
abbrev pub EachPair : (Element → Element → Type 0) → DataTable → DataTable → CollatorTables → Type 0
EachPair P first second all = EachElement (λ x. EachElement (λ y. P x y) second all) first all

-- an entry of a home meets a condition on entries, with a character
abbrev pub EntryMeets : ReachableCondition → Data → ℕ → ℕ → Type 0
EntryMeets condition home c e = IsTrue (meets condition home c e)

-- no mapping of a prefix has a diacritic
abbrev pub HasPlainMappings : CollatorTables → Data → ℕ → ℕ → Type 0
HasPlainMappings all home c e = IsTrue (avoids_diacritics (length all.tables.diacritics) home e)

-- each condition, of all that is reachable
abbrev pub Meets : Condition → CollatorTables → Type 0
Meets conditions.DiacriticCount all = HasDiacriticCount all
Meets (conditions.Entry condition) all = (table : DataTable) → EachEntry (EntryMeets condition) table all
Meets conditions.PrefixMappings all = (table : DataTable) → EachEntry (HasPlainMappings all) table all
Meets (conditions.Element condition) all = (table : DataTable) → EachElement (λ x. IsTrue (reachable_element_meets condition all x)) table all
Meets (conditions.Pair condition) all = (first second : DataTable) → EachPair (PairMeets condition all) first second all
Meets (conditions.Lead condition) all = LeadMeets condition all

-- the conditions on all tables of a collator
pub record IsWellFormedTables (all : CollatorTables) : Type 0 where
  pub tables : AreTables all
  pub each : (condition : Condition) → Meets condition all

-- ---- what an error says

-- the kind by which a condition is reported
abbrev pub reported_kind : Condition → DataErrorKind
reported_kind conditions.DiacriticCount = kinds.Length
reported_kind (conditions.Entry of_entry.Indices) = kinds.Index
reported_kind (conditions.Entry of_entry.PrefixMappings) = kinds.Context
reported_kind (conditions.Entry of_entry.Chains) = kinds.Chain
reported_kind (conditions.Entry of_entry.Digits) = kinds.Digit
reported_kind (conditions.Entry of_entry.Bytes) = kinds.Tag
reported_kind (conditions.Entry _) = kinds.Element
reported_kind conditions.PrefixMappings = kinds.Context
reported_kind (conditions.Element of_element.MiddleLead) = kinds.Reordering
reported_kind (conditions.Element of_element.ImplicitLength) = kinds.Overlap
reported_kind (conditions.Element of_element.NumericLead) = kinds.Overlap
reported_kind (conditions.Element of_element.SharedLead) = kinds.Reordering
reported_kind (conditions.Element of_element.SecondByte) = kinds.Compression
reported_kind (conditions.Element _) = kinds.Element
reported_kind (conditions.Pair of_pair.TertiaryElementWeights) = kinds.Element
reported_kind (conditions.Pair of_pair.Compression) = kinds.Compression
reported_kind (conditions.Pair _) = kinds.Overlap
reported_kind (conditions.Lead of_lead.NumericWhole) = kinds.Compression
reported_kind (conditions.Lead _) = kinds.Reordering

-- the order in which tables are named
abbrev pub table_rank : DataTable → ℕ
table_rank tables.Root = 0
table_rank tables.Jamo = 1
table_rank tables.SpecialPrimaries = 2
table_rank tables.Metadata = 3
table_rank tables.Tailoring = 4
table_rank tables.Reordering = 5
table_rank tables.Diacritics = 6

-- the later of two tables: a condition between them is named by it
abbrev pub later : DataTable → DataTable → DataTable
later a b = if nat_lt (table_rank a) (table_rank b) then b else a

-- the table that a condition on elements speaks of beside their own
abbrev pub table_of_element : ReachableElementCondition → DataTable
table_of_element of_element.BackwardLead = tables.Metadata
table_of_element of_element.MiddleLead = tables.Reordering
table_of_element of_element.NumericLead = tables.SpecialPrimaries
table_of_element of_element.SharedLead = tables.Reordering
table_of_element of_element.SecondByte = tables.SpecialPrimaries
table_of_element _ = tables.Root

-- the table that a condition on lead bytes speaks of
abbrev pub table_of_lead : LeadCondition → DataTable
table_of_lead of_lead.NumericWhole = tables.SpecialPrimaries
table_of_lead _ = tables.Reordering

-- The table by which an overlap of a primary weight of one table and one of another is named. It is the later one of
-- the two if the weights overlap as they stand, and the reordering if they overlap only by it.
pub record IsOverlapTable (first second : DataTable) (p q : ℕ) (table : DataTable) : Type 0 where
  pub before : AreOverlapping p q → table ≡ later first second
  pub after : (AreOverlapping p q → ⊥) → table ≡ tables.Reordering

-- the table by which a condition on an element of one table and one of another is named
abbrev pub IsNamedBy : PairCondition → DataTable → DataTable → Element → Element → DataTable → Type 0
IsNamedBy of_pair.Compression first second x y table = table ≡ tables.Reordering
IsNamedBy of_pair.Primaries first second x y table = IsOverlapTable first second x.primary y.primary table
IsNamedBy _ first second x y table = table ≡ later first second

-- the condition, as far as this table takes part in it
abbrev pub MeetsBy : Condition → DataTable → CollatorTables → Type 0
MeetsBy conditions.DiacriticCount table all = table ≡ tables.Diacritics → HasDiacriticCount all
MeetsBy (conditions.Entry condition) table all = EachEntry (EntryMeets condition) table all
MeetsBy conditions.PrefixMappings table all = table ≡ tables.Diacritics → Meets conditions.PrefixMappings all
MeetsBy (conditions.Element condition) table all =
    (own : DataTable) → table ≡ later own (table_of_element condition) → EachElement (λ x. IsTrue (reachable_element_meets condition all x)) own all
MeetsBy (conditions.Pair condition) table all =
    (first second : DataTable) → EachPair (λ x y. IsNamedBy condition first second x y table → PairMeets condition all x y) first second all
MeetsBy (conditions.Lead condition) table all = table ≡ table_of_lead condition → LeadMeets condition all

-- a condition of this kind fails, and this table takes part in it
pub record FailsBy (table : DataTable) (kind : DataErrorKind) (all : CollatorTables) : Type 0 where
  pub condition : Condition
  pub of_kind : reported_kind condition ≡ kind
  pub fails : MeetsBy condition table all → ⊥

-- The error is true. That memory ran out says nothing of the tables.
abbrev pub IsTrueError : CollatorTables → DataError → Type 0
IsTrueError all e = (e.kind ≡ kinds.NoMemory) ⊎ FailsBy e.table e.kind all
