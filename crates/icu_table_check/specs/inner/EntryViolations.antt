-- The violations of entries and of elements, as a check names them.
use Rattle.std.specs.Prelude.{ℕ, ◌+◌, ◌*◌, Bool, ◌==◌, ◌&&◌, not, find, fold, length, Option, Some, None, option_map, ◌≡◌, true, false, slice_index, slice_index_or, if◌then◌else◌, IsTrue, List, ◌⊎◌}
use Rattle.std.specs.List.{AllByRecursion}
use Rattle.icu_table_entries.specs.declared.error.DataTable.{DataTable}
use Rattle.icu_table_entries.specs.declared.error.DataTable.TheVariants as tables
use Rattle.icu_table_data.specs.declared.reachable_condition.ReachableCondition.{ReachableCondition}
use Rattle.icu_table_provider.specs.Diacritics.{is_replaced_index}
use Rattle.icu_table_entries.specs.Elements.{Element, of_primary, of_secondary}
use Rattle.icu_table_entries.specs.Weights.{implicit_weight}
use Rattle.icu_table_data.specs.Data.{Data, homed}
use Rattle.icu_table_data.specs.Final.{final_elements}
use Rattle.icu_table_data.specs.Reachable.{reachable_from}
use Rattle.icu_table_data.specs.DataConditions.{avoids_diacritics, is_readable}
use Rattle.icu_table_data.specs.Violations.{earlier}
use Rattle.icu_table_data.specs.ReachableConditions.{first_failing}
use Rattle.icu_table_provider.specs.declared.well_formed.condition.Condition.TheVariants as conditions
use Rattle.icu_table_provider.specs.declared.well_formed.condition.ReachableElementCondition.{ReachableElementCondition}
use Rattle.icu_table_check.specs.declared.violation.Violation.{Violation}
use Rattle.icu_table_provider.specs.Reorderings.{Reordering, lead_byte}
use Rattle.icu_table_provider.specs.Tables.{jamo_base}
use Rattle.icu_table_provider.specs.CollatorTables.{CollatorTables, reorder_by, reorder, new_lead}
use Rattle.icu_table_provider.specs.well_formed.Leads.{is_middle}
use Rattle.icu_table_provider.specs.well_formed.ElementConditions.{has_second_byte, reachable_element_meets, element_conditions}
use Rattle.icu_table_provider.specs.well_formed.WellFormedTables.{later, table_of_element, EachEntry, EachElement, EntryMeets, HasPlainMappings}
use Rattle.icu_table_check.specs.inner.Violations.{violation_rank}

-- a condition on an element of a table, as a violation
abbrev pub of_element : DataTable → ReachableElementCondition → Violation
of_element table condition = record { condition = conditions.Element condition; table = later table (table_of_element condition) }

-- the first condition that an element fails
unfoldable pub first_condition_failed : CollatorTables → Element → Option ReachableElementCondition
first_condition_failed all x = find (λ condition. not (reachable_element_meets condition all x)) element_conditions

-- reordering takes a primary weight to a lead byte from 03 to FE, and not to that of numbers
abbrev pub is_taken_apart : CollatorTables → ℕ → Bool
is_taken_apart all p = is_middle (lead_byte (reorder all p)) && not (lead_byte (reorder all p) == new_lead all all.special.numeric)

-- it takes the first and the last weight there whose two highest bytes are the number h
abbrev pub HasEndsApart : CollatorTables → ℕ → Type 0
HasEndsApart all h = IsTrue (is_taken_apart all (h * 0x10000)) × IsTrue (is_taken_apart all (h * 0x10000 + 0xFFFF))

-- it takes these two to one lead byte
abbrev pub HasEndsTogether : CollatorTables → ℕ → Type 0
HasEndsTogether all h = lead_byte (reorder all (h * 0x10000)) ≡ lead_byte (reorder all (h * 0x10000 + 0xFFFF))

-- implicit weights fail none
abbrev pub ImplicitPasses : CollatorTables → Type 0
ImplicitPasses all = (c : ℕ) → first_condition_failed all (of_primary (implicit_weight c)) ≡ None

-- no primary weight with this lead byte fails a condition on elements, where its second byte is from 04 to FE
abbrev pub LeadPasses : CollatorTables → ℕ → Type 0
LeadPasses all lead = (p : ℕ) → lead_byte p ≡ lead → IsTrue (has_second_byte p) → first_condition_failed all (of_primary p) ≡ None

-- of the lead bytes that are marked, none does
abbrev pub AreLeadsPassing : CollatorTables → List Bool → Type 0
AreLeadsPassing all leads = (lead : ℕ) → slice_index_or leads lead false ≡ true → LeadPasses all lead

-- an element with this primary weight fails none of the conditions on primary weights
abbrev pub PrimaryPasses : CollatorTables → ℕ → Type 0
PrimaryPasses all p = (p ≡ 0) ⊎ (first_condition_failed all (of_primary p) ≡ None)

-- a reordering takes all primary weights with a lead byte to one
abbrev pub KeepsLeadTogether : Option Reordering → ℕ → Type 0
KeepsLeadTogether r b = (p q : ℕ) → lead_byte p ≡ b → lead_byte q ≡ b → lead_byte (reorder_by r p) ≡ lead_byte (reorder_by r q)

-- the first condition that an element of a table fails, as a violation
abbrev pub element_violation : CollatorTables → DataTable → Element → Option Violation
element_violation all table x = option_map (of_element table) (first_condition_failed all x)

-- the first violation so far, after one element more
abbrev pub after_element : CollatorTables → DataTable → Option Violation → Element → Option Violation
after_element all table best x = earlier violation_rank best (element_violation all table x)

-- a judge of elements, and the first violation so far, after one more
abbrev pub judged_element : (CollatorTables × DataTable) × Option Violation → Element → (CollatorTables × DataTable) × Option Violation
judged_element s x = (s.0, after_element s.0.0 s.0.1 s.1 x)

-- the first violation of the elements that an entry gives with a character
abbrev pub elements_violation : CollatorTables → DataTable → Data → ℕ → ℕ → Option Violation
elements_violation all table home c e = fold (after_element all table) None (final_elements (homed home e) c)

-- a condition on the entry itself, as a violation
abbrev pub of_entry : DataTable → ReachableCondition → Violation
of_entry table condition = record { condition = conditions.Entry condition; table = table }

-- a mapping of a prefix that has a diacritic, as a violation
abbrev pub mappings_violation : CollatorTables → Data → ℕ → Option Violation
mappings_violation all home e =
    if avoids_diacritics (length all.tables.diacritics) home e then None
    else Some (record { condition = conditions.PrefixMappings; table = tables.Diacritics })

-- The first violation of an entry that is reachable with a character. Elements that can't be read have none of their
-- own.
unfoldable pub entry_violation : CollatorTables → DataTable → Data → ℕ → ℕ → Option Violation
entry_violation all table home c e =
    earlier violation_rank (earlier violation_rank (option_map (of_entry table) (first_failing home c e)) (mappings_violation all home e))
    (if is_readable home c e then elements_violation all table home c e else None)

-- nothing that is reachable with the conjoining jamo at this place has a violation
abbrev pub JamoPasses : CollatorTables → ℕ → Type 0
JamoPasses all i =
    AllByRecursion (λ e. entry_violation all tables.Jamo all.tables.root (jamo_base + i) e ≡ None) (reachable_from all.tables.root (slice_index all.tables.jamo i))

-- the element of the diacritic at this place, if decomposed texts have it, meets the conditions on elements
abbrev pub DiacriticMeets : CollatorTables → ℕ → Type 0
DiacriticMeets all i =
    is_replaced_index i ≡ false → (condition : ReachableElementCondition)
    → IsTrue (reachable_element_meets condition all (of_secondary (slice_index all.tables.diacritics i)))

-- what is reachable by a table meets the conditions on entries, and on elements
pub record MeetsIn (table : DataTable) (all : CollatorTables) : Type 0 where
  pub entries : (condition : ReachableCondition) → EachEntry (EntryMeets condition) table all
  pub mappings : EachEntry (HasPlainMappings all) table all
  pub elements : (condition : ReachableElementCondition) → EachElement (λ x. IsTrue (reachable_element_meets condition all x)) table all

-- what is reachable by any table does
pub record ReachableMeets (all : CollatorTables) : Type 0 where
  pub root : MeetsIn tables.Root all
  pub jamo : MeetsIn tables.Jamo all
  pub tailoring : MeetsIn tables.Tailoring all
  pub diacritics : MeetsIn tables.Diacritics all
