-- The conditions on entries that are reachable in a root or a tailoring.
use Rattle.std.specs.Prelude.{ℕ, ◌≡◌, ◌<◌, Bool, not, ◌&&◌, List, [], ◌∷◌, find, Option, IsTrue}
use Rattle.std.specs.List.{list_all}
use Rattle.icu_table_entries.specs.declared.error.DataErrorKind.{DataErrorKind}
use Rattle.icu_table_entries.specs.declared.error.DataErrorKind.TheVariants as kinds
use Rattle.icu_table_data.specs.declared.reachable_condition.ReachableCondition.{ReachableCondition}
use Rattle.icu_table_data.specs.declared.reachable_condition.ReachableCondition.TheVariants.{Indices, PrefixMappings, Chains, Digits, Bytes, Offsets, Shapes, Leads, Primaries}
use Rattle.icu_table_entries.specs.declared.element_conditions.ElementCondition.{ElementCondition}
use Rattle.icu_table_entries.specs.declared.element_conditions.ElementCondition.TheVariants as of_element
use Rattle.icu_table_entries.specs.ElementConditions.{element_meets}
use Rattle.icu_table_data.specs.DataConditions.{is_inside, has_short_mappings, leads_on, has_known_members, fits_offset}
use Rattle.icu_table_entries.specs.EntryConditions.{has_digit, has_known_byte}
use Rattle.icu_table_data.specs.Data.{Data, homed}
use Rattle.icu_table_data.specs.Final.{final_elements}
use Rattle.icu_table_data.specs.Reachable.{EachReachable}
use Rattle.icu_table_data.specs.Violations.{condition_rank}

-- each element that an entry of this home gives with the character meets the condition on elements
abbrev pub elements_meet : ElementCondition → Data → ℕ → ℕ → Bool
elements_meet condition home c e = list_all (element_meets condition) (final_elements (homed home e) c)

-- an entry of this home meets the condition where it is reachable with this character
abbrev pub meets : ReachableCondition → Data → ℕ → ℕ → Bool
meets Indices home c e = is_inside home e
meets PrefixMappings home c e = has_short_mappings home e
meets Chains home c e = leads_on home e
meets Digits home c e = has_digit e
meets Bytes home c e = has_known_byte e && has_known_members home e
meets Offsets home c e = fits_offset home c e
meets Shapes home c e = elements_meet of_element.Shape home c e
meets Leads home c e = elements_meet of_element.Leads home c e
meets Primaries home c e = elements_meet of_element.Primary home c e

-- all conditions, in the order in which they are reported
abbrev pub reachable_conditions : List ReachableCondition
reachable_conditions = Indices ∷ PrefixMappings ∷ Chains ∷ Digits ∷ Bytes ∷ Offsets ∷ Shapes ∷ Leads ∷ Primaries ∷ []

-- the first condition that the entry fails
unfoldable pub first_failing : Data → ℕ → ℕ → Option ReachableCondition
first_failing home c e = find (λ condition. not (meets condition home c e)) reachable_conditions

-- the kind of an error for a condition
abbrev pub kind_for : ReachableCondition → DataErrorKind
kind_for Indices = kinds.Index
kind_for PrefixMappings = kinds.Context
kind_for Chains = kinds.Chain
kind_for Digits = kinds.Digit
kind_for Bytes = kinds.Tag
kind_for Offsets = kinds.Element
kind_for Shapes = kinds.Element
kind_for Leads = kinds.Element
kind_for Primaries = kinds.Element

-- each entry that is reachable with a character of the code point table meets the condition
abbrev pub EachMeets : ReachableCondition → Bool → Data → Type 0
EachMeets condition falls_back home = EachReachable (λ c e. IsTrue (meets condition home c e)) falls_back home

-- each entry that is reachable with a character of the code point table meets each condition
pub record IsWellFormedData (falls_back : Bool) (home : Data) : Type 0 where
  pub each : (condition : ReachableCondition) → EachMeets condition falls_back home

-- A condition of this kind fails, and each that is reported before it is met. So an error that speaks of elements comes
-- only where the entries that are reachable can be read.
pub record FailsData (falls_back : Bool) (home : Data) (kind : DataErrorKind) : Type 0 where
  pub condition : ReachableCondition
  pub of_kind : kind_for condition ≡ kind
  pub fails : ¬ (EachMeets condition falls_back home)
  pub before : (other : ReachableCondition) → condition_rank other < condition_rank condition → EachMeets other falls_back home
