-- The theorem on the elements of all texts by tables that were checked.
use Rattle.std.specs.Prelude.{ℕ, ◌≡◌, ◌⊎◌, Bool, List, Option, Some}
use Rattle.std.specs.List.{AllByRecursion, Contains}
use Rattle.unicode_normalization.specs.Forms.{nfd}
use Rattle.icu_order_levels.specs.Numbers.{run_weights}
use Rattle.icu_table_entries.specs.declared.error.DataTable.{DataTable}
use Rattle.icu_table_entries.specs.Elements.{Element, of_primary}
use Rattle.icu_table_provider.specs.Tables.{Tables}
use Rattle.icu_table_provider.specs.CollatorTables.{CollatorTables}
use Rattle.icu_table_provider.specs.well_formed.WellFormedTables.{IsWellFormedTables}
use Rattle.icu_table_provider.specs.well_formed.ReachableElements.{IsElementBy}
use Rattle.icu_element_reading.specs.TextElements.{Reading, elements_of}
use Rattle.icu_element_reading.specs.TextParts.{AreDigits}
use Rattle.icu_element_reading.specs.TextElementLaws.{IsText}

-- reachable by one of the tables
pub record IsReachableElement (tables : Tables) (x : Element) : Type 0 where
  pub table : DataTable
  pub reachable : IsElementBy table tables x

-- of one of the weights of a run of digits, where digits are read as numbers
pub record IsNumberElement (numeric : Option ℕ) (x : Element) : Type 0 where
  pub lead : ℕ
  pub digits : List ℕ
  pub weight : ℕ
  pub is_numeric : numeric ≡ Some lead
  pub decimal : AreDigits digits
  pub member : Contains (run_weights lead digits) weight
  pub element : x ≡ of_primary weight

-- an element that a text has by tables that were checked
abbrev pub IsReachableOrNumber : Reading → Element → Type 0
IsReachableOrNumber reading x = IsReachableElement reading.tables x ⊎ IsNumberElement reading.numeric x

-- how a text is read by the tables of a collator
abbrev pub collator_reading : CollatorTables → Option ℕ → Bool → Reading
collator_reading all numeric lithuanian = record { tables = all.tables; numeric = numeric; lithuanian = lithuanian }

-- each element of each text is reachable by one of the tables, or of a number
abbrev pub WellFormedTablesGiveReachableElements : Type 0
WellFormedTablesGiveReachableElements =
    (all : CollatorTables) (numeric : Option ℕ) (lithuanian : Bool) → IsWellFormedTables all
    → (cs : List ℕ) → IsText cs
    → AllByRecursion (IsReachableOrNumber (collator_reading all numeric lithuanian)) (elements_of (collator_reading all numeric lithuanian) (nfd cs))
