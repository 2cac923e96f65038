-- The elements of a root whose weights stand in its order, and their weights level by level (UTS #35 part 5, "Root
-- Collation").
use Rattle.std.specs.Prelude.{ℕ, ◌≡◌, ◌≢◌, ◌<◌, ◌⊎◌, List, [], ◌∷◌, false, IsTrue}
use Rattle.std.specs.Char.{IsScalar}
use Rattle.std.specs.List.{Contains}
use Rattle.icu_table_entries.specs.Elements.{Element}
use Rattle.icu_table_entries.specs.ElementConditions.{separator_primary}
use Rattle.icu_table_data.specs.Data.{Data, homed}
use Rattle.icu_table_data.specs.Final.{final_elements}
use Rattle.icu_table_data.specs.CollectedWeights.{is_stated}
use Rattle.icu_table_data.specs.Reachable.{reachable_at, reachable_from}
use Rattle.icu_table_provider.specs.Tables.{Tables, is_jamo}
use Rattle.icu_table_provider.specs.ReachableTables.{jamo_entry}
use Rattle.icu_table_provider.specs.well_formed.ReachableElements.{IsOfReachableDiacritic}
use Rattle.icu_rule_meaning.specs.SymbolicElements.{tertiary_of}

-- An element that one of these entries states with a character. Those of entries for implicit weights (UTS #10,
-- "Implicit Weights") aren't stated: no rule may name them, and there are a million.
pub record IsStatedBy (home : Data) (c : ℕ) (es : List ℕ) (x : Element) : Type 0 where
  pub entry : ℕ
  pub reachable : Contains es entry
  pub stated : IsTrue (is_stated home c entry)
  pub given : Contains (final_elements (homed home entry) c) x

-- an element of an entry that is reachable with a character in the root
pub record IsStatedInRoot (tables : Tables) (x : Element) : Type 0 where
  pub char : ℕ
  pub scalar : IsScalar char
  pub stated : IsStatedBy tables.root char (reachable_at false tables.root char) x

-- an element of an entry that is reachable with a conjoining jamo by their table
pub record IsStatedByJamo (tables : Tables) (x : Element) : Type 0 where
  pub char : ℕ
  pub jamo : IsTrue (is_jamo char)
  pub stated : IsStatedBy tables.root char (reachable_from tables.root (jamo_entry tables char)) x

-- an element of the root of tables: one that the root or the table of jamo states, or that of a diacritic
abbrev pub IsRootElement : Tables → Element → Type 0
IsRootElement tables x = IsStatedInRoot tables x ⊎ (IsStatedByJamo tables x ⊎ IsOfReachableDiacritic tables.diacritics x)

-- the least of the primary weights that are implicit, or above these: no rule may name one
abbrev pub first_implicit_lead : ℕ
first_implicit_lead = 0xFE000000

-- The weight of a level that the element has below these weights of the levels before. The primary weights that count
-- stand between the separator's, which parts fields, and the implicit ones. Below three weights the root has none.
abbrev pub StandsBelow : List ℕ → ℕ → Element → Type 0
StandsBelow [] w x = (x.primary ≡ w) × (separator_primary < w) × (w < first_implicit_lead)
StandsBelow (p ∷ []) w x = (x.primary ≡ p) × (x.secondary ≡ w) × (w ≢ 0)
StandsBelow (p ∷ s ∷ []) w x = (x.primary ≡ p) × (x.secondary ≡ s) × (tertiary_of x ≡ w) × (w ≢ 0)
StandsBelow (p ∷ s ∷ t ∷ above) w x = ⊥

-- a weight that stands below these in the root of tables
pub record IsRootWeight (tables : Tables) (above : List ℕ) (w : ℕ) : Type 0 where
  pub element : Element
  pub of_root : IsRootElement tables element
  pub below : StandsBelow above w element
