-- The root that rules are read over, as tables of a collator have it (UTS #35 part 5, "Root Collation").
use Rattle.std.specs.Prelude.{ℕ, ◌≡◌, ◌+◌, ◌↔◌, Bool, ◌&&◌, bytes_eq, if◌then◌else◌, List, [], ◌∷◌, Option, Some, None, unwrap_or}
use Rattle.std.specs.List.{Contains}
use Rattle.std.specs.List.Sorted.{IsStrictlyIncreasing}
use Rattle.icu_options.specs.Metadata.{max_variable_of}
use Rattle.icu_table_entries.specs.Elements.{Element}
use Rattle.icu_table_provider.specs.CollatorTables.{CollatorTables}
use Rattle.icu_table_provider.specs.SpecialPrimaries.{last_primary}
use Rattle.icu_rule_meaning.specs.TailoredRoots.{RootMapping, Root, last_below}
use Rattle.icu_rule_root.specs.RootEntries.{root_mappings_of}
use Rattle.icu_rule_root.specs.RootElements.{IsRootWeight}

-- the mapping has this suffix, and no prefix
abbrev pub has_suffix_alone : List ℕ → RootMapping → Bool
has_suffix_alone suffix m = bytes_eq m.prefix [] && bytes_eq m.suffix suffix

-- the elements of the mapping with this suffix and no prefix
unfoldable pub elements_of_suffix : List ℕ → List RootMapping → Option (List Element)
elements_of_suffix suffix [] = None
elements_of_suffix suffix (m ∷ mappings) =
    if has_suffix_alone suffix m then Some m.elements else elements_of_suffix suffix mappings

-- the primary weight of the first of elements; 0 where there is none
abbrev pub leading_primary : List Element → ℕ
leading_primary [] = 0
leading_primary (x ∷ xs) = x.primary

-- the leading primary weight of elements, if there are some, or another weight
abbrev pub leading_or : ℕ → Option (List Element) → ℕ
leading_or other None = other
leading_or other (Some xs) = leading_primary xs

-- the greatest of ascending weights that is less; 0 where there is none
abbrev pub below_or_zero : List ℕ → ℕ → ℕ
below_or_zero weights w = unwrap_or (last_below None weights w) 0

-- the last primary weight of the groups that may be variable, as metadata say it, whatever rules say
abbrev pub last_variable_of : CollatorTables → List ℕ → ℕ
last_variable_of all weights = below_or_zero weights (last_primary all.special (max_variable_of all.bits) + 1)

-- the primary weight of `[first implicit]`: that of U+4E00
abbrev pub first_implicit_of : (ℕ → List RootMapping) → ℕ
first_implicit_of mappings = leading_or 0 (elements_of_suffix [] (mappings 0x4E00))

-- The primary weight of `[last regular]`: that from which on ideographs have theirs, which is of U+FDD1 with U+5B57
-- behind it, or else the last one before that of U+4E00.
abbrev pub last_regular_of : (ℕ → List RootMapping) → List ℕ → ℕ
last_regular_of mappings weights =
    leading_or (below_or_zero weights (first_implicit_of mappings)) (elements_of_suffix (0x5B57 ∷ []) (mappings 0xFDD1))

-- This is the root of the tables. The weights below others are those that its elements have there, ascending, each
-- once.
pub record IsRootOf (all : CollatorTables) (root : Root) : Type 0 where
  pub mappings : root.mappings ≡ root_mappings_of all.tables
  pub ascending : (above : List ℕ) → IsStrictlyIncreasing (root.weights above)
  pub weights : (above : List ℕ) (w : ℕ) → Contains (root.weights above) w ↔ IsRootWeight all.tables above w
  pub last_variable : root.last_variable ≡ last_variable_of all (root.weights [])
  pub last_regular : root.last_regular ≡ last_regular_of root.mappings (root.weights [])
  pub first_implicit : root.first_implicit ≡ first_implicit_of root.mappings

-- a secondary weight of the root, below some primary weight
pub record IsSecondaryOfRoot (root : Root) (w : ℕ) : Type 0 where
  pub primary : ℕ
  pub stands : Contains (root.weights (primary ∷ [])) w

-- a tertiary weight of the root, below some primary and secondary weight
pub record IsTertiaryOfRoot (root : Root) (w : ℕ) : Type 0 where
  pub primary : ℕ
  pub secondary : ℕ
  pub stands : Contains (root.weights (primary ∷ secondary ∷ [])) w

-- all numbers of which something holds, ascending, each once
pub record AreAll (P : ℕ → Type 0) (ws : List ℕ) : Type 0 where
  pub ascending : IsStrictlyIncreasing ws
  pub members : (w : ℕ) → Contains ws w ↔ P w

-- a primary weight below those of all characters without one of their own (UTS #10, "Implicit Weights")
abbrev pub least_without_own : ℕ
least_without_own = 0xFE040202
