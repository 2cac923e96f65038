-- The table of diacritics.
use Rattle.std.specs.Prelude.{ℕ, ◌≤◌, ◌<◌, Bool, true, not, ◌&&◌, ◌||◌, ◌==◌, List, length, slice_index, IsTrue}
use Rattle.icu_table_entries.specs.declared.error.DataErrorKind.{DataErrorKind}
use Rattle.icu_table_entries.specs.declared.error.DataErrorKind.TheVariants as kinds
use Rattle.icu_table_entries.specs.Elements.{of_secondary}
use Rattle.icu_table_entries.specs.ElementConditions.{has_shape, has_leads}

-- U+0340, U+0341, U+0343 and U+0344, by their indices from U+0300 on: no canonical decomposition has them
abbrev pub is_replaced_index : ℕ → Bool
is_replaced_index i = i == 0x40 || i == 0x41 || i == 0x43 || i == 0x44

-- a secondary weight that a diacritic may have
unfoldable pub is_diacritic_weight : Bool → ℕ → Bool
is_diacritic_weight forward s = not (s == 0) && has_shape (of_secondary s) && has_leads forward (of_secondary s)

-- each weight is one that a diacritic may have, but for the four that are never read
abbrev pub HasDiacriticWeights : Bool → List ℕ → Type 0
HasDiacriticWeights forward secondaries =
    (i : ℕ) → i < length secondaries → IsTrue (is_replaced_index i || is_diacritic_weight forward (slice_index secondaries i))

-- the greatest number of diacritics that have a table of their own
abbrev pub diacritics_max_count : ℕ
diacritics_max_count = 79

-- the secondary weights of at most so many diacritics, from U+0300 on
pub record IsDiacritics (secondaries : List ℕ) : Type 0 where
  pub count : length secondaries ≤ diacritics_max_count
  pub weights : HasDiacriticWeights true secondaries

-- a condition of this kind fails
abbrev pub FailsDiacritics : List ℕ → DataErrorKind → Type 0
FailsDiacritics secondaries kinds.Length = ¬ (length secondaries ≤ diacritics_max_count)
FailsDiacritics secondaries kinds.Element = ¬ (HasDiacriticWeights true secondaries)
FailsDiacritics secondaries _ = ⊥
