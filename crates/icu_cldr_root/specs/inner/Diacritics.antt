-- The elements of combining marks that have a table of their own.
use Rattle.std.specs.Prelude.{◌≡◌, ℕ, List, [], ◌∷◌, false}
use Rattle.icu_table_entries.specs.Elements.{Element, of_secondary}
use Rattle.icu_table_provider.specs.Diacritics.{is_replaced_index}

-- The table of diacritics says of the mark at an index what its mapping says, unless no decomposition has the mark.
abbrev pub SaysOfMark : ℕ → List Element → ℕ → Type 0
SaysOfMark index elements secondary = is_replaced_index index ≡ false → elements ≡ of_secondary secondary ∷ []
