-- Marks that join a match.
use Rattle.std.specs.Prelude.{◌≡◌, ℕ, Bool, true, false, List, [], ◌∷◌, ◌++◌, max, Some, None}
use Rattle.ucd_normal.specs.CanonicalCombiningClass.{canonical_combining_class as class_of}
use Rattle.icu_table_data.specs.Data.{Mapping, mapping_entry}
use Rattle.icu_element_matches.specs.Matches.{Match, with_marks}
use Rattle.icu_element_matches.specs.declared.matched.Matched.{Matched}

-- the greatest combining class of these characters
unfoldable pub greatest_class : List ℕ → ℕ
greatest_class [] = 0
greatest_class (m ∷ ms) = max (class_of m) (greatest_class ms)

-- the match that it becomes by the marks of this text, behind those that were passed over
abbrev pub match_behind : List Mapping → Matched → List ℕ → List ℕ → Match
match_behind mappings m passed text = with_marks mappings m.ce32 m.suffix.items passed text

-- the mark joins, which makes a mapping; or it doesn't, and nothing changes
abbrev pub Joins : List Mapping → ℕ → Matched → Matched → Bool → Type 0
Joins mappings m old new true = (mapping_entry mappings (old.suffix.items ++ m ∷ []) ≡ Some new.ce32) × (new.suffix.items ≡ old.suffix.items ++ m ∷ [])
Joins mappings m old new false = (mapping_entry mappings (old.suffix.items ++ m ∷ []) ≡ None) × (new.ce32 ≡ old.ce32) × (new.suffix.items ≡ old.suffix.items)
