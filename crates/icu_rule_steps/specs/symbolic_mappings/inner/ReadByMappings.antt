-- What reading a character changes.
use Rattle.std.specs.Prelude.{◌≡◌, ℕ, List, [], ◌∷◌, ◌++◌, Option, Some, None, reverse, take}
use Rattle.icu_rule_meaning.specs.declared.symbolic.SymbolicElement.{SymbolicElement}
use Rattle.icu_rule_meaning.specs.TailoredMappings.{SymbolicMapping, beginnings, context_behind, mappings_behind, match_by}

-- the characters that a match consumes after its first
abbrev pub suffix_of : Option SymbolicMapping → List ℕ
suffix_of None = []
suffix_of (Some m) = m.suffix

-- the elements of a match
abbrev pub elements_of_match : Option SymbolicMapping → List SymbolicElement
elements_of_match None = []
elements_of_match (Some m) = m.elements

-- a match is added to what was read
pub record AddsMatch (found : Option SymbolicMapping) (c : ℕ) (before before' : List ℕ) (elements elements' : List SymbolicElement) : Type 0 where
  pub context : before' ≡ take 2 (reverse (c ∷ suffix_of found) ++ before)
  pub added : elements' ≡ elements ++ elements_of_match found

-- a character is read by its mappings
pub record ReadsCharacter (mappings : List SymbolicMapping) (c : ℕ) (before before' text text' : List ℕ) (elements elements' : List SymbolicElement) : Type 0 where
  pub context : before' ≡ context_behind before c (match_by (mappings_behind mappings (beginnings before)) text)
  pub left : text' ≡ (match_by (mappings_behind mappings (beginnings before)) text).rest
  pub added : elements' ≡ elements ++ (match_by (mappings_behind mappings (beginnings before)) text).elements
