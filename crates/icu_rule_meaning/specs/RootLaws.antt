-- What rules leave of the root.
use Rattle.std.specs.Prelude.{ℕ, Bool, false, ◌==◌, ◌≡◌, List, [], ◌∷◌}
use Rattle.std.specs.List.{list_any, AllByRecursion}
use Rattle.unicode_normalization.specs.Forms.{nfd}
use Rattle.icu_rule_meaning.specs.Rules.{Rule, reset, relation, suppression, setting, have_character}
use Rattle.icu_rule_meaning.specs.TailoredRoots.{Root}
use Rattle.icu_rule_meaning.specs.TailoredMappings.{root_mappings, symbolic_elements}
use Rattle.icu_rule_meaning.specs.Steps.{tailoring_of}

-- the string begins with the character
abbrev pub string_begins : ℕ → List ℕ → Bool
string_begins c [] = false
string_begins c (d ∷ string) = c == d

-- the rule changes mappings of the character: it begins the decomposed string, or its contractions are suppressed
abbrev pub touches : ℕ → Rule → Bool
touches c (reset before place) = false
touches c (relation strength prefix string extension) = string_begins c (nfd string)
touches c (suppression ranges) = have_character ranges c
touches c (setting s) = false

-- none of the rules changes mappings of the character
abbrev pub IsUntouched : List Rule → ℕ → Type 0
IsUntouched rules c = list_any (touches c) rules ≡ false

-- a text without a character that the rules touch has the elements that it has in the root
abbrev pub UntouchedTextsKeepElements : Type 0
UntouchedTextsKeepElements = (root : Root) (rules : List Rule) (text : List ℕ)
    → AllByRecursion (IsUntouched rules) (nfd text)
    → symbolic_elements (tailoring_of root rules).mappings (nfd text)
    ≡ symbolic_elements (root_mappings root) (nfd text)
