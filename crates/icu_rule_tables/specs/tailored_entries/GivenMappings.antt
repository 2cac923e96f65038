-- What a tailoring gives for the mappings of characters (UTS #35 part 5, "Context-Sensitive Mappings"; UTS #10,
-- "Expansions" and "Contractions").
use Rattle.std.specs.Prelude.{ℕ, ◌≡◌, ◌⊎◌, ◌&&◌, Bool, true, List, [], ◌∷◌, map, Option, Some, None, is_some, MatchBool}
use Rattle.std.specs.List.{list_all, list_any}
use Rattle.ucd_perl.specs.Perl.{is_digit_char}
use Rattle.icu_table_entries.specs.Elements.{Element}
use Rattle.icu_table_entries.specs.Entries.{fallback_entry}
use Rattle.icu_table_entries.specs.declared.entry.EntryKind.TheVariants.{Prefix, Contraction}
use Rattle.icu_table_entries.specs.EncodedEntries.{of_weights}
use Rattle.icu_table_data.specs.Data.{Data}
use Rattle.icu_table_mappings.specs.DigitEntries.{IsDigitEntry, decimal_value}
use Rattle.icu_table_mappings.specs.Given.{LeadsJust, Spells}
use Rattle.icu_rule_meaning.specs.declared.symbolic.SymbolicElement.{SymbolicElement}
use Rattle.icu_rule_meaning.specs.TailoredMappings.{SymbolicMapping, beginnings, has_no_context, mapping_with, mappings_behind, stands_after_prefix}
use Rattle.icu_rule_meaning.specs.TailoredRoots.{RootMapping}
use Rattle.icu_rule_weights.specs.tailoring_numbers.NumberedElements.{fits_element, numbered_element}
use Rattle.icu_rule_weights.specs.declared.tailoring_numbers.tailoring_numbers.TailoringNumbers.{TailoringNumbers}
use Rattle.icu_rule_steps.specs.symbolic_mappings.KeptMappings.{mappings_in}
use Rattle.icu_rule_steps.specs.symbolic_mappings.TouchedCharacters.{has_own_mappings}
use Rattle.icu_rule_steps.specs.declared.symbolic_mappings.kept_mappings.Mappings.{Mappings}

-- the elements that a table has for some: those, or, for none, one without weights
abbrev pub or_without_weights : List Element → List Element
or_without_weights [] = of_weights 0 0 0 ∷ []
or_without_weights (x ∷ xs) = x ∷ xs

-- the elements with numbers that a table has for symbolic ones
abbrev pub numbered_elements : TailoringNumbers → List SymbolicElement → List Element
numbered_elements t es = or_without_weights (map (numbered_element t) es)

-- no weight of these elements is too great for its level
abbrev pub all_fit : TailoringNumbers → List SymbolicElement → Bool
all_fit t es = list_all (fits_element t) es

-- nor one of the elements of these mappings
abbrev pub mappings_fit : TailoringNumbers → List SymbolicMapping → Bool
mappings_fit t mappings = list_all (λ (m : SymbolicMapping). all_fit t m.elements) mappings

-- The entry of a mapping of a character: it spells the elements with numbers. Of a digit by itself it is a digit entry
-- with its value, which names one that spells them.
pub record IsMappingEntry (t : TailoringNumbers) (d : Data) (c : ℕ) (m : SymbolicMapping) (e : ℕ) : Type 0 where
  pub letter : ℕ
  pub spells : Spells d letter (numbered_elements t m.elements)
  pub fits : all_fit t m.elements ≡ true
  pub digit : MatchBool (has_no_context m && is_digit_char c) (IsDigitEntry d (decimal_value c) letter e) (e ≡ letter)

-- these characters are the prefix of one of the mappings, or there are none of them
abbrev pub IsPrefixOfSome : List SymbolicMapping → List ℕ → Type 0
IsPrefixOfSome mappings before = (before ≡ []) ⊎ (list_any (stands_after_prefix before) mappings ≡ true)

-- What stands for a mapping before a suffix: its entry. Where none counts there is nothing; a character that has no
-- mapping before nothing has some entry there.
abbrev pub StandsFor : TailoringNumbers → Data → ℕ → List ℕ → Option SymbolicMapping → Option ℕ → Type 0
StandsFor t d c after None None = Unit {0}
StandsFor t d c after None (Some e) = after ≡ []
StandsFor t d c after (Some m) None = ⊥
StandsFor t d c after (Some m) (Some e) = IsMappingEntry t d c m e

-- the entry e of a character, once its prefix is decided: before each suffix it comes to what stands for the first of
-- the mappings with just that suffix, and to nothing else
pub record StandsForMappings (t : TailoringNumbers) (d : Data) (c : ℕ) (mappings : List SymbolicMapping) (e : ℕ) : Type 0 where
  pub found : List ℕ → Option ℕ
  pub leads : LeadsJust Contraction d e found
  pub stands : (after : List ℕ) → StandsFor t d c after (mapping_with mappings after) (found after)

-- The entry e of a character gives just its mappings: after the prefix of each of them, and after none, the nearest
-- character first, it comes to an entry. After whatever it does, this stands for those that count there. No weight of
-- their elements is too great for its level.
pub record GivesMappings (t : TailoringNumbers) (d : Data) (c : ℕ) (mappings : List SymbolicMapping) (e : ℕ) : Type 0 where
  pub behind : List ℕ → Option ℕ
  pub prefix : LeadsJust Prefix d e behind
  pub prefixes : (before : List ℕ) → IsPrefixOfSome mappings before → is_some (behind before) ≡ true
  pub suffixes : (before : List ℕ) (b : ℕ) → behind before ≡ Some b
      → StandsForMappings t d c (mappings_behind mappings (beginnings before)) b
  pub fit : mappings_fit t mappings ≡ true

-- The entry of a character that has mappings of its own gives these. For each other one the root's entry stands.
abbrev pub TailorsCharacter : {R : Type 0} → (R → ℕ → List RootMapping) → TailoringNumbers → Mappings R → Data → ℕ → Type 0
TailorsCharacter mappings_of t m d c =
    MatchBool (has_own_mappings mappings_of m c) (GivesMappings t d c (mappings_in mappings_of m c) (d.value c))
    (d.value c ≡ fallback_entry)
