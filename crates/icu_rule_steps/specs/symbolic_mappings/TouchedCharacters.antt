-- Which characters have mappings of their own, and which rules give them these.
use Rattle.std.specs.Prelude.{ℕ, Bool, false, not, ◌≡◌, ◌==◌, ◌||◌, ◌&&◌, List, [], ◌++◌}
use Rattle.std.specs.List.{list_any, flat_map}
use Rattle.std.specs.Option.{is_some}
use Rattle.std.specs.Ordering.{nat_cmp}
use Rattle.std.specs.BTreeMap.{get}
use Rattle.unicode_normalization.specs.Forms.{nfd}
use Rattle.icu_rule_parser.specs.declared.statement.CharacterRange.{CharacterRange}
use Rattle.icu_rule_meaning.specs.Rules.{Rule, reset, relation, suppression, setting, have_character, is_scalar}
use Rattle.icu_rule_meaning.specs.RootLaws.{string_begins}
use Rattle.icu_rule_meaning.specs.TailoredRoots.{RootMapping}
use Rattle.icu_rule_meaning.specs.TailoredMappings.{has_no_context, mapping_of_root}
use Rattle.icu_rule_steps.specs.declared.symbolic_mappings.character_mapping.TouchedCharacter.{TouchedCharacter}
use Rattle.icu_rule_steps.specs.declared.symbolic_mappings.kept_mappings.Mappings.{Mappings}

-- the rule is a relation of a string that, decomposed, begins with the character
abbrev pub relates : ℕ → Rule → Bool
relates c (reset before place) = false
relates c (relation strength prefix string extension) = string_begins c (nfd string)
relates c (suppression ranges) = false
relates c (setting s) = false

-- one of the rules is such a relation
abbrev pub is_related : List Rule → ℕ → Bool
is_related rules c = list_any (relates c) rules

-- the ranges of characters whose contractions a rule suppresses
abbrev pub suppressed_ranges : Rule → List CharacterRange
suppressed_ranges (reset before place) = []
suppressed_ranges (relation strength prefix string extension) = []
suppressed_ranges (suppression ranges) = ranges
suppressed_ranges (setting s) = []

-- those of rules, in turn
abbrev pub suppressed_by : List Rule → List CharacterRange
suppressed_by = flat_map suppressed_ranges

-- one of the mappings depends on what stands around the character
abbrev pub have_context : List RootMapping → Bool
have_context mappings = list_any (λ m. not (has_no_context (mapping_of_root m))) mappings

-- A character of these mappings in the root has mappings of its own by the rules: one of them relates it, or it loses
-- mappings that have a context.
abbrev pub has_own_mappings_by : List Rule → ℕ → List RootMapping → Bool
has_own_mappings_by rules c mappings =
    is_related rules c || (is_scalar c && (have_character (suppressed_by rules) c && have_context mappings))

-- a relation touched the character
unfoldable pub touched_in : {R : Type 0} → Mappings R → ℕ → Bool
touched_in m c = is_some (get nat_cmp m.touched c)

-- the ranges of characters that were to keep their mappings without a context alone
abbrev pub suppressed_in : {R : Type 0} → Mappings R → List CharacterRange
suppressed_in m = m.suppressed.items

-- the root
abbrev pub root_of : {R : Type 0} → Mappings R → R
root_of m = m.root.now

-- the root has mappings of the character that depend on what stands around it
abbrev pub has_root_context : {R : Type 0} → (R → ℕ → List RootMapping) → Mappings R → ℕ → Bool
has_root_context mappings_of m c = have_context (mappings_of (root_of m) c)

-- the character has mappings of its own: a relation touched it, or it lost mappings that have a context
abbrev pub has_own_mappings : {R : Type 0} → (R → ℕ → List RootMapping) → Mappings R → ℕ → Bool
has_own_mappings mappings_of m c =
    touched_in m c || (is_scalar c && (have_character (suppressed_in m) c && has_root_context mappings_of m c))

-- one of the characters that are listed is this one
abbrev pub have_touched : List TouchedCharacter → ℕ → Bool
have_touched listed c = list_any (λ (t : TouchedCharacter). t.character == c) listed

-- more characters are touched, and more ranges suppressed, than were before
pub record TouchesMore {R : Type 0} (more : ℕ → Bool) (ranges : List CharacterRange) (old new : Mappings R) : Type 0 where
  pub touched : (c : ℕ) → touched_in new c ≡ (touched_in old c || more c)
  pub suppressed : suppressed_in new ≡ suppressed_in old ++ ranges
  pub over : root_of new ≡ root_of old

-- those that a rule touches and suppresses
abbrev pub TouchesByRule : {R : Type 0} → Rule → Mappings R → Mappings R → Type 0
TouchesByRule rule = TouchesMore (λ c. relates c rule) (suppressed_ranges rule)

-- those that rules touch and suppress
abbrev pub TouchesByRules : {R : Type 0} → List Rule → Mappings R → Mappings R → Type 0
TouchesByRules rules = TouchesMore (is_related rules) (suppressed_by rules)

-- over this root the characters that were touched, and the ranges suppressed, are those of the rules
pub record HasTouched {R : Type 0} (root : R) (rules : List Rule) (m : Mappings R) : Type 0 where
  pub over : root_of m ≡ root
  pub touched : (c : ℕ) → touched_in m c ≡ is_related rules c
  pub suppressed : suppressed_in m ≡ suppressed_by rules
