-- What each rule does (UTS #35 part 5, "Collation Tailorings").
use Rattle.std.specs.Prelude.{ℕ, suc, nat_le, min, if◌then◌else◌, List, [], ◌∷◌, ◌++◌, filter, reverse, take, Option, Some, None}
use Rattle.unicode_normalization.specs.Forms.{nfd}
use Rattle.icu_options.specs.declared.settings.Strength.{Strength}
use Rattle.icu_options.specs.declared.settings.Strength.TheVariants.{Primary, Secondary, Identical}
use Rattle.icu_rule_parser.specs.declared.statement.CharacterRange.{CharacterRange}
use Rattle.icu_rule_parser.specs.declared.statement.RuleSetting.{RuleSetting}
use Rattle.icu_rule_meaning.specs.Rules.{ResetPlace, at_string, at_position, Rule, reset, relation, suppression, setting, level_of, have_character}
use Rattle.icu_rule_meaning.specs.declared.symbolic.SymbolicWeight.{SymbolicWeight}
use Rattle.icu_rule_meaning.specs.declared.symbolic.SymbolicWeight.TheVariants.{Rooted, Tailored}
use Rattle.icu_rule_meaning.specs.declared.symbolic.SymbolicElement.{SymbolicElement}
use Rattle.icu_rule_meaning.specs.SymbolicElements.{element_with, ignorable}
use Rattle.icu_rule_meaning.specs.WeightTrees.{WeightTree, first_tree, with_weight, with_weights, with_new_weight, directly_before, above_level, weight_at_level}
use Rattle.icu_rule_meaning.specs.TailoredRoots.{Root, lesser_weight}
use Rattle.icu_rule_meaning.specs.TailoredMappings.{SymbolicMapping, SymbolicMappings, root_mappings, has_no_context, with_mapping, with_mappings, symbolic_elements}
use Rattle.icu_rule_meaning.specs.TailoredCases.{cased_elements}
use Rattle.icu_rule_meaning.specs.RootPositions.{position_element}

-- What rules have said so far: the order of weights, the mappings of characters, the elements of the last reset or
-- relation, how many weights were made, and the settings, the last one first.
pub record TailoringState : Type 0 where
  pub tree : WeightTree
  pub mappings : SymbolicMappings
  pub elements : List SymbolicElement
  pub made : ℕ
  pub settings : List RuleSetting

-- nothing but the root
abbrev pub first_state : Root → TailoringState
first_state root = record { tree = first_tree; mappings = root_mappings root; elements = []; made = 0; settings = [] }

-- the elements up to the last one that counts at a level
unfoldable pub counting_at : ℕ → List SymbolicElement → List SymbolicElement
counting_at level [] = []
counting_at level (e ∷ es) =
    elim (counting_at level es) [
      | [] ↦ if nat_le e.strength level then e ∷ [] else []
      | f ∷ fs ↦ e ∷ f ∷ fs
    ]

-- the last of the elements; of none, the one that is ignorable
abbrev pub last_element : List SymbolicElement → SymbolicElement
last_element [] = ignorable
last_element (e ∷ []) = e
last_element (e ∷ f ∷ es) = last_element (f ∷ es)

-- all elements but the last
abbrev pub front_elements : List SymbolicElement → List SymbolicElement
front_elements [] = []
front_elements (e ∷ []) = []
front_elements (e ∷ f ∷ es) = e ∷ front_elements (f ∷ es)

-- the elements with another one in the place of the last
abbrev pub with_last_element : List SymbolicElement → SymbolicElement → List SymbolicElement
with_last_element es last = front_elements es ++ last ∷ []

-- the elements of the place of a reset
abbrev pub place_elements : Root → TailoringState → ResetPlace → List SymbolicElement
place_elements root state (at_string s) = symbolic_elements state.mappings (nfd s)
place_elements root state (at_position position) = position_element root state.tree position ∷ []

-- a tree where the next lesser weight of the root stands before one of the root
abbrev pub with_lesser : Root → WeightTree → List SymbolicWeight → SymbolicWeight → WeightTree
with_lesser root tree above (Rooted w) = with_weight tree above (Rooted (lesser_weight root above w))
with_lesser root tree above (Tailored k) = tree

-- `[before n]`: the last element that counts at the level has there the weight before its own
unfoldable pub before_step : Root → ℕ → TailoringState → TailoringState
before_step root level state =
    let counting = counting_at level state.elements in
    let e = last_element counting in
    let above = above_level level e.weights in
    let w = weight_at_level level e.weights in
    let tree = with_lesser root (with_weights state.tree [] (take level e.weights)) above w in
    let found : SymbolicWeight = elim (directly_before w (tree above)) [ None ↦ w | Some lesser ↦ lesser ] in
    record state {
      tree = tree;
      elements = with_last_element counting (element_with (above ++ found ∷ []) (min level e.strength));
    }

-- the level of `[before n]`, which is one of the first three
abbrev pub before_level : Strength → ℕ
before_level Primary = 1
before_level Secondary = 2
before_level _ = 3

-- a reset: the elements of its place, or before it
unfoldable pub reset_step : Root → Option Strength → ResetPlace → TailoringState → TailoringState
reset_step root before place state =
    let at : TailoringState = record state { elements = place_elements root state place } in
    elim before [ None ↦ at | Some strength ↦ before_step root (before_level strength) at ]

-- a difference of a level: the last element that counts there gets a new weight directly behind its own
unfoldable pub difference_step : ℕ → TailoringState → TailoringState
difference_step level state =
    let counting = counting_at level state.elements in
    let e = last_element counting in
    let new = Tailored state.made in
    let different = element_with (above_level level e.weights ++ new ∷ []) (min level e.strength) in
    record state {
      tree = with_new_weight state.tree level e.weights new;
      elements = with_last_element counting different;
      made = suc state.made;
    }

-- a difference of a strength; none is identical
abbrev pub strength_step : Strength → TailoringState → TailoringState
strength_step Identical state = state
strength_step strength state = difference_step (level_of strength) state

-- the elements with the case of a decomposed string
abbrev pub case_step : Root → List ℕ → TailoringState → TailoringState
case_step root string state =
    record state { elements = cased_elements (symbolic_elements (root_mappings root) string) state.elements }

-- a decomposed string behind a decomposed prefix has these elements from here on
abbrev pub mapping_step : List ℕ → List ℕ → List SymbolicElement → TailoringState → TailoringState
mapping_step prefix [] elements state = state
mapping_step prefix (c ∷ suffix) elements state =
    let new : SymbolicMapping = record { prefix = reverse prefix; suffix = suffix; elements = elements } in
    record state { mappings = with_mappings state.mappings c (with_mapping new (state.mappings c)) }

-- A relation: the string has the elements of the rule before with a difference of its strength, and then those of the
-- extension, as mappings are before it.
unfoldable pub relation_step : Root → Strength → List ℕ → List ℕ → List ℕ → TailoringState → TailoringState
relation_step root strength prefix string extension state =
    let decomposed = nfd string in
    let different : TailoringState = case_step root decomposed (strength_step strength state) in
    let put_behind = symbolic_elements state.mappings (nfd extension) in
    mapping_step (nfd prefix) decomposed (different.elements ++ put_behind) different

-- `[suppressContractions [..]]`: characters of the ranges keep the mapping without a context alone
unfoldable pub suppression_step : List CharacterRange → TailoringState → TailoringState
suppression_step ranges state = record state {
  mappings = λ c. if have_character ranges c then filter has_no_context (state.mappings c) else state.mappings c;
}

-- what a rule makes of a state
abbrev pub rule_step : Root → TailoringState → Rule → TailoringState
rule_step root state (reset before place) = reset_step root before place state
rule_step root state (relation strength prefix string extension) =
    relation_step root strength prefix string extension state
rule_step root state (suppression ranges) = suppression_step ranges state
rule_step root state (setting s) = record state { settings = s ∷ state.settings }

-- what rules make of a state, one after another
abbrev pub state_after : Root → TailoringState → List Rule → TailoringState
state_after root state [] = state
state_after root state (rule ∷ rules) = state_after root (rule_step root state rule) rules

-- what rules say
abbrev pub tailoring_of : Root → List Rule → TailoringState
tailoring_of root rules = state_after root (first_state root) rules
