-- How texts order that relations of rules relate, by a collation of the tables of these rules (UTS #35 part 5,
-- "Collation Tailorings").
use Rattle.std.specs.Prelude.{ℕ, ◌≡◌, ◌≢◌, ◌≤◌, ◌+◌, true, List, [], ◌∷◌, ◌++◌, min, take, Some, None}
use Rattle.std.specs.Ordering.{ordering_then}
use Rattle.std.specs.declared.cmp.Ordering.TheVariants.{Less}
use Rattle.icu_order_levels.specs.declared.forms.TertiaryForm.TheVariants.{WithoutCase}
use Rattle.std.specs.List.{AllByRecursion, slice_get}
use Rattle.unicode_normalization.specs.Forms.{nfd}
use Rattle.icu_options.specs.Metadata.{is_backward}
use Rattle.icu_options.specs.declared.settings.Strength.{Strength}
use Rattle.icu_options.specs.declared.settings.Strength.TheVariants.{Identical}
use Rattle.icu_table_entries.specs.ElementConditions.{separator_primary}
use Rattle.icu_order_texts.specs.weighting.Collations.{Collation}
use Rattle.icu_order_levels.specs.Keys.{characters_order}
use Rattle.icu_order_texts.specs.weighting.Forms.{cased_form, is_identical}
use Rattle.icu_order_texts.specs.TextOrder.{lists_by, text_order}
use Rattle.icu_order_texts.specs.text_laws.OrderLaws.{strength_rank}
use Rattle.icu_rule_parser.specs.declared.rules.PlacedStatement.{PlacedStatement}
use Rattle.icu_rule_root.specs.declared.checked_root.CheckedRoot.{CheckedRoot}
use Rattle.icu_rule_root.specs.StoredRoots.{stored_root}
use Rattle.icu_rule_meaning.specs.Rules.{ResetPlace, Rule, relation, reset, level_of, rules_of}
use Rattle.icu_rule_meaning.specs.Steps.{TailoringState, before_level, counting_at, last_element, place_elements, tailoring_of, with_lesser}
use Rattle.icu_rule_meaning.specs.RelationLaws.{elements_at, weights_before}
use Rattle.icu_rule_meaning.specs.SymbolicOrders.{Numbering}
use Rattle.icu_rule_meaning.specs.TailoredRoots.{Root}
use Rattle.icu_rule_meaning.specs.WeightTrees.{above_level, directly_before, weight_at_level, with_weights}
use Rattle.icu_rule_meaning.specs.declared.symbolic.SymbolicElement.{SymbolicElement}
use Rattle.icu_rule_weights.specs.declared.tailoring_numbers.tailoring_numbers.TailoringNumbers.{TailoringNumbers}
use Rattle.icu_rule_weights.specs.tailoring_numbers.Numberings.{number_of, numbering_of}
use Rattle.icu_rule_steps.specs.held_relations.HeldRelations.{IsHeld, elements_by_all}
use Rattle.icu_rule_tables.specs.RuleSettings.{reorder_words}
use Rattle.icu_rule_tables.specs.StatesByRules.{state_over}
use Rattle.icu_rule_tables.specs.Tailorings.{SaysRules, tailored_tables}
use Rattle.icu_rule_tables.specs.declared.tailoring.Tailoring.{Tailoring}
use Rattle.icu_rule_laws.specs.RuleTexts.{AreRuledTables}
use Rattle.icu_rule_laws.specs.RelatedTexts.{relation_strength}
use Rattle.icu_rule_laws.specs.tailored_texts.TailoredTexts.{IsScalarCode}
use Rattle.icu_rule_laws.specs.apart_elements.ApartElements.{AreOneApart, SettingsDecide, elements_by, said_at}
use Rattle.icu_rule_laws.specs.apart_elements.ApartElementLaws.{IsWithoutCase, case_order}
use Rattle.icu_rule_laws.specs.apart_elements.UpperWeights.{upper_lists}
use Rattle.icu_rule_laws.specs.related_texts.PlainOrders.{HasNoVariable, HasPlainSettings, ReadsPlainly}

-- The level of relations, one after another: the least of theirs, which is that of the greatest difference. It is 5 if
-- none makes a difference, and 0 if one of the rules is no relation.
abbrev pub chain_level : List Rule → ℕ
chain_level [] = 5
chain_level (relation strength prefix string extension ∷ rules) = min (level_of strength) (chain_level rules)
chain_level (_ ∷ rules) = 0

-- a relation of this strength differs from an element that has a weight at the level, and one of `=` from any
abbrev pub DiffersFromWeight : Root → Numbering → List Rule → Strength → Type 0
DiffersFromWeight root numbering earlier Identical = Unit {0}
DiffersFromWeight root numbering earlier strength =
    numbering (take (level_of strength) (weights_before root earlier (level_of strength))) ≢ 0

-- so does each of these relations, after earlier rules
abbrev pub DifferFromWeights : Root → Numbering → List Rule → List Rule → Type 0
DifferFromWeights root numbering earlier [] = Unit {0}
DifferFromWeights root numbering earlier (relation strength prefix string extension ∷ rules) =
    DiffersFromWeight root numbering earlier strength
    × DifferFromWeights root numbering (earlier ++ relation strength prefix string extension ∷ []) rules
DifferFromWeights root numbering earlier (_ ∷ rules) = Unit {0}

-- Texts stand in a chain of relations: by all rules the left one has the elements before these relations, and the right
-- one those after them. Both have the same elements before them, as of a prefix, and after them, as of an extension. So
-- no later rule moved them. If something comes after both, what the relations differ from has a weight at their levels.
pub record StandInChain (root : Root) (placed : List PlacedStatement) (numbering : Numbering) (chain : List Rule) (left right : List ℕ) : Type 0 where
  pub earlier : List Rule
  pub later : List Rule
  pub rules : rules_of placed ≡ earlier ++ (chain ++ later)
  pub front : List SymbolicElement
  pub behind : List SymbolicElement
  pub of_left : elements_by_all root placed left ≡ front ++ (elements_at root earlier ++ behind)
  pub of_right : elements_by_all root placed right ≡ front ++ (elements_at root (earlier ++ chain) ++ behind)
  pub counts : behind ≢ [] → DifferFromWeights root numbering earlier chain

-- By a collation of the tables of rules two texts that stand in a chain of relations order by the level of the chain.
-- By plain settings the left one is Less by each strength that has the level. Else they are Equal, if neither has a
-- variable element. At the quaternary level, and if there is no difference, strengths up to the tertiary one are spoken
-- of.
abbrev pub RelationsOrder : CheckedRoot → Type 0
RelationsOrder root = (placed : List PlacedStatement) (t : Tailoring) (says : SaysRules root placed t) → AreRuledTables root t
    → (c : Collation) → c.tables ≡ tailored_tables t
    → (left right : List ℕ) → AllByRecursion IsScalarCode (nfd left) → AllByRecursion IsScalarCode (nfd right)
    → (chain : List Rule) → StandInChain (stored_root root) placed (numbering_of says.numbers) chain left right
    → 1 ≤ chain_level chain → HasPlainSettings c (chain_level chain) → HasNoVariable c left → HasNoVariable c right
    → (4 ≤ chain_level chain → strength_rank c.settings.strength ≤ 2)
    → text_order c left right ≡ said_at c.settings.strength (chain_level chain)

-- each of these relations that has the level differs, after earlier rules, from an element that counts there; at the
-- quaternary level one that has a tertiary weight does
abbrev pub CountAt : Root → TailoringNumbers → ℕ → List Rule → List Rule → Type 0
CountAt root t n earlier [] = Unit {0}
CountAt root t n earlier (relation strength prefix string extension ∷ rules) =
    (n ≡ level_of strength → number_of t (weight_at_level (min n 3) (weights_before root earlier n)) ≢ 0)
    × CountAt root t n (earlier ++ relation strength prefix string extension ∷ []) rules
CountAt root t n earlier (_ ∷ rules) = Unit {0}

-- Texts are one apart at a level, and what follows is the same up to it: if the settings decide, the left one is Less
-- at the first two levels by each strength that has them, whatever case is. Below, the case level decides first, unless
-- there is case first alone; and without case it is so at each level, and else both are Equal. Settings decide if no
-- element is variable, scripts stand in the order of the tables at the primary level, and backward the element is not
-- U+FFFE's.
pub record OrderAsApart (c : Collation) (n : ℕ) (left right : List ℕ) : Type 0 where
  pub apart : AreOneApart n (elements_by c left) (elements_by c right)
  pub rests : upper_lists (n + 1) apart.rest ≡ upper_lists (n + 1) apart.other_rest
  pub less : n ≤ 2 → n ≤ strength_rank c.settings.strength + 1 → SettingsDecide c n apart → text_order c left right ≡ Less
  pub after_case : 2 ≤ n → (n ≡ 2 → strength_rank c.settings.strength ≡ 0) → cased_form c.settings.case_level c.settings.case_first ≡ WithoutCase
      → SettingsDecide c n apart → text_order c left right ≡ ordering_then (case_order c left right) (said_at c.settings.strength n)
  pub said : IsWithoutCase c → SettingsDecide c n apart → text_order c left right ≡ said_at c.settings.strength n
  pub decide : HasNoVariable c left → HasNoVariable c right → (n ≡ 1 → c.tables.reordering ≡ None)
      → (n ≡ 2 → is_backward c.tables.bits ≡ true → apart.e.primary ≢ separator_primary) → SettingsDecide c n apart

-- So do texts that stand in a chain of relations, each of whose level differs from an element that counts there: at
-- each of the four levels, with variable elements elsewhere, backward, and if scripts are reordered.
abbrev pub ApartRelationsOrder : CheckedRoot → Type 0
ApartRelationsOrder root = (placed : List PlacedStatement) (t : Tailoring) (says : SaysRules root placed t) → AreRuledTables root t
    → (c : Collation) → c.tables ≡ tailored_tables t → ReadsPlainly c
    → (left right : List ℕ) → AllByRecursion IsScalarCode (nfd left) → AllByRecursion IsScalarCode (nfd right)
    → (chain : List Rule) → (at : StandInChain (stored_root root) placed (numbering_of says.numbers) chain left right)
    → 1 ≤ chain_level chain → chain_level chain ≤ 4 → CountAt (stored_root root) says.numbers (chain_level chain) at.earlier chain
    → OrderAsApart c (chain_level chain) left right

-- something stands before the weight that the last element which counts at a level has there, once the next lesser
-- weight of the root is among its siblings
abbrev pub HasWeightBefore : Root → ℕ → TailoringState → List SymbolicElement → Type 0
HasWeightBefore root level state es =
    let e = last_element (counting_at level es) in
    let above = above_level level e.weights in
    let w = weight_at_level level e.weights in
    directly_before w (with_lesser root (with_weights state.tree [] (take level e.weights)) above w above) ≢ None

-- Texts stand before and at a reset `[before n]`: by all rules the left one has the elements of the relation right
-- after it, and the right one those of its place, with the same elements before both and after both. So no later rule
-- moved them.
pub record StandBefore (root : Root) (placed : List PlacedStatement) (before strength : Strength) (left right : List ℕ) : Type 0 where
  pub earlier : List Rule
  pub place : ResetPlace
  pub prefix : List ℕ
  pub string : List ℕ
  pub extension : List ℕ
  pub later : List Rule
  pub rules : rules_of placed ≡ earlier ++ reset (Some before) place ∷ relation strength prefix string extension ∷ later
  pub front : List SymbolicElement
  pub behind : List SymbolicElement
  pub of_left : elements_by_all root placed left
      ≡ front ++ (elements_at root (earlier ++ reset (Some before) place ∷ relation strength prefix string extension ∷ []) ++ behind)
  pub of_right : elements_by_all root placed right ≡ front ++ (place_elements root (tailoring_of root earlier) place ++ behind)
  pub goes : HasWeightBefore root (before_level before) (tailoring_of root earlier)
      (place_elements root (tailoring_of root earlier) place)

-- What a relation of the level of `[before n]` puts right after it comes before the place of the reset, at that level.
abbrev pub BeforeRelationsOrder : CheckedRoot → Type 0
BeforeRelationsOrder root = (placed : List PlacedStatement) (t : Tailoring) (says : SaysRules root placed t) → AreRuledTables root t
    → (c : Collation) → c.tables ≡ tailored_tables t → ReadsPlainly c
    → (left right : List ℕ) → AllByRecursion IsScalarCode (nfd left) → AllByRecursion IsScalarCode (nfd right)
    → (before strength : Strength) → StandBefore (stored_root root) placed before strength left right
    → level_of strength ≡ before_level before → OrderAsApart c (before_level before) left right

-- Texts in a chain of `=` alone differ by their characters alone, which the identical strength compares: by all
-- settings without case by which texts are read plainly, whatever is variable.
abbrev pub IdentitiesOrder : CheckedRoot → Type 0
IdentitiesOrder root = (placed : List PlacedStatement) (t : Tailoring) (says : SaysRules root placed t) → AreRuledTables root t
    → (c : Collation) → c.tables ≡ tailored_tables t
    → (left right : List ℕ) → AllByRecursion IsScalarCode (nfd left) → AllByRecursion IsScalarCode (nfd right)
    → (chain : List Rule) → StandInChain (stored_root root) placed (numbering_of says.numbers) chain left right
    → chain_level chain ≡ 5 → ReadsPlainly c → IsWithoutCase c
    → text_order c left right ≡ characters_order (is_identical c.settings.strength) (lists_by c (nfd left)) (lists_by c (nfd right))

-- Two texts order as a relation of this strength says: by plain settings the left one is Less by each strength that has
-- its level, and else they are Equal; and by `=` they differ by their characters alone.
pub record OrderAsRelation (c : Collation) (strength : Strength) (left right : List ℕ) : Type 0 where
  pub differ : HasPlainSettings c (level_of strength) → HasNoVariable c left → HasNoVariable c right
      → (4 ≤ level_of strength → strength_rank c.settings.strength ≤ 2)
      → text_order c left right ≡ said_at c.settings.strength (level_of strength)
  pub same : strength ≡ Identical → ReadsPlainly c → IsWithoutCase c
      → text_order c left right ≡ characters_order (is_identical c.settings.strength) (lists_by c (nfd left)) (lists_by c (nfd right))

-- So do the strings of a relation that is held, by a collation of the tables of its rules.
abbrev pub HeldRelationsOrder : CheckedRoot → Type 0
HeldRelationsOrder root = (placed : List PlacedStatement) (t : Tailoring) (says : SaysRules root placed t) → AreRuledTables root t
    → (c : Collation) → c.tables ≡ tailored_tables t
    → (index : ℕ) (strength : Strength) → relation_strength (slice_get placed index) ≡ Some strength
    → (held : IsHeld (stored_root root) placed index)
    → AllByRecursion IsScalarCode (nfd held.strings.other) → AllByRecursion IsScalarCode (nfd held.strings.string)
    → OrderAsRelation c strength held.strings.other held.strings.string

-- by rules without `[reorder ..]` scripts stand in the order of the tables
abbrev pub RulesKeepScripts : CheckedRoot → Type 0
RulesKeepScripts root = (placed : List PlacedStatement) (t : Tailoring) → SaysRules root placed t
    → reorder_words (state_over root placed).settings ≡ None → (tailored_tables t).reordering ≡ None
