-- Which rules are refused, and why (UTS #35 part 5, "Collation Tailorings").
use Rattle.std.specs.Prelude.{ℕ, Bool, true, false, ◌+◌, ◌==◌, ◌&&◌, ◌||◌, nat_le, nat_lt, if◌then◌else◌, List, [], ◌∷◌, length, flat_map, Option, Some, None}
use Rattle.std.specs.Option.{option_or}
use Rattle.unicode_normalization.specs.Forms.{nfd}
use Rattle.icu_options.specs.declared.settings.Strength.{Strength}
use Rattle.icu_options.specs.declared.settings.Strength.TheVariants.{Identical}
use Rattle.icu_rule_parser.specs.declared.statement.LogicalPosition.{LogicalPosition}
use Rattle.icu_rule_parser.specs.declared.statement.LogicalPosition.TheVariants.{LastImplicit, FirstTrailing, LastTrailing}
use Rattle.icu_rule_parser.specs.declared.statement.Statement.{Statement}
use Rattle.icu_rule_parser.specs.declared.statement.Statement.TheVariants as statements
use Rattle.icu_rule_parser.specs.declared.rules.PlacedStatement.{PlacedStatement}
use Rattle.icu_rule_meaning.specs.Rules.{ResetPlace, at_string, at_position, Rule, reset, relation, suppression, setting, characters_of, level_of, statement_rules}
use Rattle.icu_rule_meaning.specs.declared.symbolic.SymbolicWeight.{SymbolicWeight}
use Rattle.icu_rule_meaning.specs.declared.symbolic.SymbolicWeight.TheVariants.{Rooted, Tailored}
use Rattle.icu_rule_meaning.specs.declared.symbolic.SymbolicElement.{SymbolicElement}
use Rattle.icu_rule_meaning.specs.WeightTrees.{weight_at_level}
use Rattle.icu_rule_meaning.specs.TailoredRoots.{Root}
use Rattle.icu_rule_meaning.specs.TailoredMappings.{SymbolicMappings, symbolic_elements}
use Rattle.icu_rule_meaning.specs.RootPositions.{first_number}
use Rattle.icu_rule_meaning.specs.Steps.{TailoringState, counting_at, last_element, place_elements, before_level, strength_step, rule_step, state_after}
use Rattle.icu_rule_steps.specs.symbolic_mappings.KeptMappings.{count_with}
use Rattle.icu_rule_steps.specs.declared.rule_step_error.RuleStepError.{RuleStepError}
use Rattle.icu_rule_steps.specs.declared.rule_step_error.RuleStepError.TheVariants as steps
use Rattle.icu_rule_steps.specs.declared.tailoring_error.TailoringErrorKind.{TailoringErrorKind}
use Rattle.icu_rule_steps.specs.declared.tailoring_error.TailoringErrorKind.TheVariants.{Position, TooManyElements, BeforeIgnorable, BeforeFirst, AfterIgnorable, NoWeight, LongPrefix, JamoContraction, TooManyMappings, TooManyRelations}
use Rattle.icu_rule_steps.specs.declared.tailoring_error.TailoringError.{TailoringError}
use Rattle.icu_rule_steps.specs.declared.tailoring_error.TailoringError.TheVariants.{NoMemory, Refused}

-- how many elements an entry may have
abbrev pub most_elements : ℕ
most_elements = 31

-- how many mappings a character may have by rules: each is looked at where the character is read
abbrev pub most_mappings : ℕ
most_mappings = 1024

-- one reason, or else another
abbrev pub or_fault : Option TailoringErrorKind → Option TailoringErrorKind → Option TailoringErrorKind
or_fault (Some kind) other = Some kind
or_fault None other = other

-- nothing is tailored at the position
abbrev pub is_reserved_position : LogicalPosition → Bool
is_reserved_position LastImplicit = true
is_reserved_position FirstTrailing = true
is_reserved_position LastTrailing = true
is_reserved_position _ = false

-- the weight is of those that characters without one of their own have, or a trailing one
abbrev pub is_without_own : SymbolicWeight → Bool
is_without_own (Rooted p) = nat_le 0xFE000000 p
is_without_own (Tailored k) = false

-- the element has no primary weight of its own in the root
abbrev pub has_no_weight : SymbolicElement → Bool
has_no_weight e = is_without_own (weight_at_level 1 e.weights)

-- ---- resets

-- why a reset goes to no place
abbrev pub place_fault : TailoringState → ResetPlace → Option TailoringErrorKind
place_fault state (at_position position) = if is_reserved_position position then Some Position else None
place_fault state (at_string s) =
    if nat_lt most_elements (length (symbolic_elements state.mappings (nfd s))) then Some TooManyElements else None

-- why nothing is before a weight of the root at a level
abbrev pub weight_fault : Root → ℕ → ℕ → Option TailoringErrorKind
weight_fault root level w =
    if w == 0 then Some BeforeIgnorable
    else if level == 1 && nat_le w (first_number (root.weights [])) then Some BeforeFirst
    else None

-- why nothing is before a weight at a level
abbrev pub before_weight_fault : Root → ℕ → SymbolicWeight → Option TailoringErrorKind
before_weight_fault root level (Rooted w) = weight_fault root level w
before_weight_fault root level (Tailored k) = None

-- why `[before n]` of elements is refused
abbrev pub before_fault : Root → ℕ → List SymbolicElement → Option TailoringErrorKind
before_fault root level es =
    let e = last_element (counting_at level es) in
    if has_no_weight e then Some NoWeight else before_weight_fault root level (weight_at_level level e.weights)

-- why a reset before elements is refused, if it is one
abbrev pub maybe_before_fault : Root → Option Strength → List SymbolicElement → Option TailoringErrorKind
maybe_before_fault root None es = None
maybe_before_fault root (Some strength) es = before_fault root (before_level strength) es

-- why a reset is refused
abbrev pub reset_fault : Root → Option Strength → ResetPlace → TailoringState → Option TailoringErrorKind
reset_fault root before place state =
    or_fault (place_fault state place) (maybe_before_fault root before (place_elements root state place))

-- ---- relations

-- why a difference of a level from elements is refused
abbrev pub level_fault : ℕ → List SymbolicElement → Option TailoringErrorKind
level_fault level es =
    let counting = counting_at level es in
    if has_no_weight (last_element counting) then Some NoWeight
    else if (level == 1 || level == 4) && length counting == 0 then Some AfterIgnorable
    else None

-- why a difference of a strength from elements is refused; none is identical
abbrev pub difference_fault : Strength → List SymbolicElement → Option TailoringErrorKind
difference_fault Identical es = None
difference_fault strength es = level_fault (level_of strength) es

-- a leading consonant that begins a modern Hangul syllable (Unicode Standard, "Conjoining Jamo Behavior")
abbrev pub is_leading_jamo : ℕ → Bool
is_leading_jamo c = nat_le 0x1100 c && nat_le c 0x1112

-- a vowel of a modern Hangul syllable
abbrev pub is_vowel_jamo : ℕ → Bool
is_vowel_jamo c = nat_le 0x1161 c && nat_le c 0x1175

-- the contraction begins within a Hangul syllable
abbrev pub begins_in_syllable : List ℕ → Bool
begins_in_syllable [] = false
begins_in_syllable (c ∷ []) = false
begins_in_syllable (c ∷ d ∷ string) = is_leading_jamo c || is_vowel_jamo c

-- the contraction ends within a Hangul syllable
abbrev pub ends_in_syllable : List ℕ → Bool
ends_in_syllable [] = false
ends_in_syllable (c ∷ []) = false
ends_in_syllable (c ∷ d ∷ []) = is_leading_jamo d || (is_vowel_jamo d && is_leading_jamo c)
ends_in_syllable (c ∷ d ∷ e ∷ string) = ends_in_syllable (d ∷ e ∷ string)

-- why a decomposed string behind a decomposed prefix has no mapping
abbrev pub string_fault : List ℕ → List ℕ → Option TailoringErrorKind
string_fault prefix string =
    if begins_in_syllable string || ends_in_syllable string then Some JamoContraction
    else if nat_lt 2 (length prefix) then Some LongPrefix
    else None

-- why the elements that a relation gives its string, with those of a decomposed extension, are refused
abbrev pub count_fault : TailoringState → TailoringState → List ℕ → Option TailoringErrorKind
count_fault state different extension =
    if nat_lt most_elements (length different.elements + length (symbolic_elements state.mappings extension))
    then Some TooManyElements else None

-- why a mapping of a decomposed string behind a decomposed prefix is one too many
abbrev pub mappings_fault : List ℕ → List ℕ → SymbolicMappings → Option TailoringErrorKind
mappings_fault prefix string mappings =
    if nat_lt most_mappings (count_with prefix string mappings) then Some TooManyMappings else None

-- why a relation of decomposed strings is refused
abbrev pub decomposed_fault : Strength → List ℕ → List ℕ → List ℕ → TailoringState → Option TailoringErrorKind
decomposed_fault strength prefix string extension state =
    or_fault (string_fault prefix string)
    (or_fault (difference_fault strength state.elements)
    (or_fault (count_fault state (strength_step strength state) extension) (mappings_fault prefix string state.mappings)))

-- why a relation is refused
abbrev pub relation_fault : Strength → List ℕ → List ℕ → List ℕ → TailoringState → Option TailoringErrorKind
relation_fault strength prefix string extension state =
    decomposed_fault strength (nfd prefix) (nfd string) (nfd extension) state

-- ---- rules

-- why a rule is refused where rules have said this much
abbrev pub rule_fault : Root → TailoringState → Rule → Option TailoringErrorKind
rule_fault root state (reset before place) = reset_fault root before place state
rule_fault root state (relation strength prefix string extension) = relation_fault strength prefix string extension state
rule_fault root state (suppression ranges) = None
rule_fault root state (setting s) = None

-- why the first rule that is refused is
abbrev pub first_fault : Root → TailoringState → List Rule → Option TailoringErrorKind
first_fault root state [] = None
first_fault root state (rule ∷ rules) =
    or_fault (rule_fault root state rule) (first_fault root (rule_step root state rule) rules)

-- an error at a place, to which an import led if there is one
abbrev pub placed_error : ℕ → Option ℕ → RuleStepError → TailoringError
placed_error place led steps.NoMemory = NoMemory
placed_error place led (steps.Refused kind) = Refused place led kind

-- the error of a statement, or else another
abbrev pub or_error : PlacedStatement → Option TailoringErrorKind → Option TailoringError → Option TailoringError
or_error placed (Some kind) other = Some (Refused placed.place placed.import kind)
or_error placed None other = other

-- the error of the first statement of which a rule is refused
abbrev pub first_rule_error : Root → TailoringState → List PlacedStatement → Option TailoringError
first_rule_error root state [] = None
first_rule_error root state (placed ∷ statements) =
    let rules = statement_rules placed.statement in
    or_error placed (first_fault root state rules) (first_rule_error root (state_after root state rules) statements)

-- ---- relations in all

-- how many relations rules may have, with those of imports
abbrev pub most_relations : ℕ
most_relations = 250000

-- how many relations a statement says: a starred one says one for each of its characters
abbrev pub relation_count : Statement → ℕ
relation_count (statements.Relation r) = 1
relation_count (statements.Starred r) = length (flat_map characters_of r.ranges.items)
relation_count _ = 0

-- the error of the first statement with which there are too many relations, where there were some before
abbrev pub count_error : ℕ → List PlacedStatement → Option TailoringError
count_error before [] = None
count_error before (placed ∷ statements) =
    let count = before + relation_count placed.statement in
    if nat_lt most_relations count then Some (Refused placed.place placed.import TooManyRelations)
    else count_error count statements

-- the error of statements: that of too many relations, or else that of the first rule that is refused
abbrev pub first_error : Root → TailoringState → List PlacedStatement → Option TailoringError
first_error root state statements = option_or (count_error 0 statements) (first_rule_error root state statements)
