-- All elements that rules come to have four weights, of which those before the first level that counts are 0.
use Rattle.std.proofs.Common.{◌≡◌, ℕ, ◌+◌, ◌<◌, ◌≤◌, Bool, true, false, ◌==◌, List, [], ◌∷◌, ◌++◌, map, filter, drop, Option, Some, None, if◌then◌else◌, refl, ap, arith}
use Rattle.std.proofs.lemmas.Bool.{eqb-true}
use Rattle.std.specs.List.{AllByRecursion, list_any}
use Rattle.icu_options.specs.declared.settings.Strength.{Strength}
use Rattle.icu_options.specs.declared.settings.Strength.TheVariants.{Primary, Secondary, Tertiary, Quaternary, Identical}
use Rattle.icu_rule_parser.specs.declared.statement.LogicalPosition.{LogicalPosition}
use Rattle.icu_rule_parser.specs.declared.statement.LogicalPosition.TheVariants as positions
use Rattle.unicode_normalization.specs.Forms.{nfd}
use Rattle.icu_table_entries.specs.Elements.{Element}
use Rattle.icu_rule_meaning.specs.Rules.{ResetPlace, at_string, at_position, Rule, reset, relation, suppression, setting, have_character}
use Rattle.icu_rule_meaning.specs.declared.symbolic.SymbolicWeight.{SymbolicWeight}
use Rattle.icu_rule_meaning.specs.declared.symbolic.SymbolicWeight.TheVariants.{Rooted, Tailored}
use Rattle.icu_rule_meaning.specs.declared.symbolic.SymbolicElement.{SymbolicElement}
use Rattle.icu_rule_meaning.specs.SymbolicElements.{has_tailored_weight, to_all_levels, element_with, first_level, tertiary_of, quaternary_of, of_root}
use Rattle.icu_rule_meaning.specs.WeightTrees.{WeightTree}
use Rattle.icu_rule_meaning.specs.TailoredRoots.{RootMapping, Root, first_above}
use Rattle.icu_rule_meaning.specs.TailoredMappings.{SymbolicMapping, SymbolicMappings, has_no_context, symbolic_elements}
use Rattle.icu_rule_meaning.specs.TailoredCases.{counts_first_at, with_case_bits, upper_case_bits, with_cases}
use Rattle.icu_rule_meaning.specs.RootPositions.{tailored_behind, first_of_primary, with_last, last_of, first_of_group, position_element}
use Rattle.icu_rule_meaning.specs.Steps.{TailoringState, first_state, counting_at, last_element, place_elements, before_level, before_step, reset_step, difference_step, strength_step, case_step, mapping_step, relation_step, suppression_step, rule_step, state_after, tailoring_of}
use Rattle.icu_rule_meaning.proofs.TreeLemmas.{either}
use Rattle.icu_rule_meaning.proofs.EachElementLemmas.{HaveEach, each_append, have_filter, symbolic_each}
use Rattle.icu_rule_meaning.proofs.WholeElements.{IsWhole, AreWhole, counting_whole, last_whole, with_last_whole, new_whole}

-- ---- elements of the root

first_zero : (w : ℕ) (more : List ℕ) (level : ℕ) → level < first_level level (w ∷ more) → w ≡ 0
first_zero w more level h = eqb-true w 0 (zero_if (w == 0) h) where
  zero_if : (b : Bool) → level < (if b then first_level (level + 1) more else level) → b ≡ true
  zero_if true h = refl
  zero_if false h = absurd (omega arith)

later_level : (w : ℕ) (more : List ℕ) (level k : ℕ) → level < k → k < first_level level (w ∷ more)
    → k < first_level (level + 1) more
later_level w more level k l h = later_if (w == 0) h where
  later_if : (b : Bool) → k < (if b then first_level (level + 1) more else level) → k < first_level (level + 1) more
  later_if true h = h
  later_if false h = absurd (omega arith)

root_whole : (e : Element) → IsWhole (of_root e)
root_whole e =
    let p = e.primary in
    let s = e.secondary in
    let t = tertiary_of e in
    let q = quaternary_of e in
    record {
      primary = Rooted p;
      secondary = Rooted s;
      tertiary = Rooted t;
      quaternary = Rooted q;
      weights = refl;
      no_primary = λ h. ap Rooted (first_zero p (s ∷ t ∷ q ∷ []) 1 h);
      no_secondary = λ h. ap Rooted (first_zero s (t ∷ q ∷ []) 2 (later_level p (s ∷ t ∷ q ∷ []) 1 2 (omega arith) h));
      no_tertiary = λ h. ap Rooted (first_zero t (q ∷ []) 3
          (later_level s (t ∷ q ∷ []) 2 3 (omega arith) (later_level p (s ∷ t ∷ q ∷ []) 1 3 (omega arith) h)));
      no_quaternary = λ h. ap Rooted (first_zero q [] 4 (later_level t (q ∷ []) 3 4 (omega arith)
          (later_level s (t ∷ q ∷ []) 2 4 (omega arith) (later_level p (s ∷ t ∷ q ∷ []) 1 4 (omega arith) h))));
    }

root_all_whole : (es : List Element) → AreWhole (map of_root es)
root_all_whole [] = tt
root_all_whole (e ∷ es) = (root_whole e, root_all_whole es)

-- ---- elements of a text

abbrev pub HaveWhole : List SymbolicMapping → Type 0
HaveWhole = HaveEach IsWhole

root_mappings_whole : (ms : List RootMapping)
    → HaveWhole (map (λ (m : RootMapping). record { prefix = m.prefix; suffix = m.suffix; elements = map of_root m.elements }) ms)
root_mappings_whole [] = tt
root_mappings_whole (m ∷ ms) = (root_all_whole m.elements, root_mappings_whole ms)

all_known : (text : List ℕ) → AllByRecursion (λ c. Unit {0}) text
all_known [] = tt
all_known (c ∷ text) = (tt, all_known text)

pub text_whole : (mappings : SymbolicMappings) (text : List ℕ) → ((c : ℕ) → HaveWhole (mappings c))
    → AreWhole (symbolic_elements mappings text)
text_whole mappings text p = symbolic_each IsWhole (λ c. Unit {0}) mappings text (λ c _. p c) (all_known text)

-- ---- elements of positions

-- weights of a primary and others below it
primary_whole : (p s t q : SymbolicWeight) → IsWhole (record { weights = p ∷ s ∷ t ∷ q ∷ []; strength = 1; case_bits = 0 })
primary_whole p s t q = record {
  primary = p;
  secondary = s;
  tertiary = t;
  quaternary = q;
  weights = refl;
  no_primary = λ h. absurd (omega arith);
  no_secondary = λ h. absurd (omega arith);
  no_tertiary = λ h. absurd (omega arith);
  no_quaternary = λ h. absurd (omega arith);
}

secondary_whole : (s t q : SymbolicWeight) → IsWhole (record { weights = Rooted 0 ∷ s ∷ t ∷ q ∷ []; strength = 2; case_bits = 0 })
secondary_whole s t q = record {
  primary = Rooted 0;
  secondary = s;
  tertiary = t;
  quaternary = q;
  weights = refl;
  no_primary = λ h. refl;
  no_secondary = λ h. absurd (omega arith);
  no_tertiary = λ h. absurd (omega arith);
  no_quaternary = λ h. absurd (omega arith);
}

tertiary_whole : (t q : SymbolicWeight)
    → IsWhole (record { weights = Rooted 0 ∷ Rooted 0 ∷ t ∷ q ∷ []; strength = 3; case_bits = 0 })
tertiary_whole t q = record {
  primary = Rooted 0;
  secondary = Rooted 0;
  tertiary = t;
  quaternary = q;
  weights = refl;
  no_primary = λ h. refl;
  no_secondary = λ h. refl;
  no_tertiary = λ h. absurd (omega arith);
  no_quaternary = λ h. absurd (omega arith);
}

abbrev MakesWhole : ℕ → List SymbolicWeight → Type 0
MakesWhole strength ws = IsWhole (element_with ws strength)

lone_whole : (p : SymbolicWeight) → MakesWhole 1 (p ∷ [])
lone_whole p = primary_whole p _ _ _

first_whole : (tree : WeightTree) (p : SymbolicWeight) → MakesWhole 1 (first_of_primary tree p)
first_whole tree p = primary_whole p _ _ _

primary_last_whole : (tree : WeightTree) (p : SymbolicWeight) → MakesWhole 1 (last_of tree (p ∷ []))
primary_last_whole tree p =
    let last = with_last 3 tree (p ∷ []) in
    either (MakesWhole 1) (list_any has_tailored_weight (drop 1 last)) last (to_all_levels (p ∷ []))
    (λ _. primary_whole p _ _ _) (λ _. primary_whole p _ _ _)

secondary_last_whole : (tree : WeightTree) (s : SymbolicWeight) → MakesWhole 2 (last_of tree (Rooted 0 ∷ s ∷ []))
secondary_last_whole tree s =
    let last = with_last 2 tree (Rooted 0 ∷ s ∷ []) in
    either (MakesWhole 2) (list_any has_tailored_weight (drop 2 last)) last (to_all_levels (Rooted 0 ∷ s ∷ []))
    (λ _. secondary_whole s _ _) (λ _. secondary_whole s _ _)

tertiary_last_whole : (tree : WeightTree) (t : SymbolicWeight) → MakesWhole 3 (last_of tree (Rooted 0 ∷ Rooted 0 ∷ t ∷ []))
tertiary_last_whole tree t =
    let last = with_last 1 tree (Rooted 0 ∷ Rooted 0 ∷ t ∷ []) in
    either (MakesWhole 3) (list_any has_tailored_weight (drop 3 last)) last (to_all_levels (Rooted 0 ∷ Rooted 0 ∷ t ∷ []))
    (λ _. tertiary_whole t _) (λ _. tertiary_whole t _)

run_or : (tree : WeightTree) (run : List SymbolicWeight) (next : SymbolicWeight)
    → MakesWhole 1 (elim run as (λ _. List SymbolicWeight) [ [] ↦ first_of_primary tree next | w ∷ _ ↦ w ∷ [] ])
run_or tree [] next = first_whole tree next
run_or tree (w ∷ ws) next = lone_whole w

group_whole : (root : Root) (tree : WeightTree) (p : ℕ) → MakesWhole 1 (first_of_group root tree p)
group_whole root tree p =
    let next : SymbolicWeight = elim (first_above (root.weights []) p) [ Some w ↦ Rooted w | None ↦ Rooted p ] in
    let below = first_of_primary tree (Rooted p) in
    let run = tailored_behind tree [] (Rooted p) in
    let other : List SymbolicWeight = elim run [ [] ↦ first_of_primary tree next | w ∷ _ ↦ w ∷ [] ] in
    either (MakesWhole 1) (list_any has_tailored_weight below) below other (λ _. first_whole tree (Rooted p)) (λ _. run_or tree run next)

pub position_whole : (root : Root) (tree : WeightTree) (position : LogicalPosition) → IsWhole (position_element root tree position)
position_whole root tree positions.FirstSecondaryIgnorable = tertiary_whole _ _
position_whole root tree positions.LastSecondaryIgnorable = tertiary_last_whole tree _
position_whole root tree positions.FirstPrimaryIgnorable = secondary_whole _ _ _
position_whole root tree positions.LastPrimaryIgnorable = secondary_last_whole tree _
position_whole root tree positions.FirstVariable = group_whole root tree _
position_whole root tree positions.LastVariable = primary_last_whole tree _
position_whole root tree positions.FirstRegular = group_whole root tree _
position_whole root tree positions.LastRegular = primary_last_whole tree _
position_whole root tree positions.FirstImplicit = first_whole tree (Rooted root.first_implicit)
position_whole root tree positions.FirstTertiaryIgnorable = last_whole [] tt
position_whole root tree positions.LastTertiaryIgnorable = last_whole [] tt
position_whole root tree positions.LastImplicit = last_whole [] tt
position_whole root tree positions.FirstTrailing = last_whole [] tt
position_whole root tree positions.LastTrailing = last_whole [] tt

-- ---- states

pub record IsWholeState (state : TailoringState) : Type 0 where
  pub elements : AreWhole state.elements
  pub mappings : (c : ℕ) → HaveWhole (state.mappings c)

case_bits_whole : (e : SymbolicElement) (bits : ℕ) → IsWhole e → IsWhole (with_case_bits e bits)
case_bits_whole e bits w = record {
  primary = w.primary;
  secondary = w.secondary;
  tertiary = w.tertiary;
  quaternary = w.quaternary;
  weights = w.weights;
  no_primary = w.no_primary;
  no_secondary = w.no_secondary;
  no_tertiary = w.no_tertiary;
  no_quaternary = w.no_quaternary;
}

pub cases_whole : (cases : List ℕ) (es : List SymbolicElement) → AreWhole es → AreWhole (with_cases cases es)
unfolding with_cases
cases_whole cases [] ws = tt
cases_whole [] (e ∷ es) (w, ws) = (case_bits_whole e _ w, cases_whole [] es ws)
cases_whole (c ∷ cases) (e ∷ es) (w, ws) =
    let other = with_case_bits e (if counts_first_at 3 e then upper_case_bits else 0) in
    either AreWhole (counts_first_at 1 e) (with_case_bits e c ∷ with_cases cases es) (other ∷ with_cases (c ∷ cases) es)
    (λ _. (case_bits_whole e c w, cases_whole cases es ws)) (λ _. (case_bits_whole e _ w, cases_whole (c ∷ cases) es ws))

pub place_whole : (root : Root) (state : TailoringState) (place : ResetPlace) → IsWholeState state
    → AreWhole (place_elements root state place)
place_whole root state (at_string s) w = text_whole state.mappings (nfd s) w.mappings
place_whole root state (at_position position) w = (position_whole root state.tree position, tt)

pub before_whole : (root : Root) (level : ℕ) (state : TailoringState) → 1 ≤ level → level ≤ 4 → IsWholeState state
    → IsWholeState (before_step root level state)
unfolding before_step
before_whole root level state p q w =
    let counting = counting_at level state.elements in
    let counting_is = counting_whole level state.elements w.elements in
    record {
      elements = with_last_whole counting _ counting_is
          (new_whole level (last_element counting) _ p q (last_whole counting counting_is));
      mappings = w.mappings;
    }

pub level_within : (strength : Strength) → (1 ≤ before_level strength) × (before_level strength ≤ 4)
level_within Primary = (omega arith, omega arith)
level_within Secondary = (omega arith, omega arith)
level_within Tertiary = (omega arith, omega arith)
level_within Quaternary = (omega arith, omega arith)
level_within Identical = (omega arith, omega arith)

pub reset_whole : (root : Root) (before : Option Strength) (place : ResetPlace) (state : TailoringState) → IsWholeState state
    → IsWholeState (reset_step root before place state)
unfolding reset_step
reset_whole root None place state w = record { elements = place_whole root state place w; mappings = w.mappings }
reset_whole root (Some strength) place state w =
    let at : TailoringState = record state { elements = place_elements root state place } in
    let at_whole : IsWholeState at = record { elements = place_whole root state place w; mappings = w.mappings } in
    before_whole root (before_level strength) at (level_within strength).0 (level_within strength).1 at_whole

pub difference_whole : (level : ℕ) (state : TailoringState) → 1 ≤ level → level ≤ 4 → IsWholeState state
    → IsWholeState (difference_step level state)
unfolding difference_step
difference_whole level state p q w =
    let counting = counting_at level state.elements in
    let counting_is = counting_whole level state.elements w.elements in
    record {
      elements = with_last_whole counting _ counting_is
          (new_whole level (last_element counting) (Tailored state.made) p q (last_whole counting counting_is));
      mappings = w.mappings;
    }

pub strength_whole : (strength : Strength) (state : TailoringState) → IsWholeState state → IsWholeState (strength_step strength state)
strength_whole Primary state w = difference_whole 1 state (omega arith) (omega arith) w
strength_whole Secondary state w = difference_whole 2 state (omega arith) (omega arith) w
strength_whole Tertiary state w = difference_whole 3 state (omega arith) (omega arith) w
strength_whole Quaternary state w = difference_whole 4 state (omega arith) (omega arith) w
strength_whole Identical state w = w

mapping_whole : (prefix string : List ℕ) (es : List SymbolicElement) (state : TailoringState) → AreWhole es
    → IsWholeState state → IsWholeState (mapping_step prefix string es state)
mapping_whole prefix [] es state ws w = w
mapping_whole prefix (c ∷ suffix) es state ws w = record {
  elements = w.elements;
  mappings = λ other. either HaveWhole (other == c) _ (state.mappings other)
      (λ _. (ws, have_filter IsWhole _ (state.mappings c) (w.mappings c))) (λ _. w.mappings other);
}

pub relation_whole : (root : Root) (strength : Strength) (prefix string extension : List ℕ) (state : TailoringState)
    → IsWholeState state → IsWholeState (relation_step root strength prefix string extension state)
unfolding relation_step
relation_whole root strength prefix string extension state w =
    let stepped = strength_step strength state in
    let stepped_whole = strength_whole strength state w in
    let different : TailoringState = case_step root (nfd string) stepped in
    let put_behind = symbolic_elements state.mappings (nfd extension) in
    let cased = cases_whole _ stepped.elements stepped_whole.elements in
    let different_whole : IsWholeState different = record { elements = cased; mappings = stepped_whole.mappings } in
    mapping_whole (nfd prefix) (nfd string) (different.elements ++ put_behind) different
    (each_append IsWhole different.elements put_behind cased (text_whole state.mappings (nfd extension) w.mappings))
    different_whole

pub rule_whole : (root : Root) (state : TailoringState) (rule : Rule) → IsWholeState state
    → IsWholeState (rule_step root state rule)
unfolding suppression_step
rule_whole root state (reset before place) w = reset_whole root before place state w
rule_whole root state (relation strength prefix string extension) w =
    relation_whole root strength prefix string extension state w
rule_whole root state (suppression ranges) w = record {
  elements = w.elements;
  mappings = λ c. either HaveWhole (have_character ranges c) (filter has_no_context (state.mappings c)) (state.mappings c)
      (λ _. have_filter IsWhole has_no_context (state.mappings c) (w.mappings c)) (λ _. w.mappings c);
}
rule_whole root state (setting said) w = record { elements = w.elements; mappings = w.mappings }

pub after_whole : (root : Root) (state : TailoringState) (rules : List Rule) → IsWholeState state
    → IsWholeState (state_after root state rules)
after_whole root state [] w = w
after_whole root state (rule ∷ rules) w = after_whole root (rule_step root state rule) rules (rule_whole root state rule w)

pub first_whole_state : (root : Root) → IsWholeState (first_state root)
first_whole_state root = record { elements = tt; mappings = λ c. root_mappings_whole (root.mappings c) }

pub tailoring_whole : (root : Root) (rules : List Rule) → IsWholeState (tailoring_of root rules)
tailoring_whole root rules = after_whole root (first_state root) rules (first_whole_state root)
