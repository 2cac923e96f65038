-- How worked rows are computed: texts in the order that rules give them over the small root.
use Rattle.std.proofs.Common.{ℕ, zero, suc, ◌+◌, ◌*◌, List, [], ◌∷◌, ◌++◌, Some, None, if◌then◌else◌, Less, Equal, Greater}
use Rattle.unicode_normalization.specs.Forms.{nfd}
use Rattle.icu_options.specs.declared.settings.Strength.{Strength}
use Rattle.icu_rule_parser.specs.declared.statement.LogicalPosition.{LogicalPosition}
use Rattle.icu_rule_meaning.specs.Rules.{at_string, at_position, Rule, reset, relation}
use Rattle.icu_rule_meaning.specs.declared.symbolic.SymbolicWeight.{SymbolicWeight}
use Rattle.icu_rule_meaning.specs.declared.symbolic.SymbolicWeight.TheVariants.{Rooted, Tailored}
use Rattle.icu_rule_meaning.specs.declared.symbolic.SymbolicElement.{SymbolicElement}
use Rattle.icu_rule_meaning.specs.SymbolicElements.{is_same_weight}
use Rattle.icu_rule_meaning.specs.WeightTrees.{WeightTree}
use Rattle.icu_rule_meaning.specs.TailoredMappings.{symbolic_elements}
use Rattle.icu_rule_meaning.specs.Steps.{TailoringState, tailoring_of}
use Rattle.icu_rule_meaning.specs.SymbolicOrders.{Numbering, level_order}
use Rattle.icu_rule_meaning.proofs.SmallRoot.{small_root}

-- ---- rules

-- `& s`
abbrev pub to : List ℕ → Rule
to s = reset None (at_string s)

-- `& [before n] s`
abbrev pub before : Strength → List ℕ → Rule
before strength s = reset (Some strength) (at_string s)

-- `& [position]`
abbrev pub at : LogicalPosition → Rule
at position = reset None (at_position position)

-- `< s` and so on
abbrev pub differs : Strength → List ℕ → Rule
differs strength s = relation strength [] s []

-- ---- orders

-- the last weight of the root up to one of the siblings, with room for 1000 behind it, and how many stand between
abbrev number_from : ℕ → SymbolicWeight → List SymbolicWeight → ℕ
number_from n w [] = n
number_from n w (Rooted v ∷ siblings) =
    if is_same_weight (Rooted v) w then 1000 * v else number_from (1000 * v) w siblings
number_from n w (Tailored k ∷ siblings) =
    if is_same_weight (Tailored k) w then n + 1 else number_from (n + 1) w siblings

abbrev number_of : WeightTree → List SymbolicWeight → List SymbolicWeight → ℕ
number_of tree above [] = 0
number_of tree above (Rooted w ∷ []) = 1000 * w
number_of tree above (Tailored k ∷ []) = number_from 0 (Tailored k) (tree above)
number_of tree above (w ∷ v ∷ ws) = number_of tree (above ++ w ∷ []) (v ∷ ws)

abbrev numbers : WeightTree → Numbering
numbers tree weights = number_of tree [] weights

-- the first level at which two lists of elements differ; 0 where there is none, and 9 where the first is greater
abbrev difference_from : ℕ → ℕ → Numbering → List SymbolicElement → List SymbolicElement → ℕ
difference_from zero level numbering es fs = 0
difference_from (suc levels) level numbering es fs =
    elim (level_order numbering level es fs) [
      | Less ↦ level
      | Equal ↦ difference_from levels (level + 1) numbering es fs
      | Greater ↦ 9
    ]

-- the differences of texts from those before them
abbrev differences : TailoringState → List ℕ → List (List ℕ) → List ℕ
differences state text [] = []
differences state text (next ∷ texts) =
    difference_from 4 1 (numbers state.tree) (symbolic_elements state.mappings (nfd text)) (symbolic_elements state.mappings (nfd next))
    ∷ differences state next texts

-- the differences of texts from those before them, by rules over the small root
abbrev pub order_by : List Rule → List ℕ → List (List ℕ) → List ℕ
order_by rules text texts = differences (tailoring_of small_root rules) text texts
