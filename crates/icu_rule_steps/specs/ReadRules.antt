-- What reading rules leaves.
use Rattle.std.specs.Prelude.{◌≡◌, ◌++◌, ℕ, List, Option, Some, None}
use Rattle.icu_options.specs.declared.settings.Strength.{Strength}
use Rattle.icu_rule_parser.specs.declared.statement.Relation.{Relation}
use Rattle.icu_rule_meaning.specs.Rules.{Rule, relation}
use Rattle.icu_rule_meaning.specs.TailoredRoots.{Root}
use Rattle.icu_rule_meaning.specs.Steps.{TailoringState, before_level, before_step, case_step, mapping_step, strength_step, rule_step, state_after}
use Rattle.icu_rule_meaning.specs.TailoredMappings.{symbolic_elements}
use Rattle.icu_rule_steps.specs.RuleFaults.{rule_fault, first_fault}
use Rattle.icu_rule_steps.specs.declared.rule_step_error.RuleStepError.{RuleStepError}
use Rattle.icu_rule_steps.specs.declared.rule_step_error.RuleStepError.TheVariants.{NoMemory, Refused}
use Rattle.icu_rule_steps.specs.declared.tailoring_error.TailoringError.{TailoringError}
use Rattle.icu_rule_steps.specs.declared.tailoring_error.TailoringError.TheVariants as errors
use Rattle.icu_rule_steps.specs.declared.tailoring_error.TailoringErrorKind.{TailoringErrorKind}

-- the rule that a relation of strings is
abbrev pub rule_of_relation : Relation → Rule
rule_of_relation r = relation r.strength r.prefix.items r.string.items r.extension.items

-- the state before the elements, where a reset says so
abbrev pub maybe_before : Root → Option Strength → TailoringState → TailoringState
maybe_before root None state = state
maybe_before root (Some strength) state = before_step root (before_level strength) state

-- what a relation of decomposed strings makes of a state
abbrev pub decomposed_step : Root → Strength → List ℕ → List ℕ → List ℕ → TailoringState → TailoringState
decomposed_step root strength prefix string extension state =
    let different : TailoringState = case_step root string (strength_step strength state) in
    mapping_step prefix string (different.elements ++ symbolic_elements state.mappings extension) different

-- the rule is not refused, and makes one state of another
pub record ReadsRule (root : Root) (rule : Rule) (old new : TailoringState) : Type 0 where
  pub state : new ≡ rule_step root old rule
  pub sound : rule_fault root old rule ≡ None

-- none of the rules is refused, and they make one state of another
pub record ReadsRules (root : Root) (rules : List Rule) (old new : TailoringState) : Type 0 where
  pub state : new ≡ state_after root old rules
  pub sound : first_fault root old rules ≡ None

-- out of memory, or this is the reason
abbrev pub IsReason : Option TailoringErrorKind → RuleStepError → Type 0
IsReason fault NoMemory = Unit {0}
IsReason fault (Refused kind) = fault ≡ Some kind

-- out of memory, or this is the error
abbrev pub IsError : Option TailoringError → TailoringError → Type 0
IsError found errors.NoMemory = Unit {0}
IsError found (errors.Refused place led kind) = found ≡ Some (errors.Refused place led kind)
