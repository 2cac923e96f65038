-- Where no statement is refused, none of the first ones is.
use Rattle.std.proofs.Common.{◌≡◌, ℕ, zero, suc, ◌+◌, Bool, true, false, List, [], ◌∷◌, take, Option, Some, None, cond, nat_lt, refl, ap, ◌∙◌}
use Rattle.std.specs.Option.{option_or}
use Rattle.icu_rule_parser.specs.declared.rules.PlacedStatement.{PlacedStatement}
use Rattle.icu_rule_meaning.specs.Rules.{statement_rules}
use Rattle.icu_rule_meaning.specs.Steps.{TailoringState, state_after}
use Rattle.icu_rule_meaning.specs.TailoredRoots.{Root}
use Rattle.icu_rule_steps.specs.RuleFaults.{count_error, first_error, first_fault, first_rule_error, most_relations, or_error, relation_count}
use Rattle.icu_rule_steps.specs.ReadRules.{IsError}
use Rattle.icu_rule_steps.specs.declared.tailoring_error.TailoringError.{TailoringError}
use Rattle.icu_rule_steps.specs.declared.tailoring_error.TailoringError.TheVariants as errors
use Rattle.icu_rule_steps.specs.declared.tailoring_error.TailoringErrorKind.{TailoringErrorKind}
use Rattle.icu_rule_steps.specs.declared.tailoring_error.TailoringErrorKind.TheVariants.{TooManyRelations}

further : (placed : PlacedStatement) (fault : Option TailoringErrorKind) (more less : Option TailoringError)
    → (more ≡ None → less ≡ None) → or_error placed fault more ≡ None → or_error placed fault less ≡ None
further placed None more less h e = h e
further placed (Some kind) more less h e = cc

rules_unrefused : (root : Root) (state : TailoringState) (placed : List PlacedStatement) (count : ℕ)
    → first_rule_error root state placed ≡ None → first_rule_error root state (take count placed) ≡ None
rules_unrefused root state placed zero e = refl
rules_unrefused root state [] (suc count) e = refl
rules_unrefused root state (p ∷ placed) (suc count) e =
    further p (first_fault root state (statement_rules p.statement))
    (first_rule_error root (state_after root state (statement_rules p.statement)) placed)
    (first_rule_error root (state_after root state (statement_rules p.statement)) (take count placed))
    (rules_unrefused root (state_after root state (statement_rules p.statement)) placed count) e

fewer : (many : Bool) (error : TailoringError) (more less : Option TailoringError)
    → (more ≡ None → less ≡ None) → cond many (Some error) more ≡ None → cond many (Some error) less ≡ None
fewer true error more less h e = cc
fewer false error more less h e = h e

few_first : (before : ℕ) (placed : List PlacedStatement) (count : ℕ)
    → count_error before placed ≡ None → count_error before (take count placed) ≡ None
few_first before placed zero e = refl
few_first before [] (suc count) e = refl
few_first before (p ∷ placed) (suc count) e =
    let now : ℕ = before + relation_count p.statement in
    fewer (nat_lt most_relations now) (errors.Refused p.place p.import TooManyRelations)
    (count_error now placed) (count_error now (take count placed)) (few_first now placed count) e

both_none : (one other : Option TailoringError) → option_or one other ≡ None → (one ≡ None) × (other ≡ None)
both_none None other e = (refl, e)
both_none (Some error) other e = cc

pub first_unrefused : (root : Root) (state : TailoringState) (placed : List PlacedStatement) (count : ℕ)
    → first_error root state placed ≡ None → first_error root state (take count placed) ≡ None
first_unrefused root state placed count e =
    let both = both_none (count_error 0 placed) (first_rule_error root state placed) e in
    ap (λ o. option_or o (first_rule_error root state (take count placed))) (few_first 0 placed count both.0)
    ∙ rules_unrefused root state placed count both.1

-- an error of none is one of memory
pub of_memory : (found : Option TailoringError) (e : TailoringError) → found ≡ None → IsError found e → e ≡ errors.NoMemory
of_memory found errors.NoMemory none is = refl
of_memory found (errors.Refused place led kind) none is = cc
