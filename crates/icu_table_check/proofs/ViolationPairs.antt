-- The earlier of two violations.
use Rattle.std.proofs.Common.{◌≡◌, Option, None, Result, Ok, Err, IfOk, IfSome, sym, ◌∙◌, subst}
use Rattle.icu_table_data.specs.Violations.{earlier}
use Rattle.icu_table_data.proofs.ViolationLemmas.{earlier-none, earlier-keeps}
use Rattle.icu_table_check.specs.declared.violation.Violation.{Violation}
use Rattle.icu_table_provider.specs.CollatorTables.{CollatorTables}
use Rattle.icu_table_check.specs.inner.Violations.{violation_rank}
use Rattle.icu_table_check.specs.inner.PairViolations.{IsOutcome}

pub both_none : (a b found : Option Violation) → found ≡ earlier violation_rank a b → found ≡ None → (a ≡ None) × (b ≡ None)
both_none a b found is none = earlier-none violation_rank a b (sym is ∙ none)

pub either_true : (T : Violation → Type 0) (a b found : Option Violation) → found ≡ earlier violation_rank a b → IfSome a T → IfSome b T → IfSome found T
either_true T a b found is p q = subst (λ o. IfSome o T) (sym is) (earlier-keeps violation_rank T a b p q)

-- what a check finds where there is no violation gives something else
pub outcome_of : {E : Type 0} (all : CollatorTables) (A B : Type 0) → (A → B) → (r : Result (Option Violation) E) → IfOk r (IsOutcome all A) → IfOk r (IsOutcome all B)
outcome_of all A B f (Ok found) h = record { none = λ none. f (h.none none); some = h.some }
outcome_of all A B f (Err e) h = tt
