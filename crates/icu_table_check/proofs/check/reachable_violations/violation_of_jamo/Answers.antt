use Rattle.std.proofs.Common.{◌≡◌, ℕ, Some, sym, ◌∙◌}
use Rattle.icu_table_check.proofs.LoadedViolationLemmas.{loaded_place, loaded_place_true}
use Rattle.icu_table_check.proofs.check.reachable_violations.violation_of_jamo.Goals as goal

same_some : (a b : ℕ) → Some a ≡ Some b → a ≡ b
same_some a b h = cc

pub returns-in-Some-clause-none : goal.returns-in-Some-clause-none
returns-in-Some-clause-none c = λ h.
    loaded_place c.args.tables c.args.place c.args.entry c.in-Some.c c.requires.entry
    (same_some _ _ (sym c.in-Some.is ∙ c.jamo_char.ensures)) (c.first_violation_from.ensures.none.0 h).1

pub returns-in-Some-clause-some : goal.returns-in-Some-clause-some
returns-in-Some-clause-some c =
    loaded_place_true c.args.tables c.args.place c.args.entry c.in-Some.c c.requires.inside c.requires.entry
    (same_some _ _ (sym c.in-Some.is ∙ c.jamo_char.ensures)) c.first_violation_from.result c.first_violation_from.ensures.some
