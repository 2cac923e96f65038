use Rattle.std.proofs.Common.{◌≡◌, ◌∷◌, ◌-◌, List, ℕ, true, false, arith, sym, ap, ◌∙◌}
use Rattle.std.proofs.lemmas.Bool.Decides.{nat_tests}
use Rattle.icu_rule_meaning.specs.TailoredCases.{cases_for, counts_first_at}
use Rattle.icu_rule_steps.proofs.symbolic_mappings.StringCaseLemmas.{no_case_left, case_kept, case_taken}
use Rattle.icu_rule_steps.proofs.symbolic_mappings.string_cases.take_case.Goals as goal

pub returns-then-left-eq0 : goal.returns-then-left-eq0
returns-then-left-eq0 c = λ es.
    no_case_left c.args.cases.now.left c.args.cases.now.cases.now c.args.element es c.other_case-other.result c.if-left-eq0.true c.other_case-other.ensures

pub returns-then-strength-ne1 : goal.returns-then-strength-ne1
returns-then-strength-ne1 c = λ es.
    let differs : counts_first_at 1 c.args.element ≡ false = grind (arith, nat_tests) in
    case_kept (cases_for c.args.cases.now.left c.args.cases.now.cases.now) c.args.element es c.other_case-other.result differs c.other_case-other.ensures

pub returns : goal.returns
returns c = λ es.
    let left : ℕ = c.args.cases.now.left in
    let same : counts_first_at 1 c.args.element ≡ true = grind (arith, nat_tests) in
    case_taken (cases_for left c.args.cases.now.cases.now) c.next_case-case.result (cases_for (left - 1) c.later_case_bits-cases.result.now) c.args.element es
    (c.next_case-case.ensures ∙ ap (λ (cs : List ℕ). c.next_case-case.result ∷ cases_for (left - 1) cs) (sym c.later_case_bits-cases.ensures)) same
