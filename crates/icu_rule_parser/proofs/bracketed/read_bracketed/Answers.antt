use Rattle.std.proofs.Common.{subst}
use Rattle.icu_rule_parser.specs.declared.brackets.Bracket.{Bracket}
use Rattle.icu_rule_parser.specs.TakenText.{TakesBracket}
use Rattle.icu_rule_parser.proofs.BracketLemmas.{take_stated}
use Rattle.icu_rule_parser.proofs.bracketed.read_bracketed.Goals as goal

pub returns-in_ok-of_set-in-Set-clause-taken : goal.returns-in_ok-of_set-in-Set-clause-taken
returns-in_ok-of_set-in-Set-clause-taken c =
    take_stated c.in_ok-of_set-in-Set.field-0 c.in-Set.word c.in-Set.ranges
    (subst (λ (b : Bracket). TakesBracket c.args.text.now b c.in_ok-bracket.after.now) c.in-Set.is c.in_ok-bracket.ensures.taken)
    c.in_ok-of_set-in-Set.ensures.says
