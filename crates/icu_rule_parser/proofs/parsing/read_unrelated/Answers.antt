use Rattle.icu_rule_parser.proofs.ParsingLemmas.{take_backwards, take_vowels, begins}
use Rattle.icu_rule_parser.specs.declared.unplaced_error.UnplacedError.{UnplacedError}
use Rattle.std.proofs.Common.{inl}
use Rattle.icu_rule_parser.specs.TakenFaults.{IsInBracket, IsOtherFault}
use Rattle.icu_rule_parser.proofs.FaultLemmas.{err_map}
use Rattle.icu_rule_parser.proofs.FaultPlaceLemmas.{statement_bracket}
use Rattle.icu_rule_parser.proofs.parsing.read_unrelated.Goals as goal

pub returns-in-64-clause-taken : goal.returns-in-64-clause-taken
returns-in-64-clause-taken c = take_backwards (begins 64 c.in-Some.ensures c.in-64.is)

pub returns-in-33-clause-taken : goal.returns-in-33-clause-taken
returns-in-33-clause-taken c = take_vowels (begins 33 c.in-Some.ensures c.in-33.is)

pub returns-in-91-clause-fault : goal.returns-in-91-clause-fault
returns-in-91-clause-fault c =
    err_map c.read_bracketed.result (λ (e : UnplacedError). IsInBracket e c.args.text.now)
    (λ (e : UnplacedError). IsOtherFault e c.args.text.now)
    (λ (e : UnplacedError) (h : IsInBracket e c.args.text.now). inl (statement_bracket e c.args.text.now h)) c.read_bracketed.ensures.fault
