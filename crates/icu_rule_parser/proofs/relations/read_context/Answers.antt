use Rattle.icu_rule_parser.proofs.StatementLemmas.{take_context}
use Rattle.std.proofs.Common.{arith}
use Rattle.std.proofs.Common.{rules}
use Rattle.icu_rule_parser.specs.declared.unplaced_error.UnplacedError.{UnplacedError}
use Rattle.icu_rule_parser.specs.TakenFaults.{AreInner, IsPart}
use Rattle.icu_rule_parser.proofs.FaultLemmas.{handed_on}
use Rattle.icu_rule_parser.proofs.FaultPlaceLemmas.{first_part, prefix_part}
use Rattle.icu_rule_parser.proofs.relations.read_context.Goals as goal

pub returns-in_ok-string-in-Some-clause-taken : goal.returns-in_ok-string-in-Some-clause-taken
returns-in_ok-string-in-Some-clause-taken c =
    take_context c.in-Some.after.now c.in_ok-first.first.items c.in_ok-string-in-Some.string.items
    (omega (arith, c.in_ok-first.ensures.some, c.in_ok-first.first.ok.0)) c.in_ok-first.ensures.taken
    c.skip_blanks.ensures.takes c.in-Some.ensures c.in_ok-string-in-Some.ensures.taken

pub returns-in_err-first-clause-fault : goal.returns-in_err-first-clause-fault
returns-in_err-first-clause-fault c =
    handed_on _ c.in_err-first.field-0.0 (λ (e : UnplacedError). IsPart AreInner e c.args.text.now) (search rules)
    (first_part c.in_err-first.field-0.0 c.args.text.now c.in_err-first.ensures.fault)

pub returns-in_err-string-in-Some-clause-fault : goal.returns-in_err-string-in-Some-clause-fault
returns-in_err-string-in-Some-clause-fault c =
    handed_on _ c.in_err-string-in-Some.field-0.0 (λ (e : UnplacedError). IsPart AreInner e c.args.text.now) (search rules)
    (prefix_part c.in_err-string-in-Some.field-0.0 c.in-Some.after.now c.in_ok-first.first.items c.in_ok-first.ensures.taken c.skip_blanks.ensures.takes c.in-Some.ensures c.in_err-string-in-Some.ensures.fault)
