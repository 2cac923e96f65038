use Rattle.icu_rule_parser.proofs.StatementLemmas.{take_extension}
use Rattle.std.proofs.Common.{arith}
use Rattle.std.proofs.Common.{rules}
use Rattle.icu_rule_parser.specs.declared.unplaced_error.UnplacedError.{UnplacedError}
use Rattle.icu_rule_parser.specs.TakenFaults.{AreInner, IsPart}
use Rattle.icu_rule_parser.proofs.FaultLemmas.{handed_on}
use Rattle.icu_rule_parser.proofs.FaultPlaceLemmas.{extension_part}
use Rattle.icu_rule_parser.proofs.relations.read_extension.Goals as goal

pub returns-in_ok-extension-in-Some-clause-taken : goal.returns-in_ok-extension-in-Some-clause-taken
returns-in_ok-extension-in-Some-clause-taken c =
    take_extension c.in-Some.after.now c.in_ok-extension-in-Some.extension.items
    (omega (arith, c.in_ok-extension-in-Some.ensures.some, c.in_ok-extension-in-Some.extension.ok.0)) c.skip_blanks.ensures.takes
    c.in-Some.ensures c.in_ok-extension-in-Some.ensures.taken

pub returns-in_err-extension-in-Some-clause-fault : goal.returns-in_err-extension-in-Some-clause-fault
returns-in_err-extension-in-Some-clause-fault c =
    handed_on _ c.in_err-extension-in-Some.field-0.0 (λ (e : UnplacedError). IsPart AreInner e c.args.text.now) (search rules)
    (extension_part c.in_err-extension-in-Some.field-0.0 c.in-Some.after.now c.skip_blanks.ensures.takes c.in-Some.ensures c.in_err-extension-in-Some.ensures.fault)
