use Rattle.icu_rule_parser.proofs.ParsingLemmas.{take_reset}
use Rattle.std.proofs.Common.{rules}
use Rattle.icu_rule_parser.specs.declared.unplaced_error.UnplacedError.{UnplacedError}
use Rattle.icu_rule_parser.specs.RulePlaces.{BeginOne}
use Rattle.icu_rule_parser.specs.TakenFaults.{IsPart}
use Rattle.icu_rule_parser.proofs.FaultLemmas.{handed_on}
use Rattle.icu_rule_parser.proofs.FaultPlaceLemmas.{reset_part}
use Rattle.icu_rule_parser.proofs.parsing.read_reset_statement.Goals as goal

pub returns-clause-taken : goal.returns-clause-taken
returns-clause-taken c = take_reset c.in_ok-reset.reset c.requires c.in_ok-reset.ensures.taken

pub returns-in_err-reset-clause-fault : goal.returns-in_err-reset-clause-fault
returns-in_err-reset-clause-fault c =
    handed_on _ c.in_err-reset.field-0.0 (λ (e : UnplacedError). IsPart BeginOne e c.args.text.now) (search rules)
    (reset_part c.in_err-reset.field-0.0 c.requires c.in_err-reset.ensures.fault)
