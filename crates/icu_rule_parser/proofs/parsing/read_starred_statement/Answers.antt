use Rattle.icu_rule_parser.proofs.ParsingLemmas.{take_starred}
use Rattle.std.proofs.Common.{rules}
use Rattle.icu_rule_parser.specs.declared.unplaced_error.UnplacedError.{UnplacedError}
use Rattle.icu_rule_parser.specs.RulePlaces.{BeginOne}
use Rattle.icu_rule_parser.specs.TakenFaults.{IsPart}
use Rattle.icu_rule_parser.proofs.FaultLemmas.{handed_on}
use Rattle.icu_rule_parser.proofs.FaultPlaceLemmas.{signed_part}
use Rattle.icu_rule_parser.proofs.parsing.read_starred_statement.Goals as goal

pub returns-clause-taken : goal.returns-clause-taken
returns-clause-taken c =
    take_starred c.args.sign c.in_ok-relation.relation c.requires.sign c.requires.starred
    c.in_ok-relation.ensures.strength c.in_ok-relation.ensures.taken

pub returns-in_err-relation-clause-fault : goal.returns-in_err-relation-clause-fault
returns-in_err-relation-clause-fault c =
    handed_on _ c.in_err-relation.field-0.0 (λ (e : UnplacedError). IsPart BeginOne e c.args.text.now) (search rules)
    (signed_part c.in_err-relation.field-0.0 c.args.sign c.requires.sign c.in_err-relation.ensures.fault)
