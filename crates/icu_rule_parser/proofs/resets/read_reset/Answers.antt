use Rattle.icu_rule_parser.proofs.StatementLemmas.{reset_position, reset_before}
use Rattle.std.proofs.Common.{rules}
use Rattle.icu_rule_parser.specs.declared.unplaced_error.UnplacedError.{UnplacedError}
use Rattle.icu_rule_parser.specs.RulePlaces.{IsBeforeLevel}
use Rattle.icu_rule_parser.specs.TakenFaults.{IsPart}
use Rattle.icu_rule_parser.proofs.FaultLemmas.{handed_on}
use Rattle.icu_rule_parser.proofs.FaultPlaceLemmas.{before_first, before_bracket, before_part}
use Rattle.icu_rule_parser.proofs.resets.read_reset.Goals as goal

pub returns-in-Position-clause-taken : goal.returns-in-Position-clause-taken
returns-in-Position-clause-taken c =
    reset_position _ c.skip_blanks-text.ensures.takes c.in-Position.is c.in_ok-said.ensures.taken

pub returns-in_ok-anchor-in-Before-clause-taken : goal.returns-in_ok-anchor-in-Before-clause-taken
returns-in_ok-anchor-in-Before-clause-taken c =
    reset_before _ _ c.skip_blanks-text.ensures.takes c.in-Before.is c.in_ok-said.ensures.taken
    c.in_ok-anchor-in-Before.ensures.taken

pub returns-in_err-anchor-clause-fault : goal.returns-in_err-anchor-clause-fault
returns-in_err-anchor-clause-fault c =
    handed_on _ c.in_err-anchor.field-0.0 (λ (e : UnplacedError). IsPart IsBeforeLevel e c.args.text.now) (search rules)
    (before_first c.in_err-anchor.field-0.0 c.skip_blanks-text.ensures.takes c.in_err-anchor.ensures.fault)

pub returns-in_err-said-clause-fault : goal.returns-in_err-said-clause-fault
returns-in_err-said-clause-fault c =
    handed_on _ c.in_err-said.field-0.0 (λ (e : UnplacedError). IsPart IsBeforeLevel e c.args.text.now) (search rules)
    (before_bracket c.in_err-said.field-0.0 c.skip_blanks-text.ensures.takes c.in_err-said.ensures.fault)

pub returns-in_err-anchor-in-Before-clause-fault : goal.returns-in_err-anchor-in-Before-clause-fault
returns-in_err-anchor-in-Before-clause-fault c =
    handed_on _ c.in_err-anchor-in-Before.field-0.0 (λ (e : UnplacedError). IsPart IsBeforeLevel e c.args.text.now) (search rules)
    (before_part c.in_err-anchor-in-Before.field-0.0 c.in-Before.level c.skip_blanks-text.ensures.takes c.in-Before.is c.in_ok-said.ensures.taken c.in_err-anchor-in-Before.ensures.fault)
