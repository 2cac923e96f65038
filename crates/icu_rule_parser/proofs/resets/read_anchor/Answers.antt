use Rattle.std.proofs.Common.{[], ◌∷◌, refl}
use Rattle.icu_rule_parser.specs.Tokens.{string}
use Rattle.icu_rule_parser.proofs.SkipLemmas.{takes_then}
use Rattle.icu_rule_parser.proofs.StatementLemmas.{take_position}
use Rattle.icu_rule_parser.specs.declared.unplaced_error.UnplacedError.{UnplacedError}
use Rattle.icu_rule_parser.specs.declared.unplaced_error.UnplacedError.TheVariants.{Refused}
use Rattle.icu_rule_parser.specs.declared.rules_error.RulesErrorKind.TheVariants as kinds
use Rattle.std.proofs.Common.{sym, subst, length, rules}
use Rattle.icu_rule_parser.specs.TakenFaults.{AreNoTokens, IsPart}
use Rattle.icu_rule_parser.proofs.FaultLemmas.{handed_on}
use Rattle.icu_rule_parser.proofs.FaultPlaceLemmas.{blank_first, blank_here, blank_bracket}
use Rattle.icu_rule_parser.proofs.resets.read_anchor.Goals as goal

pub returns-in_default-clause-taken : goal.returns-in_default-clause-taken
returns-in_default-clause-taken c = (
  string c.in_ok-string.string.items ∷ [],
  refl,
  takes_then [] (string c.in_ok-string.string.items ∷ []) c.skip_blanks-text.ensures.takes
      c.in_ok-string.ensures.taken,
)

pub returns-in-Position-clause-taken : goal.returns-in-Position-clause-taken
returns-in-Position-clause-taken c =
    take_position _ c.skip_blanks-text.ensures.takes c.in-Position.is c.in_ok-said.ensures.taken

pub returns-in_err-string-clause-fault : goal.returns-in_err-string-clause-fault
returns-in_err-string-clause-fault c =
    handed_on _ c.in_err-string.field-0.0 (λ (e : UnplacedError). IsPart AreNoTokens e c.args.text.now) (search rules)
    (blank_first c.in_err-string.field-0.0 c.skip_blanks-text.ensures.takes c.in_err-string.ensures.fault)

pub returns-in_err-said-clause-fault : goal.returns-in_err-said-clause-fault
returns-in_err-said-clause-fault c =
    handed_on _ c.in_err-said.field-0.0 (λ (e : UnplacedError). IsPart AreNoTokens e c.args.text.now) (search rules)
    (blank_bracket c.in_err-said.field-0.0 c.skip_blanks-text.ensures.takes c.in_err-said.ensures.fault)

pub returns-in-Before-clause-fault : goal.returns-in-Before-clause-fault
returns-in-Before-clause-fault c =
    subst (λ (e : UnplacedError). IsPart AreNoTokens e c.args.text.now) (sym c.at.ensures)
    (blank_here (Refused (length c.skip_blanks-text.result.now) kinds.UnknownPosition) c.skip_blanks-text.ensures.takes (refl, refl))
