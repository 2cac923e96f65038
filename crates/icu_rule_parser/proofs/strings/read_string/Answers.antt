use Rattle.std.proofs.Common.{rules, arith}
use Rattle.std.proofs.lemmas.Grind.{common_steps}
use Rattle.icu_rule_parser.proofs.StringLemmas.{take_string}
use Rattle.icu_rule_parser.specs.declared.unplaced_error.UnplacedError.{UnplacedError}
use Rattle.icu_rule_parser.specs.declared.unplaced_error.UnplacedError.TheVariants.{Refused}
use Rattle.icu_rule_parser.specs.declared.rules_error.RulesErrorKind.TheVariants as kinds
use Rattle.std.proofs.Common.{refl, sym, subst, length}
use Rattle.icu_rule_parser.specs.TakenFaults.{AreNoTokens, IsPart}
use Rattle.icu_rule_parser.proofs.FaultLemmas.{handed_on}
use Rattle.icu_rule_parser.proofs.FaultPlaceLemmas.{string_part, blank_here}
use Rattle.icu_rule_parser.proofs.strings.read_string.Goals as goal

pub returns-clause-taken : goal.returns-clause-taken
returns-clause-taken c =
    take_string c.in_ok-characters.characters.items c.skip_blanks-text.ensures.takes c.in_ok-characters.ensures.taken
    (grind (arith, common_steps)) (search rules)

pub returns-in_err-characters-clause-fault : goal.returns-in_err-characters-clause-fault
returns-in_err-characters-clause-fault c =
    handed_on _ c.in_err-characters.field-0.0 (λ (e : UnplacedError). IsPart AreNoTokens e c.args.text.now) (search rules)
    (string_part c.in_err-characters.field-0.0 c.skip_blanks-text.ensures.takes c.in_err-characters.ensures.fault)

pub returns-then-is_empty-clause-fault : goal.returns-then-is_empty-clause-fault
returns-then-is_empty-clause-fault c =
    subst (λ (e : UnplacedError). IsPart AreNoTokens e c.args.text.now) (sym c.at.ensures)
    (blank_here (Refused (length c.skip_blanks-text.result.now) c.args.missing) c.skip_blanks-text.ensures.takes (refl, c.requires.part))

pub returns-then-not-are_allowed-clause-fault : goal.returns-then-not-are_allowed-clause-fault
returns-then-not-are_allowed-clause-fault c =
    subst (λ (e : UnplacedError). IsPart AreNoTokens e c.args.text.now) (sym c.at-then-not-are_allowed.ensures)
    (blank_here (Refused (length c.skip_blanks-text.result.now) kinds.ReservedCharacter) c.skip_blanks-text.ensures.takes (refl, refl))
