use Rattle.std.proofs.Common.{rules, length}
use Rattle.icu_rule_parser.proofs.StringLemmas.{characters_step, characters_then}
use Rattle.icu_rule_parser.specs.declared.unplaced_error.UnplacedError.{UnplacedError}
use Rattle.icu_rule_parser.specs.declared.unplaced_error.UnplacedError.TheVariants.{Refused}
use Rattle.icu_rule_parser.specs.declared.rules_error.RulesErrorKind.TheVariants as kinds
use Rattle.std.proofs.Common.{◌≡◌, ◌∙◌, true, false, refl, sym, subst, ◌∷◌, []}
use Rattle.std.proofs.lemmas.Bool.{not-true}
use Rattle.icu_rule_parser.specs.TakenText.{TakesCharacters}
use Rattle.icu_rule_parser.specs.TakenFaults.{IsInString}
use Rattle.icu_rule_parser.proofs.FaultLemmas.{handed_on}
use Rattle.icu_rule_parser.proofs.FaultPlaceLemmas.{opens_next, string_fault}
use Rattle.icu_rule_parser.proofs.StringOnce.{not_both}
use Rattle.icu_rule_parser.proofs.strings.read_characters.Goals.{then-is_within, else-is_within}
use Rattle.icu_rule_parser.proofs.strings.read_characters.Goals as goal

pub loop-characters-preserved : goal.loop-characters-preserved
loop-characters-preserved c =
    let clear : (c.if-is_within.newer ≡ true → c.loop-characters.within ≡ false) =
    elim c.if-is_within.branch [
      | then-is_within w ↦ λ h. not-true c.loop-characters.within (sym w.newer-is ∙ h)
      | else-is_within w ↦ λ h. absurd (not_both h (w.newer-is ∙ w.if-is_within.false))
    ] in record {
      taken = characters_step _ _ _ c.in_ok-push.ensures.items c.loop-characters.invariant.taken (rw c.in-Some.is at c.in_ok-c.ensures.taken)
          c.skip_quote-is_within.ensures.taken;
      opened = opens_next c.loop-characters.within c.if-is_within.newer c.push.new.self.items clear
          c.newer-opened.ensures.newer c.newer-opened.ensures.older c.loop-characters.invariant.opened
          (subst (λ cs. TakesCharacters false c.args.text.now cs c.loop-characters.within c.in-Some.after.now) (sym c.in_ok-push.ensures.items)
          (characters_then c.loop-characters.characters.items (c.in-Some.c ∷ []) c.loop-characters.invariant.taken (rw c.in-Some.is at c.in_ok-c.ensures.taken)));
      len = search rules;
    }

pub returns-in_err-c-clause-fault : goal.returns-in_err-c-clause-fault
returns-in_err-c-clause-fault c =
    handed_on _ c.in_err-c.field-0.0 (λ (e : UnplacedError). IsInString e c.args.text.now) (search rules)
    (string_fault c.in_err-c.field-0.0 c.loop-characters.characters.items c.loop-characters.within c.loop-characters.invariant.taken c.in_err-c.ensures.fault)

pub returns-then-within-clause-fault : goal.returns-then-within-clause-fault
returns-then-within-clause-fault c =
    subst (λ (e : UnplacedError). IsInString e c.args.text.now) (sym c.at.ensures)
    (string_fault (Refused (length c.loop-characters.opened.now) kinds.UnclosedQuote) c.loop-characters.invariant.opened.0 false c.loop-characters.invariant.opened.1 (refl, refl))
