use Rattle.std.proofs.Common.{map, ap, sym, refl, ◌∙◌, subst, List, ℕ}
use Rattle.icu_rule_parser.specs.Tokens.{set_bracket}
use Rattle.icu_rule_parser.specs.TakenText.{TakesWords}
use Rattle.icu_rule_parser.proofs.BracketLemmas.{take_words, take_set, set_is}
use Rattle.std.proofs.Common.{rules, inr}
use Rattle.icu_rule_parser.specs.declared.unplaced_error.UnplacedError.{UnplacedError}
use Rattle.icu_rule_parser.specs.TakenFaults.{IsInBracket}
use Rattle.icu_rule_parser.proofs.FaultLemmas.{handed_on}
use Rattle.icu_rule_parser.proofs.FaultPlaceLemmas.{bracket_behind}
use Rattle.icu_rule_parser.proofs.brackets.read_bracket.Goals as goal

pub returns-in-Some-clause-taken : goal.returns-in-Some-clause-taken
returns-in-Some-clause-taken c =
    (_, refl, take_words _ c.requires.opened c.in_ok-words.ensures.taken c.in-Some.ensures)

pub returns-in-Some-behind-clause-taken : goal.returns-in-Some-behind-clause-taken
returns-in-Some-behind-clause-taken c =
    let (stated, members, of, spelled, whole) = c.in_ok-ranges.ensures.taken in (
      set_bracket c.in-Some-only_word.word.now stated,
      (stated, of, refl),
      take_set c.in-Some-only_word.word.now stated members c.requires.opened
          (subst (λ (ws : List (List ℕ)). TakesWords c.args.inside.now ws c.in_ok-words.rest.now)
          (ap (λ ws. map (λ word. word.now) ws) (sym c.as_slice.ensures.value) ∙ c.in-Some-only_word.ensures)
          c.in_ok-words.ensures.taken)
          (set_is stated c.in_ok-ranges.ranges.items of) spelled whole c.in-Some-behind.ensures,
    )

pub returns-in_err-ranges-clause-fault : goal.returns-in_err-ranges-clause-fault
returns-in_err-ranges-clause-fault c =
    handed_on _ c.in_err-ranges.field-0.0 (λ (e : UnplacedError). IsInBracket e c.args.text.now) (search rules)
    (inr (bracket_behind c.in_err-ranges.field-0.0 _ c.requires.opened c.in_ok-words.ensures.taken c.in_err-ranges.ensures.fault))
