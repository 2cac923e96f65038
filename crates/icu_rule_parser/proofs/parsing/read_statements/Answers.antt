use Rattle.std.proofs.Common.{◌≡◌, arith, map, ap, ◌∙◌, rules, length, inl, refl, sym, subst}
use Rattle.std.proofs.lemmas.List.{map-append, nil_from_length}
use Rattle.std.proofs.lemmas.Grind.{common_steps}
use Rattle.icu_rule_parser.proofs.ParsingLemmas.{told_first, told_step, ordered_first, ordered_step, all_told}
use Rattle.icu_rule_parser.specs.declared.unplaced_error.UnplacedError.{UnplacedError}
use Rattle.icu_rule_parser.specs.declared.unplaced_error.UnplacedError.TheVariants.{Refused}
use Rattle.icu_rule_parser.specs.declared.rules_error.RulesErrorKind.TheVariants as kinds
use Rattle.icu_rule_parser.specs.TakenFaults.{IsFaultIn}
use Rattle.icu_rule_parser.proofs.FaultLemmas.{line_next, chain_next, last_next, fault_in, handed_on, no_sign_in}
use Rattle.icu_rule_parser.proofs.parsing.read_statements.Goals as goal

pub loop-rest-init : goal.loop-rest-init
loop-rest-init c = record {
  told = rw (c.new-statements.ensures.items) (told_first c.skip_blanks-rest.ensures.takes);
  ordered = rw (c.new-statements.ensures.items) ordered_first;
  line = rw (c.new-statements.ensures.items) tt;
  chain = rw (c.new-statements.ensures.items) refl;
  last = inl (ap (λ ps. map (λ p. p.statement) ps) c.new-statements.ensures.items);
  visible = c.skip_blanks-rest.ensures.ends;
  len = omega (arith, c.skip_blanks-rest.ensures.len);
}

pub loop-rest-preserved : goal.loop-rest-preserved
loop-rest-preserved c = record {
  told = told_step _ _ c.in_ok-statement.statement
      (ap (λ ps. map (λ p. p.statement) ps) c.in_ok-push.ensures.items ∙ map-append _ _ _)
      c.loop-rest.invariant.told c.in_ok-statement.ensures.taken c.skip_blanks-rest-in-loop-rest.ensures.takes;
  ordered = ordered_step _ _ c.in_ok-statement.statement
      (ap (λ ps. map (λ p. p.statement) ps) c.in_ok-push.ensures.items ∙ map-append _ _ _)
      c.loop-rest.invariant.ordered c.in_ok-statement.ensures.stands c.after-chain.ensures;
  line = line_next (map (λ p. p.statement) c.loop-rest.statements.items) _ c.in_ok-statement.statement
      (ap (λ ps. map (λ p. p.statement) ps) c.in_ok-push.ensures.items ∙ map-append _ _ _)
      c.loop-rest.invariant.line c.loop-rest.invariant.chain c.in_ok-statement.ensures.stands;
  chain = chain_next (map (λ p. p.statement) c.loop-rest.statements.items) _ c.in_ok-statement.statement
      (ap (λ ps. map (λ p. p.statement) ps) c.in_ok-push.ensures.items ∙ map-append _ _ _)
      c.loop-rest.invariant.chain c.after-chain.ensures;
  last = last_next (map (λ p. p.statement) c.loop-rest.statements.items) _ c.in_ok-statement.statement
      (ap (λ ps. map (λ p. p.statement) ps) c.in_ok-push.ensures.items ∙ map-append _ _ _)
      c.loop-rest.invariant.told c.loop-rest.invariant.line c.loop-rest.invariant.visible;
  visible = c.skip_blanks-rest-in-loop-rest.ensures.ends;
  len = omega (
    arith,
    c.skip_blanks-rest-in-loop-rest.ensures.len,
    c.in_ok-statement.ensures.len,
    c.loop-rest.invariant.len,
  );
}

pub returns-clause-says : goal.returns-clause-says
returns-clause-says c =
    let none : length c.loop-rest.rest.now ≡ 0 = grind (arith, common_steps) in
    all_told _ (nil_from_length _ none) c.loop-rest.invariant.told c.loop-rest.invariant.ordered
    (c.is_complete.ensures.complete (search rules))

pub returns-in_err-statement-clause-fault : goal.returns-in_err-statement-clause-fault
returns-in_err-statement-clause-fault c =
    handed_on c.from_residual.result c.in_err-statement.field-0.0 (λ (e : UnplacedError). IsFaultIn e c.args.text.now)
    (search rules)
    (fault_in c.in_err-statement.field-0.0 (map (λ p. p.statement) c.loop-rest.statements.items) c.loop-rest.chain
    c.args.text.now c.loop-rest.before.now c.loop-rest.rest.now c.loop-rest.invariant.told c.loop-rest.invariant.line
    c.loop-rest.invariant.chain c.loop-rest.invariant.last c.loop-rest.invariant.visible c.in_err-statement.ensures.fault)

pub returns-then-not-is_complete-clause-fault : goal.returns-then-not-is_complete-clause-fault
returns-then-not-is_complete-clause-fault c =
    let none : length c.loop-rest.rest.now ≡ 0 = grind (arith, common_steps) in
    subst (λ (e : UnplacedError). IsFaultIn e c.args.text.now) (sym c.at.ensures)
    (fault_in (Refused (length c.loop-rest.before.now) kinds.ResetWithoutRelation)
    (map (λ p. p.statement) c.loop-rest.statements.items) c.loop-rest.chain
    c.args.text.now c.loop-rest.before.now c.loop-rest.rest.now c.loop-rest.invariant.told c.loop-rest.invariant.line
    c.loop-rest.invariant.chain c.loop-rest.invariant.last c.loop-rest.invariant.visible
    (refl, c.is_complete.ensures.incomplete (search rules), no_sign_in (nil_from_length _ none)))
