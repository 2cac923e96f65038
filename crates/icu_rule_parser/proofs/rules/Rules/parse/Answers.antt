use Rattle.std.proofs.Common.{ℕ, List, ◌≡◌, length, map, ap, ◌∙◌, sym, subst, arith}
use Rattle.std.specs.Prelude.{chars}
use Rattle.icu_rule_parser.specs.Statements.{SpellStatements}
use Rattle.icu_rule_parser.specs.declared.rules_error.RulesError.{RulesError}
use Rattle.icu_rule_parser.specs.RulePlaces.{IsPlaced, IsPlacedFault}
use Rattle.icu_rule_parser.specs.TakenFaults.{IsFaultIn}
use Rattle.icu_rule_parser.proofs.FaultLemmas.{placed_fault}
use Rattle.icu_rule_parser.proofs.rules.Rules.parse.Goals as goal

pub returns-in-Ok-clause-says : goal.returns-in-Ok-clause-says
returns-in-Ok-clause-says c =
    subst (λ (t : List ℕ). SpellStatements (map (λ p. p.statement) c.in-Ok.statements.items) t)
    (c.as_slice.ensures.value ∙ c.in_ok-characters.ensures) c.in-Ok.ensures.says

pub returns-clause-placed : goal.returns-clause-placed
returns-clause-placed c =
    let same : c.len.result ≡ length (chars c.args.text.now) =
    omega (arith, c.len.ensures, c.in_ok-characters.characters.ok.0, ap length c.in_ok-characters.ensures) in
    subst (λ (n : ℕ). IsPlaced c.in_rules.result n) same c.in_rules.ensures.placed

pub returns-clause-fault : goal.returns-clause-fault
returns-clause-fault c =
    let text : List ℕ = chars c.args.text.now in
    let same : c.len.result ≡ length (chars c.args.text.now) =
    omega (arith, c.len.ensures, c.in_ok-characters.characters.ok.0, ap length c.in_ok-characters.ensures) in
    subst (λ (r : RulesError). IsPlacedFault r text) (sym c.in_rules.ensures.exact)
    (placed_fault c.in-Err.error text c.len.result same
    (subst (λ (t : List ℕ). IsFaultIn c.in-Err.error t) (c.as_slice.ensures.value ∙ c.in_ok-characters.ensures)
    c.in-Err.ensures.fault))
