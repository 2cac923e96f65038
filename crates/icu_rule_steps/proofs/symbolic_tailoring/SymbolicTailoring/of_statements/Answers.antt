-- Each statement is read in turn.
use Rattle.std.proofs.Common.{◌≡◌, ◌+◌, ◌∷◌, ℕ, List, drop, ap, sym, ◌∙◌}
use Rattle.std.proofs.lemmas.List.{drop_more}
use Rattle.icu_rule_parser.specs.declared.rules.PlacedStatement.{PlacedStatement}
use Rattle.icu_rule_meaning.specs.TailoredRoots.{Root}
use Rattle.icu_rule_steps.specs.SymbolicTailorings.{kept_mappings, root_in, state_in}
use Rattle.icu_rule_steps.proofs.RuleLoopLemmas.{one_placed}
use Rattle.icu_rule_meaning.specs.Rules.{rules_of, statement_rules}
use Rattle.icu_rule_steps.specs.symbolic_mappings.TouchedCharacters.{is_related, suppressed_by}
use Rattle.icu_rule_steps.proofs.TouchedRuleLemmas.{touched_more}
use Rattle.icu_rule_steps.proofs.symbolic_tailoring.SymbolicTailoring.of_statements.Goals as goal

pub loop-placed-preserved : goal.loop-placed-preserved
loop-placed-preserved g c =
    let mappings_of = g.R.RootMappings.mappings_of in
    let root : Root = root_in g.R.RootWeights.root mappings_of c.args.root.now in
    let placed : List PlacedStatement = c.args.statements.now in
    let i : ℕ = c.loop-placed.placed-index in
    let p : PlacedStatement = c.placed-item.result in
    let next : drop i placed ≡ p ∷ drop (i + 1) placed =
    drop_more placed i p c.loop-placed-test.true ∙ ap (λ y. y ∷ drop (i + 1) placed) (sym c.placed-item.is) in
    record {
      read = one_placed root placed (state_in mappings_of c.loop-placed.tailoring) (state_in mappings_of c.read_statement.new.self) (drop i placed)
          (drop (i + 1) placed) p next c.loop-placed.invariant.read c.in_default.ensures.ok;
      touched = touched_more (is_related (rules_of placed)) (suppressed_by (rules_of placed)) c.args.root.now (kept_mappings c.loop-placed.tailoring)
          (kept_mappings c.read_statement.new.self) (rules_of (drop i placed)) (statement_rules p.statement) (rules_of (drop (i + 1) placed))
          (ap rules_of next) c.loop-placed.invariant.touched c.in_default.ensures.touched;
    }
