-- Statements are looked at in turn.
use Rattle.std.proofs.Common.{◌+◌, ◌∷◌, ℕ, List, drop, ap, sym, ◌∙◌}
use Rattle.std.proofs.lemmas.List.{drop_all, drop_more}
use Rattle.icu_rule_parser.specs.declared.rules.PlacedStatement.{PlacedStatement}
use Rattle.icu_rule_meaning.specs.TailoredRoots.{Root}
use Rattle.icu_rule_meaning.specs.Steps.{first_state}
use Rattle.icu_rule_steps.specs.WeightMakers.{maker_of}
use Rattle.icu_rule_steps.specs.SymbolicTailorings.{root_in, state_in}
use Rattle.icu_rule_steps.proofs.WeightMakerLemmas.{one_searched, searched_found, searched_all}
use Rattle.icu_rule_steps.proofs.symbolic_tailoring.SymbolicTailoring.maker_of.Goals as goal

pub returns-then-has_made-clause-made : goal.returns-then-has_made-clause-made
returns-then-has_made-clause-made g c =
    let mappings_of = g.R.RootMappings.mappings_of in
    let root : Root = root_in g.R.RootWeights.root mappings_of c.args.root.now in
    let placed : List PlacedStatement = c.deref-placed-items.result.now in
    let i : ℕ = c.loop-placed.placed-index in
    let p : PlacedStatement = c.placed-item.result in
    searched_found root c.args.weight placed (state_in mappings_of c.loop-placed.tailoring) (state_in mappings_of c.read_statement.new.self)
    (drop i placed) (drop (i + 1) placed) p
    (drop_more placed i p c.loop-placed-test.true ∙ ap (λ y. y ∷ drop (i + 1) placed) (sym c.placed-item.is))
    c.loop-placed.invariant c.in_default.ensures.ok (sym c.has_made.ensures ∙ c.if-has_made.true)
    ∙ ap (maker_of root c.args.weight (first_state root)) c.deref-placed-items.ensures.value

pub loop-placed-preserved : goal.loop-placed-preserved
loop-placed-preserved g c =
    let mappings_of = g.R.RootMappings.mappings_of in
    let root : Root = root_in g.R.RootWeights.root mappings_of c.args.root.now in
    let placed : List PlacedStatement = c.deref-placed-items.result.now in
    let i : ℕ = c.loop-placed.placed-index in
    let p : PlacedStatement = c.placed-item.result in
    one_searched root c.args.weight placed (state_in mappings_of c.loop-placed.tailoring) (state_in mappings_of c.read_statement.new.self)
    (drop i placed) (drop (i + 1) placed) p
    (drop_more placed i p c.loop-placed-test.true ∙ ap (λ y. y ∷ drop (i + 1) placed) (sym c.placed-item.is))
    c.loop-placed.invariant c.in_default.ensures.ok (sym c.has_made.ensures ∙ c.if-has_made.false)

pub returns-clause-made : goal.returns-clause-made
returns-clause-made g c =
    let mappings_of = g.R.RootMappings.mappings_of in
    let root : Root = root_in g.R.RootWeights.root mappings_of c.args.root.now in
    let placed : List PlacedStatement = c.deref-placed-items.result.now in
    searched_all root c.args.weight placed (state_in mappings_of c.loop-placed.tailoring) (drop c.loop-placed.placed-index placed)
    (drop_all c.loop-placed.placed-index placed c.loop-placed-test.false) c.loop-placed.invariant
    ∙ ap (maker_of root c.args.weight (first_state root)) c.deref-placed-items.ensures.value
