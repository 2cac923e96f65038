use Rattle.std.proofs.Common.{IfSome}
use Rattle.icu_rule_steps.specs.declared.statement_place.StatementPlace.{StatementPlace}
use Rattle.icu_rule_tables.specs.RuleErrors.{StatesReordering}
use Rattle.icu_rule_tables.proofs.rule_reordering.reordering_place.Given as goal

-- the place that was found is that of a reordering
abbrev pub invariant-loop-placed : goal.invariant-loop-placed
invariant-loop-placed l = IfSome l.found (λ (at : StatementPlace). StatesReordering l.rules.statements.items at.place at.import)
