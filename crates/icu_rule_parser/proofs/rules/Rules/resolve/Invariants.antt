use Rattle.icu_rule_parser.specs.Imports.{ResolveAs}
use Rattle.icu_rule_parser.proofs.rules.Rules.resolve.Given as goal

-- the statements resolve as those that replaced them
abbrev pub invariant-loop : goal.invariant-loop
invariant-loop g l = ResolveAs (g.S.RuleSource.has l.source) l.fn.self.statements.items l.statements.items
