use Rattle.icu_rule_parser.proofs.ImportLemmas.{Replaced}
use Rattle.icu_rule_parser.proofs.imports.replaced.Given as goal

-- those so far resolve as what replaced them
abbrev pub invariant-loop-placed : goal.invariant-loop-placed
invariant-loop-placed g l = Replaced (g.S.RuleSource.has l.source) l.yielded l.all.items
