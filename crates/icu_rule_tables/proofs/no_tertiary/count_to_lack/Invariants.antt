use Rattle.std.proofs.Common.{◌≤◌, length}
use Rattle.icu_rule_tables.proofs.no_tertiary.count_to_lack.Given as goal

abbrev pub invariant-halving : goal.invariant-halving
invariant-halving l = record { order : l.before ≤ l.after; inside : l.after ≤ length l.statements }
