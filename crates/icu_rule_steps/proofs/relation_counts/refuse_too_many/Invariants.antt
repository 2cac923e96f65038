use Rattle.std.proofs.Common.{◌≡◌, ◌-◌, ◌≤◌, drop}
use Rattle.icu_rule_steps.specs.RuleFaults.{count_error, most_relations}
use Rattle.icu_rule_steps.proofs.relation_counts.refuse_too_many.Given as goal

-- the statements to come are counted on from those before
abbrev pub invariant-loop-placed : goal.invariant-loop-placed
invariant-loop-placed l = record {
  inside : l.room ≤ most_relations;
  counted : count_error (most_relations - l.room) (drop l.placed-index l.statements) ≡ count_error 0 l.statements;
}
