-- What was said is what the rules say.
use Rattle.std.proofs.Common.{subst}
use Rattle.std.proofs.lemmas.Result.{IfOk-weaker}
use Rattle.icu_rule_meaning.specs.Steps.{TailoringState}
use Rattle.icu_rule_root.specs.StoredRoots.{stored_root}
use Rattle.icu_rule_tables.specs.StatesByRules.{NumbersState}
use Rattle.icu_rule_tables.specs.Tailorings.{HasTablesOf}
use Rattle.icu_rule_tables.proofs.tailoring.Tailoring.from_rules.Goals as goal

pub returns-clause-says : goal.returns-clause-says
returns-clause-says c =
    let root = c.args.root.now in
    let numbers = c.in_ok-numbers.numbers in
    let says = c.in_ok-said.ensures.says in
    IfOk-weaker c.of_numbers.result _ _ (λ t tables. record {
      unrefused = c.in_ok-said.ensures.sound;
      numbers = numbers;
      numbered = subst (λ (s : TailoringState). NumbersState (stored_root root) s numbers) says c.in_ok-numbers.ensures.ok;
      tables = subst (λ (s : TailoringState). HasTablesOf root numbers s t) says tables;
    }) c.of_numbers.ensures.ok

pub returns-clause-err : goal.returns-clause-err
returns-clause-err c = c.of_numbers.ensures.err c.args.rules.now.statements.items
