-- Nothing was imported.
use Rattle.std.proofs.Common.{List, map, chars, subst}
use Rattle.std.proofs.lemmas.Result.{IfOk-weaker}
use Rattle.icu_rule_parser.specs.declared.rules.PlacedStatement.{PlacedStatement}
use Rattle.icu_rule_parser.specs.Statements.{SpellStatements}
use Rattle.icu_rule_tables.proofs.NoImportLemmas.{same_resolved}
use Rattle.icu_rule_tables.proofs.text_rules.rules_of_text.Goals as goal

pub returns : goal.returns
returns c =
    IfOk-weaker c.resolve.result _ _ (λ rules resolved.
    subst (λ (placed : List PlacedStatement). SpellStatements (map (λ p. p.statement) placed) (chars c.args.text.now))
    (same_resolved resolved) c.in_ok-rules.ensures.says) c.resolve.ensures.resolved
