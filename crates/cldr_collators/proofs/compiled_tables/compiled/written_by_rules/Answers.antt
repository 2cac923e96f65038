use Rattle.std.proofs.Common.{◌≡◌, [], ◌∷◌, List, length, refl, ap, arith}
use Rattle.std.proofs.lemmas.Grind.{common_steps}
use Rattle.std.proofs.lemmas.Result.{IfOk-weaker}
use Rattle.icu_table_provider.specs.CollatorTables.{CollatorTables}
use Rattle.icu_table_provider.specs.well_formed.Checked.{checked_tables}
use Rattle.icu_rule_parser.specs.declared.rules.PlacedStatement.{PlacedStatement}
use Rattle.icu_table_files.specs.Origins.{contents_of}
use Rattle.cldr_collators.specs.compiled_tables.WrittenFiles.{AreByRules, AreWithRules}
use Rattle.cldr_collators.proofs.compiled_tables.compiled.written_by_rules.Goals as goal

with_rules : (over : CollatorTables) (statements : List PlacedStatement) (tables : CollatorTables)
    → (statements ≡ [] → ⊥) → AreByRules over statements tables → AreWithRules over statements tables
with_rules over [] tables some by = absurd (some refl)
with_rules over (x ∷ xs) tables some by = by

pub returns : goal.returns
returns c =
    let items : List PlacedStatement = c.args.rules.now.rules.statements.items in
    let some : items ≡ [] → ⊥ = λ e. let none = ap (λ (xs : List PlacedStatement). length xs) e in grind (arith, common_steps) in
    let own : CollatorTables = checked_tables c.in_ok-own.own in
    IfOk-weaker c.written-2.result _ _
    (λ v is. (contents_of c.args.origin own, is, refl, with_rules (checked_tables c.args.tables.now) items own some c.in_ok-own.ensures))
    c.written-2.ensures
