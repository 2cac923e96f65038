-- Rules without words of an order of scripts make no reordering.
use Rattle.std.proofs.Common.{ap, subst, ◌∙◌}
use Rattle.icu_table_provider.specs.CollatorTables.{CollatorTables}
use Rattle.icu_rule_root.specs.declared.checked_root.CheckedRoot.{CheckedRoot}
use Rattle.icu_rule_tables.specs.RuleReorderings.{IsReorderingBy}
use Rattle.icu_rule_tables.specs.StatesByRules.{state_over}
use Rattle.icu_rule_laws.specs.related_texts.RelationOrders.{RulesKeepScripts}
use Rattle.icu_rule_laws.proofs.related_texts.rules_keep_scripts.Goals as goal

keep_scripts : (root : CheckedRoot) → RulesKeepScripts root
keep_scripts root placed t says none =
    ap (λ (all : CollatorTables). all.reordering) says.tables.are
    ∙ subst (λ words. IsReorderingBy root says.numbers (state_over root placed) words says.tables.reordering) none says.tables.reordered

pub returns : goal.returns
returns c = keep_scripts c.args.root.now
