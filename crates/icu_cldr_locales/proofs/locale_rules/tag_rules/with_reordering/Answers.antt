use Rattle.std.proofs.Common.{[], ◌∷◌, ◌++◌, ◌∙◌, ap}
use Rattle.icu_rule_parser.specs.declared.rules.PlacedStatement.{PlacedStatement}
use Rattle.icu_cldr_locales.proofs.locale_rules.tag_rules.with_reordering.Goals as goal

pub returns-clause-with : goal.returns-clause-with
returns-clause-with c = record {
  groups = c.in_ok-groups.groups;
  named = c.in_ok-groups.ensures;
  are = c.in_ok-push.ensures.items ∙ ap (λ (p : PlacedStatement). c.args.rules.statements.items ++ p ∷ []) c.placed_setting.ensures;
}
