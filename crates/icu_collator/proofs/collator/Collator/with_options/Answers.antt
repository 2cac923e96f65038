use Rattle.std.proofs.Common.{rules}
use Rattle.icu_table_provider.specs.well_formed.Checked.{checked_tables}
use Rattle.icu_collator.proofs.OtherSettings.{facts_stay}
use Rattle.icu_collator.proofs.collator.Collator.with_options.Goals as goal

pub invariant_of-result : goal.invariant_of-result
invariant_of-result c = record {
  backward = search rules;
  known = facts_stay (checked_tables c.args.self.tables) c.args.self.kept_facts _ _ _ _ c.numeric.ensures c.numeric-2.ensures c.if-numeric.false c.args.self.known;
  levels = c.key_form-form.ensures;
  variable = c.last_variable-last_variable.ensures;
  asked = c.args.self.asked;
}
