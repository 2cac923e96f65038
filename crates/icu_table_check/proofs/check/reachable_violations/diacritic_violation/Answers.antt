use Rattle.std.proofs.Common.{IfSome, sym, ap, ◌∙◌, subst}
use Rattle.icu_table_entries.specs.Elements.{of_secondary}
use Rattle.icu_table_provider.specs.TableSets.{tables_in}
use Rattle.icu_table_check.specs.inner.Violations.{IsTrueViolation}
use Rattle.icu_table_check.proofs.LoadedViolationLemmas.{loaded_diacritic, loaded_diacritic_true}
use Rattle.icu_table_check.proofs.check.reachable_violations.diacritic_violation.Goals as goal

pub returns-else-is_replaced_index-clause-none : goal.returns-else-is_replaced_index-clause-none
returns-else-is_replaced_index-clause-none c = λ h.
    loaded_diacritic c.args.tables c.args.place _ (c.new_from_secondary-element.ensures ∙ ap of_secondary c.requires.secondary) (sym c.element_violation.ensures ∙ h)

pub returns-else-is_replaced_index-clause-some : goal.returns-else-is_replaced_index-clause-some
returns-else-is_replaced_index-clause-some c =
    subst (λ o. IfSome o (IsTrueViolation (tables_in c.args.tables))) (sym c.element_violation.ensures)
    (loaded_diacritic_true c.args.tables c.args.place c.requires.inside (sym c.is_replaced_index.ensures ∙ c.if-is_replaced_index.false) _ (c.new_from_secondary-element.ensures ∙ ap of_secondary c.requires.secondary))
