use Rattle.std.proofs.Common.{sym, ap, ◌∙◌}
use Rattle.icu_table_entries.specs.Elements.{of_secondary}
use Rattle.icu_table_check.specs.inner.ComparedWeights.{compared_weight}
use Rattle.icu_table_check.proofs.CollectLemmas.{loaded_diacritic, loaded_no_diacritic}
use Rattle.icu_table_check.proofs.check.collecting.collect_diacritic.Goals as goal

pub returns-in_ok-add : goal.returns-in_ok-add
returns-in_ok-add g c =
    let same = c.new_from_secondary.ensures ∙ ap of_secondary c.requires.secondary in
    loaded_diacritic c.args.tables c.args.list c.args.place c.in-Some.weight (sym c.is_replaced_index.ensures ∙ c.if-is_replaced_index.false)
    (ap (compared_weight c.args.list) (sym same) ∙ sym c.weight.ensures ∙ c.in-Some.is) _ _ c.in_ok-add.ensures

pub returns-in_default : goal.returns-in_default
returns-in_default g c =
    let same = c.new_from_secondary.ensures ∙ ap of_secondary c.requires.secondary in
    loaded_no_diacritic c.args.tables c.args.list c.args.place (ap (compared_weight c.args.list) (sym same) ∙ sym c.weight.ensures ∙ c.in_default.is) _
