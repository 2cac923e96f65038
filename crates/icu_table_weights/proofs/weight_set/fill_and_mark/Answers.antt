use Rattle.std.proofs.Common.{sym, ◌∙◌, arith}
use Rattle.std.proofs.lemmas.List.{get_or_default}
use Rattle.icu_table_weights.proofs.WeightSetLemmas.{marked_from}
use Rattle.icu_table_weights.proofs.weight_set.fill_and_mark.Goals as goal

pub returns : goal.returns
returns c =
    marked_from c.args.page.now.items c.fill_page.new.page.items c.args.index c.index_mut.result.now (omega (arith, c.in_ok-fill_page.ensures.len)) c.in_ok-fill_page.ensures.same
    (c.index_mut.ensures.value ∙ sym (get_or_default c.fill_page.new.page.items _ 0 _ (omega (arith, c.in_ok-fill_page.ensures.len))))
