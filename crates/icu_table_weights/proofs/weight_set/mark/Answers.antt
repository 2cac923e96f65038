use Rattle.std.proofs.Common.{refl, sym, ◌∙◌, arith}
use Rattle.std.proofs.lemmas.List.{get_or_default}
use Rattle.icu_table_weights.proofs.WeightSetLemmas.{marked_from}
use Rattle.icu_table_weights.proofs.weight_set.mark.Goals as goal

pub returns : goal.returns
returns c =
    marked_from c.args.page.now.items c.args.page.now.items c.args.index c.index_mut.result.now (omega arith) (λ k. refl)
    (c.index_mut.ensures.value ∙ sym (get_or_default c.args.page.now.items _ 0 _ (omega arith)))
