use Rattle.icu_table_data.proofs.WalkLemmas.{on_ok}
use Rattle.icu_table_weights.proofs.WeightSetLemmas.{page-at, weight_marked}
use Rattle.icu_table_weights.proofs.weight_set.reach_and_add_bit.Goals as goal

pub returns : goal.returns
returns c =
    on_ok _ _
    (λ bits. weight_marked c.args.pages.now.items c.reach_lead.new.pages.items c.fill_and_mark.new.page c.args.weight c.requires c.in_ok-reach_lead.ensures.len c.in_ok-reach_lead.ensures.same
    _ (page-at c.reach_lead.new.pages.items c.index_mut.result.now _ _ c.in_ok-reach_lead.ensures.len c.index_mut.ensures.value) c.middle_bytes.result c.middle_bytes.ensures bits)
    c.fill_and_mark.result c.fill_and_mark.ensures
