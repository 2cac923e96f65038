use Rattle.std.proofs.Common.{refl, ◌<◌, ◌/◌, length, arith}
use Rattle.icu_table_data.proofs.WalkLemmas.{on_ok}
use Rattle.icu_table_weights.proofs.WeightSetLemmas.{page-at, weight_marked}
use Rattle.icu_table_weights.proofs.weight_set.add_bit.Goals as goal

pub returns : goal.returns
returns c =
    let inside : c.args.weight / 0x1000000 < length c.args.pages.now.items = omega arith in
    on_ok _ _
    (λ bits. weight_marked c.args.pages.now.items c.args.pages.now.items c.mark.new.page c.args.weight c.requires inside (λ l. refl)
    _ (page-at c.args.pages.now.items c.index_mut.result.now _ _ inside c.index_mut.ensures.value) c.middle_bytes.result c.middle_bytes.ensures bits)
    c.mark.result c.mark.ensures
