use Rattle.std.proofs.Common.{◌<◌, length, refl, rules}
use Rattle.icu_table_data.specs.StoredData.{data_of}
use Rattle.icu_table_data.proofs.SpentLemmas.{spent_no_mappings, spent_mapping, among_mappings}
use Rattle.icu_table_data.proofs.block_walk.visit_new_mappings.Goals as goal

pub loop-mapping-init : goal.loop-mapping-init
loop-mapping-init g c = spent_no_mappings g.V.Visit.after c.args.falls_back (data_of c.args.home) _ _

pub visit_new_contraction-requires : goal.visit_new_contraction-requires
visit_new_contraction-requires g c = λ e has.
    let inside : c.loop-mapping.mapping-index < length c.args.mappings.now = search rules in
    c.requires e
    (among_mappings g.V.Visit.after c.args.falls_back (data_of c.args.home) c.args.mappings.now c.loop-mapping.mapping-index _ (record { chars_start = 0; chars_len = 0; entry = 0 }) e inside refl has)

pub loop-mapping-preserved : goal.loop-mapping-preserved
loop-mapping-preserved g c =
    let inside : c.loop-mapping.mapping-index < length c.args.mappings.now = search rules in
    spent_mapping g.V.Visit.after c.args.falls_back (data_of c.args.home) _ _ _ _ _ _ c.args.mappings.now c.loop-mapping.mapping-index _ (record { chars_start = 0; chars_len = 0; entry = 0 }) inside refl
    c.loop-mapping.invariant c.in_ok-visit_new_contraction.ensures
