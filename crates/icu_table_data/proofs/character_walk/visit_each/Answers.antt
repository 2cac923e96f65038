use Rattle.std.proofs.Common.{◌<◌, false, length, rules}
use Rattle.icu_table_data.specs.StoredData.{data_of}
use Rattle.icu_table_data.proofs.CharacterWalkLemmas.{each_more}
use Rattle.icu_table_data.proofs.character_walk.visit_each.Goals as goal

pub loop-place-preserved : goal.loop-place-preserved
loop-place-preserved g c =
    let inside : c.loop-place.place < length c.args.sought.now.entries = search rules in
    each_more g.V.Visit.after false (data_of c.args.home) _ _ _ c.args.c c.args.sought.now.entries c.loop-place.place _ inside c.entry.ensures c.loop-place.invariant c.in_ok-visit.ensures
