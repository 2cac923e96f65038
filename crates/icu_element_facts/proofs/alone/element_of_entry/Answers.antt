-- An entry that meets the conditions may be read.
use Rattle.icu_table_data.specs.Reachable.{reachable_from}
use Rattle.icu_table_data.specs.StoredData.{data_of}
use Rattle.icu_element_reading.proofs.ReadableLemmas.{itself, readable_among}
use Rattle.icu_element_facts.proofs.alone.element_of_entry.Goals as goal

pub readable_element-requires : goal.readable_element-requires
readable_element-requires c =
    let home = data_of c.args.home in
    readable_among home c.args.c c.args.ce32 (reachable_from home c.args.ce32) c.requires (itself home c.args.ce32)
