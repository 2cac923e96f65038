use Rattle.std.proofs.Common.{rules}
use Rattle.icu_table_entries.specs.Elements.{element_of}
use Rattle.icu_table_entries.specs.Entries.{entry_index}
use Rattle.icu_table_data.specs.StoredData.{data_of}
use Rattle.icu_table_data.proofs.ListLemmas.{one_taken}
use Rattle.icu_table_data.proofs.EntryLemmas.{offset_inside}
use Rattle.icu_table_data.proofs.data.CollationData.offset_data.Goals as goal

pub returns-clause-taken : goal.returns-clause-taken
unfolding data_of
returns-clause-taken c =
    let inside = offset_inside (data_of c.args.self) c.args.entry c.requires.offset c.requires.inside in
    rw (one_taken element_of (entry_index c.args.entry) c.args.self.ces.now 0 inside) (search rules)
