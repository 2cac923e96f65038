use Rattle.icu_table_data.specs.StoredData.{data_of}
use Rattle.icu_table_data.proofs.SoughtListLemmas.{one_kept}
use Rattle.icu_table_data.proofs.sought_lists.SoughtLists.keep.Goals as goal

pub returns : goal.returns
returns c = one_kept c.args.part (data_of c.args.home) c.args.self.now.places c.sought_place.result c.args.bits c.args.sought c.requires.kept c.requires.sought
