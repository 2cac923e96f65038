use Rattle.icu_table_data.specs.StoredData.{data_of}
use Rattle.icu_table_data.proofs.CharacterWalkLemmas.{sought_from}
use Rattle.icu_table_data.proofs.sought_lists.sought_entries.Goals as goal

pub returns : goal.returns
returns c =
    sought_from c.args.part (data_of c.args.home) c.args.entry _ _ _ _ _ _ c.new-sought.ensures.part c.new-sought.ensures.none c.new-sought.ensures.whole c.in-Ok.ensures
