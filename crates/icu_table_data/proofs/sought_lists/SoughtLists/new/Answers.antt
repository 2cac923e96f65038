use Rattle.std.proofs.Common.{refl}
use Rattle.icu_table_data.proofs.SoughtListLemmas.{none_kept}
use Rattle.icu_table_data.proofs.sought_lists.SoughtLists.new.Goals as goal

pub returns : goal.returns
returns c = none_kept 64 _ refl
