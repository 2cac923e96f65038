use Rattle.icu_table_check.specs.small_tables.SmallTables.{small_entry}
use Rattle.icu_table_check.proofs.small_tables.SmallTableLemmas.{tables_are}
use Rattle.icu_table_check.proofs.small_tables.set_with.Goals as goal

pub from_parts-requires : goal.from_parts-requires
from_parts-requires c = (tables_are _ c.requires small_entry).jamo

pub from_parts-requires-2 : goal.from_parts-requires-2
from_parts-requires-2 c = (tables_are _ c.requires small_entry).special

pub from_parts-requires-3 : goal.from_parts-requires-3
from_parts-requires-3 c = (tables_are _ c.requires small_entry).diacritics
