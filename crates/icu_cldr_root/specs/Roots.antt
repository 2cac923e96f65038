-- What a root says that was read.
use Rattle.std.specs.Prelude.{◌≡◌, None, length, IsTrue}
use Rattle.icu_table_provider.specs.SpecialPrimaries.{is_compressible}
use Rattle.icu_table_provider.specs.CollatorTables.{CollatorTables}
use Rattle.icu_table_provider.specs.OwnedTables.{owned_tables}
use Rattle.icu_cldr_root.specs.declared.file_facts.FileFacts.{FileFacts}
use Rattle.icu_cldr_root.specs.declared.root.CldrRoot.{CldrRoot}

-- the tables
unfoldable pub root_tables : CldrRoot → CollatorTables
root_tables r = owned_tables r.tables

-- what the file says of itself
unfoldable pub root_facts : CldrRoot → FileFacts
root_facts r = r.facts

-- the tables of a root: their metadata sets the last variable group, punctuation, and nothing else, and they name their
-- compressible lead bytes, among them that of implicit weights
pub record IsRoot (all : CollatorTables) : Type 0 where
  pub metadata : all.bits ≡ 1
  pub tailoring : all.tables.tailoring ≡ None
  pub reordering : all.reordering ≡ None
  pub leads : length all.special.last ≡ 20
  pub implicit : IsTrue (is_compressible all.special 0xFE)
