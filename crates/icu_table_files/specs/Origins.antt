-- What a file says of what its tables were made from.
use Rattle.icu_table_provider.specs.CollatorTables.{CollatorTables}
use Rattle.icu_table_files.specs.FileContents.{FileContents}
use Rattle.icu_table_files.specs.declared.written.Origin.{Origin}

-- the contents of a file that is written of tables
abbrev pub contents_of : Origin → CollatorTables → FileContents
contents_of origin all = record { tag = origin.tag.now; cldr = origin.cldr.now; unicode = origin.unicode.now; tables = all }
