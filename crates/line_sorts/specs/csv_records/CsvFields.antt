-- The fields of a record, as the toolchain's csv reads them.
use Rattle.std.specs.Prelude.{ℕ, List, [], Option, Some, None}
use Rattle.csv.specs.Machine.{Read, next_record}
use Rattle.csv.specs.Reading.{default_config, strip_bom}
use Rattle.csv.specs.Records.{field_at}
use Rattle.csv.specs.declared.parser.Config.{Config}
use Rattle.csv.specs.declared.parser.State.TheVariants as st

-- the defaults of csv, with a delimiter
abbrev pub csv_config : ℕ → Config
csv_config delimiter = record default_config { delimiter = delimiter }

-- the fields of what was read, none where nothing was
abbrev pub fields_read : Option Read → List (List ℕ)
fields_read None = []
fields_read (Some (fields, state, rest)) = fields

-- the fields of a record by its own bytes, with their quotes taken off
abbrev pub csv_fields : ℕ → List ℕ → List (List ℕ)
csv_fields delimiter record_bytes = fields_read (next_record (csv_config delimiter) st.StartRecord [] [] (strip_bom record_bytes))

-- the field of a column, from 0 on
abbrev pub column_field : ℕ → ℕ → List ℕ → Option (List ℕ)
column_field delimiter column record_bytes = field_at (csv_fields delimiter record_bytes) column
