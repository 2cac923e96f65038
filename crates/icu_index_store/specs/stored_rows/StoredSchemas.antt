-- The schema of a database that names are kept in, as the texts of `make_tables` define it.
use Rattle.std.specs.Prelude.{true, false, [], ◌∷◌, Some, codes, List, ℕ, Bool}
use Rattle.sqlite_value.specs.declared.value.Value.TheVariants.{Null}
use Rattle.sqlite_value.specs.declared.keys.Collation.TheVariants.{Binary}
use Rattle.sqlite_value.specs.Keys.{plain}
use Rattle.sqlite_schema.specs.declared.schema.Column.{Column}
use Rattle.sqlite_schema.specs.declared.schema.Index.{Index}
use Rattle.sqlite_schema.specs.declared.schema.Kind.{Kind}
use Rattle.sqlite_schema.specs.declared.schema.Kind.TheVariants.{Integer, Text, Blob}
use Rattle.sqlite_schema.specs.declared.schema.Schema.{Schema}
use Rattle.sqlite_schema.specs.declared.schema.Table.{Table}

-- a column, which is strict, has no default and compares bytes
abbrev pub column_named : List ℕ → Kind → Bool → Column
column_named name kind not_null =
    record { name = name; kind = kind; is_strict = true; not_null = not_null; default = Null; collation = Binary }

-- a table whose rows are numbered by their first column, with no other rule
abbrev pub table_named : List ℕ → ℕ → List Column → Table
table_named name tree columns = record {
  name = name;
  tree = tree;
  columns = columns;
  key = Some 0;
  primary = 0 ∷ [];
  uniques = [];
  orders = [];
  checks = [];
  references = [];
  computed = [];
  stamps = record { places = []; terms = []; formats = [] };
  is_counted = false;
}

-- the table of names
abbrev pub names_table : Table
names_table = table_named (codes "icu_names") 0
    (column_named (codes "id") Integer false ∷ column_named (codes "key") Blob true
    ∷ column_named (codes "name") Blob true ∷ column_named (codes "payload") Blob true ∷ [])

-- the order of the keys
abbrev pub key_index : Index
key_index = record { name = codes "icu_names_by_key"; tree = 1; table = 0; columns = 2 ∷ []; order = plain; is_unique = false }

-- the table of the fingerprint
abbrev pub collation_table : Table
collation_table = table_named (codes "icu_collation") 2
    (column_named (codes "id") Integer false ∷ column_named (codes "fingerprint") Blob true
    ∷ column_named (codes "settings") Text true ∷ [])

-- no table
abbrev pub no_schema : Schema
no_schema = record { tables = []; indexes = []; views = [] }

-- the tables of an index of names
abbrev pub names_schema : Schema
names_schema = record { tables = names_table ∷ collation_table ∷ []; indexes = key_index ∷ []; views = [] }
