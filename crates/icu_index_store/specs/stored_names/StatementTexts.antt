-- The statements that a database is handed, as the code of this crate writes them.
use Rattle.std.specs.Prelude.{ℕ, List, [], ◌∷◌, codes, option_map, Option, Some, None}
use Rattle.std.specs.Borrow.{Bor}
use Rattle.sqlite_value.specs.Order.{Row}
use Rattle.sqlite_value.specs.declared.value.Value.TheVariants.{Blob}

-- makes the tables, where they aren't there yet: of names, of the order of their keys, and of the fingerprint
abbrev pub tables_text : List ℕ
tables_text = codes "CREATE TABLE IF NOT EXISTS icu_names (id INTEGER PRIMARY KEY, key BLOB NOT NULL, name BLOB NOT NULL, payload BLOB NOT NULL) STRICT; CREATE INDEX IF NOT EXISTS icu_names_by_key ON icu_names (key); CREATE TABLE IF NOT EXISTS icu_collation (id INTEGER PRIMARY KEY, fingerprint BLOB NOT NULL, settings TEXT NOT NULL) STRICT"

-- puts a name with its key and its payload behind all others
abbrev pub insert_text : List ℕ
insert_text = codes "INSERT INTO icu_names (key, name, payload) VALUES (?1, ?2, ?3)"

-- removes the name of a number
abbrev pub remove_text : List ℕ
remove_text = codes "DELETE FROM icu_names WHERE id = ?1"

-- removes the names of a key that are some bytes
abbrev pub remove_named_text : List ℕ
remove_named_text = codes "DELETE FROM icu_names WHERE key = ?1 AND name = ?2"

-- gives the name of a number another key
abbrev pub rekey_text : List ℕ
rekey_text = codes "UPDATE icu_names SET key = ?2 WHERE id = ?1"

-- all names in the order of the keys, those of equal keys by their numbers
abbrev pub all_text : List ℕ
all_text = codes "SELECT id, name, payload FROM icu_names ORDER BY key, id"

-- those whose keys are not less than the first parameter, and less than the second
abbrev pub between_text : List ℕ
between_text = codes "SELECT id, name, payload FROM icu_names WHERE key >= ?1 AND key < ?2 ORDER BY key, id"

-- those whose keys are not less than the parameter
abbrev pub behind_text : List ℕ
behind_text = codes "SELECT id, name, payload FROM icu_names WHERE key >= ?1 ORDER BY key, id"

-- a bound as code has it
abbrev pub bytes_given : Option (Bor (List ℕ)) → Option (List ℕ)
bytes_given bound = option_map (λ b. b.now) bound

-- the query for the keys from a lower bound on, up to an upper one where there is one
abbrev pub range_text : Option (List ℕ) → List ℕ
range_text (Some upper) = between_text
range_text None = behind_text

-- the parameters of the query for a range
abbrev pub range_parameters : List ℕ → Option (List ℕ) → Row
range_parameters lower (Some upper) = Blob lower ∷ Blob upper ∷ []
range_parameters lower None = Blob lower ∷ []

-- so many names from a number on, as they came in
abbrev pub after_text : List ℕ
after_text = codes "SELECT id, name, payload FROM icu_names WHERE id > ?1 ORDER BY id LIMIT ?2"

-- reads the fingerprint
abbrev pub fingerprint_text : List ℕ
fingerprint_text = codes "SELECT fingerprint, settings FROM icu_collation WHERE id = 1"

-- keeps a fingerprint where there is none
abbrev pub keep_fingerprint_text : List ℕ
keep_fingerprint_text = codes "INSERT INTO icu_collation (id, fingerprint, settings) VALUES (1, ?1, ?2)"

-- keeps another fingerprint in its place
abbrev pub replace_fingerprint_text : List ℕ
replace_fingerprint_text = codes "UPDATE icu_collation SET fingerprint = ?1, settings = ?2 WHERE id = 1"
