-- The fingerprint that stands in a database.
use Rattle.std.specs.Prelude.{◌≡◌, List, ℕ, [], ◌∷◌, Ok}
use Rattle.sqlite.specs.Effect.{Database, Reads}
use Rattle.sqlite.specs.Listing.{understood}
use Rattle.sqlite_resolve.specs.declared.compiled.Compiled.{Compiled}
use Rattle.sqlite_value.specs.Order.{Row, column}
use Rattle.sqlite_value.specs.declared.value.Value.TheVariants.{Blob}
use Rattle.icu_index_store.specs.stored_names.StatementTexts.{fingerprint_text}
use Rattle.icu_index_store.specs.stored_rows.KeptNames.{KeptName, Keeps}
use Rattle.icu_index_store.specs.stored_rows.StoredSchemas.{names_schema, no_schema}

-- the query for the fingerprint, as the tables of an index give it its meaning, shows these bytes first
pub record ShowsPrint (db : Database) (print : List ℕ) : Type 0 where
  pub query : Compiled
  pub meaning : understood names_schema fingerprint_text ≡ Ok query
  pub first : Row
  pub others : List Row
  pub shown : Reads query.command db [] (first ∷ others)
  pub print_is : column first 0 ≡ Blob print

-- a fingerprint stands beside the names of an index, and of a database that had no tables
pub record BearsPrint (old new : Database) (print : List ℕ) : Type 0 where
  pub made : old.schema ≡ no_schema → ShowsPrint new print
  pub stays : (kept : List KeptName) → Keeps old kept → ShowsPrint new print
