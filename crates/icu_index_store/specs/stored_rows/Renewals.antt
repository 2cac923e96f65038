-- What it means that the names of an index are made anew, some at a time.
use Rattle.std.specs.Prelude.{◌≡◌, ◌⊎◌, ℕ, ℤ, ◌<ℤ◌, List, [], ◌∷◌, map, Option, Some, None, IfSome, Ok, IsTrue}
use Rattle.sqlite.specs.Effect.{Database}
use Rattle.sqlite.specs.Held.{Held, state}
use Rattle.sqlite.specs.State.{State, ExecutesInside}
use Rattle.sqlite_trees.specs.declared.store.Store.{Ghosts}
use Rattle.sqlite_value.specs.Order.{Row, column}
use Rattle.sqlite_value.specs.declared.value.Value.TheVariants.{Blob, Int}
use Rattle.icu_index_store.specs.stored_names.StatementTexts.{rekey_text}
use Rattle.icu_index_store.specs.stored_rows.KeptNames.{KeptName, AreNumbered, Keeps, renewed_up_to, under_key}
use Rattle.icu_index_store.specs.stored_rows.StoredSchemas.{no_schema}

-- a database that has the tables of an index has the same names as before, and one that had no tables has them, with no
-- name
pub record StaysIndex (old new : Database) : Type 0 where
  pub made : old.schema ≡ no_schema → Keeps new []
  pub stays : (kept : List KeptName) → Keeps old kept → Keeps new kept

-- the connection sees what it saw before, or what was committed last, if it is still open
abbrev pub LeavesDatabase : State → State → Type 0
LeavesDatabase old new = IsTrue new.is_open → (new.now ≡ old.now) ⊎ (new.now ≡ old.committed)

module _ (key : List ℕ → List ℕ) where
  -- the names, of which those up to the last that was made anew are under the key that names have; all are where there
  -- was none
  abbrev pub renewed_by : Option ℤ → List KeptName → List KeptName
  renewed_by (Some last) kept = renewed_up_to key last kept
  renewed_by None kept = map (under_key key) kept

  -- the names are as they were, each under the key that names have
  abbrev pub AreRenewed : Database → Database → Type 0
  AreRenewed old new = (kept : List KeptName) → Keeps old kept → Keeps new (map (under_key key) kept)

  -- a database that has the tables of an index has the same names as before, each under the key that names have, and
  -- one that had no tables has them, with no name
  pub record RenewsIndex (old new : Database) : Type 0 where
    pub made : old.schema ≡ no_schema → Keeps new []
    pub names : AreRenewed old new

  module _ {S : Type 0} (g : Ghosts S) where
    -- within a transaction the name that a row shows, and its number, got its key
    pub record GivesKey (row : Row) (number : ℤ) (old new : Held S) : Type 0 where
      pub name : List ℕ
      pub number_is : column row 0 ≡ Int number
      pub name_is : column row 1 ≡ Blob name
      pub count : ℕ
      pub ran : ExecutesInside 0 rekey_text (Int number ∷ Blob (key name) ∷ []) (state g old) (state g new) (Ok count)

    -- within a transaction the next names above a number were made anew, up to a last one, which is above it
    pub record RenewsNext (behind : ℤ) (last : Option ℤ) (old new : Held S) : Type 0 where
      pub inside : IsTrue (state g new).in_transaction
      pub names : (kept : List KeptName) → AreNumbered kept → Keeps (state g old).now (renewed_up_to key behind kept)
          → Keeps (state g new).now (renewed_by last kept) × IfSome last (λ l. behind <ℤ l)

    -- within a transaction the names up to a number were made anew
    pub record HasRenewed (behind : ℤ) (old new : Held S) : Type 0 where
      pub inside : IsTrue (state g new).in_transaction
      pub names : (kept : List KeptName) → Keeps (state g old).now kept → Keeps (state g new).now (renewed_up_to key behind kept)
