-- Names as lines, and which lines are printed of the rows of a query.
use Rattle.std.specs.Prelude.{◌≡◌, ◌⊎◌, ℕ, ◌-◌, ◌^◌, List, [], ◌∷◌, ◌++◌, flat_map, length}
use Rattle.sqlite.specs.Given.{HasGiven}
use Rattle.sqlite.specs.Held.{Held, state}
use Rattle.sqlite.specs.State.{IsUnchanged, Shown}
use Rattle.sqlite_trees.specs.declared.store.Store.{Ghosts}
use Rattle.sqlite_value.specs.Order.{Row, bytes, column}
use Rattle.icu_index_store.specs.declared.stored_names.stored_name.StoredName.{StoredName}
use Rattle.icu_index_store.specs.stored_rows.NameListings.{Named}

-- what is kept with a name, behind a tab, unless it is empty
abbrev pub payload_part : List ℕ → List ℕ
payload_part [] = []
payload_part (b ∷ bs) = 9 ∷ b ∷ bs

-- the line of a name behind some bytes
abbrev pub name_line : List ℕ → Named → List ℕ
name_line front n = front ++ n.0 ++ payload_part n.1 ++ 10 ∷ []

-- a name as code has it
abbrev pub name_read : StoredName → Named
name_read s = (s.name.items, s.payload.items)

-- the name that a row shows
abbrev pub name_in_row : Row → Named
name_in_row row = (bytes (column row 1), bytes (column row 2))

-- the lines of rows
abbrev pub row_lines : List ℕ → List Row → List ℕ
row_lines front rows = flat_map (λ row. name_line front (name_in_row row)) rows

module _ {S : Type 0} (g : Ghosts S) where
  -- all rows of the answer were read, or the first 2 ^ 64 - 1 of them
  abbrev pub HasReadRows : List ℕ → Row → Held S → Held S → List Row → Type 0
  HasReadRows sql params old new rows =
      Shown sql params (state g old) (state g new) rows ⊎ (HasGiven g sql params new rows × IsUnchanged (state g old) (state g new) × (length rows ≡ 2 ^ 64 - 1))

  -- of a query that is at its start the rows are read, and a text grows by their lines
  abbrev pub PrintsRows : List ℕ → Held S → Held S → List ℕ → List ℕ → Type 0
  PrintsRows front old new before after =
      (sql : List ℕ) (params : Row) → HasGiven g sql params old []
      → (rows : List Row) × HasReadRows sql params old new rows × (after ≡ before ++ row_lines front rows)
