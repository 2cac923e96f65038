-- What the statements of an index make of its names, and what its queries show of them.
use Rattle.std.specs.Prelude.{◌≡◌, ◌⊎◌, ℕ, ℤ, pos, List, [], ◌∷◌, map, filter, Option, Ok, Err, IsTrue}
use Rattle.sqlite.specs.Batch.{ExecutesAllInside}
use Rattle.sqlite.specs.Held.{Held, state}
use Rattle.sqlite.specs.State.{Executes, Shown}
use Rattle.sqlite.specs.declared.error.Error.{Error}
use Rattle.sqlite_trees.specs.declared.store.Store.{Ghosts}
use Rattle.sqlite_value.specs.Order.{Row}
use Rattle.sqlite_value.specs.declared.value.Value.TheVariants.{Blob, Int, Text}
use Rattle.icu_index_store.specs.stored_names.StatementTexts.{after_text, all_text, insert_text, keep_fingerprint_text, range_parameters, range_text, rekey_text, remove_named_text, replace_fingerprint_text, tables_text}
use Rattle.icu_index_store.specs.stored_rows.KeptNames.{KeptName, NameStep, added, first_print, other_print, rekeyed, removed, Keeps, IsListingOf, is_within, left_by_all, next_names, rekeying, shown_row, under_key}
use Rattle.icu_index_store.specs.stored_rows.StoredSchemas.{no_schema}

module _ {S : Type 0} (g : Ghosts S) where
  -- the statement of a step was run and wasn't refused
  abbrev pub Runs : NameStep → Held S → Held S → Type 0
  Runs (added key name payload) old new =
      (count : ℕ) × Executes insert_text (Blob key ∷ Blob name ∷ Blob payload ∷ []) (state g old) (state g new) (Ok count)
  Runs (removed key name) old new =
      (count : ℕ) × Executes remove_named_text (Blob key ∷ Blob name ∷ []) (state g old) (state g new) (Ok count)
  Runs (rekeyed number key) old new =
      (count : ℕ) × Executes rekey_text (Int (pos number) ∷ Blob key ∷ []) (state g old) (state g new) (Ok count)
  Runs (first_print fingerprint settings) old new =
      (count : ℕ) × Executes keep_fingerprint_text (Blob fingerprint ∷ Text settings ∷ []) (state g old) (state g new) (Ok count)
  Runs (other_print fingerprint settings) old new =
      (count : ℕ) × Executes replace_fingerprint_text (Blob fingerprint ∷ Text settings ∷ []) (state g old) (state g new) (Ok count)

  -- the statements of steps were run one after another; what came between two of them changed nothing that the
  -- connection sees
  abbrev pub RunInTurn : List NameStep → Held S → Held S → Type 0
  RunInTurn [] old new = (state g new).now ≡ (state g old).now
  RunInTurn (step ∷ steps) old new =
      (before : Held S) × (after : Held S) × ((state g before).now ≡ (state g old).now)
      × Runs step before after × RunInTurn steps after new

  -- after the statements of steps there are just the names that the steps leave
  abbrev pub StepsLeaveNames : Type 0
  StepsLeaveNames =
      (steps : List NameStep) (old new : Held S) (kept : List KeptName) → Keeps (state g old).now kept
      → RunInTurn steps old new → Keeps (state g new).now (left_by_all steps kept)

  -- where an index is made anew there are the same names, as they came in, each under its new key
  abbrev pub NamesAreRekeyed : Type 0
  NamesAreRekeyed =
      (key : List ℕ → List ℕ) (fingerprint settings : List ℕ) (old new : Held S) (kept : List KeptName)
      → Keeps (state g old).now kept → RunInTurn (rekeying key fingerprint settings kept) old new
      → Keeps (state g new).now (map (under_key key) kept)

  -- the query for all names shows them in the order of their keys, those of equal keys as they came in
  abbrev pub AllAreListed : Type 0
  AllAreListed =
      (old new : Held S) (rows : List Row) (kept : List KeptName) → Keeps (state g old).now kept
      → Shown all_text [] (state g old) (state g new) rows
      → (listed : List KeptName) × IsListingOf kept listed × (rows ≡ map shown_row listed)

  -- the query for a range shows just those whose keys stand between its bounds, in that order
  abbrev pub RangesAreListed : Type 0
  RangesAreListed =
      (old new : Held S) (lower : List ℕ) (upper : Option (List ℕ)) (rows : List Row) (kept : List KeptName)
      → Keeps (state g old).now kept
      → Shown (range_text upper) (range_parameters lower upper) (state g old) (state g new) rows
      → (listed : List KeptName) × IsListingOf (filter (is_within lower upper) kept) listed × (rows ≡ map shown_row listed)

  -- the query for the next names shows those above a number in the order of their numbers, at most so many
  abbrev pub NextAreShown : Type 0
  NextAreShown =
      (behind : ℤ) (most : ℕ) (old new : Held S) (rows : List Row) (kept : List KeptName) → Keeps (state g old).now kept
      → Shown after_text (Int behind ∷ Int (pos most) ∷ []) (state g old) (state g new) rows
      → rows ≡ map shown_row (next_names behind most kept)

  -- a statement that is refused, or fails, leaves what the connection saw or what was committed, if it is still open
  abbrev pub FailuresLeaveNames : Type 0
  FailuresLeaveNames =
      (text : List ℕ) (params : Row) (old new : Held S) (error : Error)
      → Executes text params (state g old) (state g new) (Err error) → IsTrue (state g new).is_open
      → ((state g new).now ≡ (state g old).now) ⊎ ((state g new).now ≡ (state g old).committed)

  -- the statements that make the tables make them in a database that has none, with no name in them, and change
  -- nothing in one that has them
  pub record TablesAreMade : Type 0 where
    pub made : (old new : Held S) → (state g old).now.schema ≡ no_schema
        → ExecutesAllInside g 0 tables_text old new (Ok tt) → Keeps (state g new).now []
    pub stay : (old new : Held S) (kept : List KeptName) → Keeps (state g old).now kept
        → ExecutesAllInside g 0 tables_text old new (Ok tt) → (state g new).now ≡ (state g old).now
