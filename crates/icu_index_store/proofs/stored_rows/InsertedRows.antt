-- What the statement that adds a name makes of a database.
use Rattle.std.proofs.Common.{◌≡◌, ℕ, pos, ◌+ℤ◌, ◌+◌, ◌<◌, Bool, true, false, cond, List, [], ◌∷◌, ◌++◌, map, fold, Ok, None, refl, ap, ◌∙◌, subst, arith}
use Rattle.std.specs.List.{AllByRecursion}
use Rattle.std.specs.Ordering.{match_ordering}
use Rattle.sqlite.proofs.Callers.{one_step, runs_as, statement_of}
use Rattle.sqlite.specs.Does.{Does, Tally}
use Rattle.sqlite.specs.Effect.{Database}
use Rattle.sqlite.specs.Listing.{understood}
use Rattle.sqlite.specs.Rows.{Written}
use Rattle.sqlite.specs.State.{State, Executes, mode_of}
use Rattle.sqlite_rules.specs.Cast.{cast}
use Rattle.sqlite_rules.specs.Edit.{edit_of, edited, id_in}
use Rattle.sqlite_rules.specs.declared.error.Rowids.TheVariants.{Chosen}
use Rattle.sqlite_schema.specs.declared.schema.Kind.TheVariants.{Integer}
use Rattle.sqlite_sql.specs.Ops.{unary}
use Rattle.sqlite_trees.specs.Tree.{Trees, put_row, rowid}
use Rattle.sqlite_value.specs.Order.{Row}
use Rattle.sqlite_value.specs.declared.value.Value.{Value}
use Rattle.sqlite_value.specs.declared.value.Value.TheVariants.{Blob, Int, Null}
use Rattle.icu_index_store.specs.stored_names.StatementTexts.{insert_text}
use Rattle.icu_index_store.proofs.stored_rows.StatementMeanings.{insert_command, insert_is}
use Rattle.icu_index_store.proofs.stored_rows.ValueLemmas.{number_below, same_value, went}
use Rattle.icu_index_store.specs.stored_rows.KeptNames.{KeptName, AreNumbered, Keeps, next_number, row_of, with_name}
use Rattle.icu_index_store.specs.stored_rows.StoredSchemas.{names_schema, names_table}

pub either : (b : Bool) (x : Value) → cond b x x ≡ x
either true x = refl
either false x = refl

pub cast_null : cast Integer Null ≡ Null
unfolding unary
cast_null = either _ Null

-- ---- the next number

next_from : (a : ℕ) (kept : List KeptName) → fold (λ _ r. id_in (rowid r) +ℤ pos 1) (pos a) (map row_of kept) ≡ pos (fold (λ last k. k.number + 1) a kept)
next_from a [] = refl
next_from a (k ∷ ks) = next_from (k.number + 1) ks

last_above : (n a : ℕ) (ks : List KeptName) → n < a → AllByRecursion (λ k. n < k.number) ks → n < fold (λ last k. k.number + 1) a ks
last_above n a [] low h = low
last_above n a (k ∷ ks) low h = last_above n (k.number + 1) ks (let up = h.0 in omega arith) h.1

below_next : (a : ℕ) (ks : List KeptName) → AreNumbered ks → AllByRecursion (λ k. k.number < fold (λ last j. j.number + 1) a ks) ks
below_next a [] h = tt
below_next a (k ∷ ks) h = (last_above k.number (k.number + 1) ks (omega arith) h.0, below_next (k.number + 1) ks h.1)

-- ---- a row behind all others

put_last : (new : KeptName) (ks : List KeptName) → AllByRecursion (λ k. k.number < new.number) ks → put_row (row_of new) (map row_of ks) ≡ map row_of (ks ++ new ∷ [])
put_last new [] h = refl
put_last new (k ∷ ks) h =
    ap (λ o. match_ordering o (row_of k ∷ put_row (row_of new) (map row_of ks)) (row_of new ∷ map row_of ks) (row_of new ∷ row_of k ∷ map row_of ks)) (number_below k.number new.number h.0)
    ∙ ap (λ rows. row_of k ∷ rows) (put_last new ks h.1)

all_more : (P : KeptName → Type 0) (new : KeptName) (ks : List KeptName) → P new → AllByRecursion P ks → AllByRecursion P (ks ++ new ∷ [])
all_more P new [] p h = (p, tt)
all_more P new (k ∷ ks) p h = (h.0, all_more P new ks p h.1)

numbered_more : (new : KeptName) (ks : List KeptName) → AreNumbered ks → AllByRecursion (λ k. k.number < new.number) ks → AreNumbered (ks ++ new ∷ [])
numbered_more new [] h below = (tt, tt)
numbered_more new (k ∷ ks) h below = (all_more (λ j. k.number < j.number) new ks below.0 h.0, numbered_more new ks h.1 below.1)

module _ (key name payload : List ℕ) (kept : List KeptName) (numbered : AreNumbered kept) where
  abbrev new_name : KeptName
  new_name = record { number = next_number kept; key = key; name = name; payload = payload }

  abbrev source : Row
  source = Null ∷ Null ∷ Blob key ∷ Blob name ∷ Blob payload ∷ []

  pub edited_rows : (db : Trees) → db 0 ≡ map row_of kept → edited db (edit_of db names_table [] Chosen 0 (source ∷ [])) ≡ map row_of (with_name key name payload kept)
  edited_rows db rows =
      rw (rows, cast_null) (ap (λ n. put_row (Int n ∷ Null ∷ Blob key ∷ Blob name ∷ Blob payload ∷ []) (map row_of kept)) (next_from 1 kept)
      ∙ put_last new_name kept (below_next 1 kept numbered))

  pub still_numbered : AreNumbered (with_name key name payload kept)
  still_numbered = numbered_more new_name kept numbered (below_next 1 kept numbered)

pub inserts : (old new : State) (key name payload : List ℕ) (count : ℕ) (kept : List KeptName) → Keeps old.now kept
    → Executes insert_text (Blob key ∷ Blob name ∷ Blob payload ∷ []) old new (Ok count) → Keeps new.now (with_name key name payload kept)
inserts old new key name payload count kept keeps h =
    let params = Blob key ∷ Blob name ∷ Blob payload ∷ [] in
    let db = old.now.trees in
    let w = runs_as insert_text params old new names_schema keeps.schema insert_command insert_is.0 insert_is.1 count h in
    let text = statement_of insert_text (understood names_schema insert_text) in
    let done = went (subst (λ s. Does old.step_limit (mode_of old) params (record old.now { schema = s }) text None insert_command (Ok (w.tally, new.now))) keeps.schema w.changed) in
    let now = ap (λ (p : Tally × Database). p.1) (same_value (went (went done.2).2).2) in
    let given = went done.1 in
    let written = went (went given.2).2 in
    let counted = went written.2 in
    let trees : done.0.trees ≡ written.0 = ap (λ (it : Written). it.trees) (same_value counted.2) ∙ same_value counted.1 in
    let rows = (one_step names_schema _ db written.0 (edit_of db names_table [] Chosen 0 given.0) refl written.1).rows in
    let edit = ap (λ all. edited db (edit_of db names_table [] Chosen 0 all)) given.1.1 ∙ edited_rows key name payload kept keeps.numbered db keeps.rows in
    record {
      schema = ap (λ (d : Database). d.schema) now;
      rows = ap (λ (d : Database). d.trees 0) now ∙ (ap (λ (t : Trees). t 0) trees ∙ (rows ∙ edit));
      numbered = still_numbered key name payload kept keeps.numbered;
    }
