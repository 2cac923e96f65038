-- The statements of an index, one after another.
use Rattle.std.proofs.Common.{◌≡◌, ◌⊎◌, inl, inr, ℕ, Bool, true, false, ◌&&◌, List, [], ◌∷◌, map, filter, Option, Some, None, Err, IsTrue, refl, sym, ap, subst, MatchBool}
use Rattle.std.proofs.Math.Bool.{and-true}
use Rattle.std.specs.Cmp.Lexicographic.{slice_cmp}
use Rattle.std.specs.List.{list_all}
use Rattle.std.specs.Ordering.{is_ge, is_lt, nat_cmp}
use Rattle.sqlite.specs.Effect.{Database}
use Rattle.sqlite.specs.Held.{Held, state}
use Rattle.sqlite.specs.State.{State, Executes, ExecutesIn, Fails, IsNotRun, IsUnchanged, RunsCommand, Shown, shows_rows}
use Rattle.sqlite_resolve.specs.declared.compiled.Compiled.{Compiled}
use Rattle.sqlite.specs.declared.error.Error.{Error}
use Rattle.sqlite_sql.specs.Term.{holds}
use Rattle.sqlite_sql.specs.declared.ops.CompareOp.TheVariants.{Ge, Lt}
use Rattle.sqlite_trees.specs.declared.store.Store.{Ghosts}
use Rattle.sqlite_value.specs.Order.{Row}
use Rattle.sqlite_value.specs.declared.value.Value.TheVariants.{Blob}
use Rattle.icu_index_store.specs.stored_names.StatementTexts.{all_text, range_parameters, range_text}
use Rattle.icu_index_store.proofs.stored_rows.InsertedRows.{inserts}
use Rattle.icu_index_store.proofs.stored_rows.ListedRows.{shows}
use Rattle.icu_index_store.proofs.stored_rows.PrintedRows.{prints_first, prints_other}
use Rattle.icu_index_store.proofs.stored_rows.RekeyedRows.{rekeys}
use Rattle.icu_index_store.proofs.stored_rows.RemovedRows.{removes, filter_all}
use Rattle.icu_index_store.proofs.stored_rows.StatementMeanings.{all_is, behind_is, between_is, key_is_at_least, key_is_below}
use Rattle.icu_index_store.proofs.stored_rows.ValueLemmas.{blobs_compared}
use Rattle.icu_index_store.specs.stored_rows.KeptNames.{KeptName, NameStep, added, first_print, other_print, rekeyed, removed, IsListingOf, Keeps, is_within, left_by, left_by_all, row_of, shown_row}
use Rattle.icu_index_store.specs.stored_rows.RowLaws.{Runs, RunInTurn}

-- the database has the same names where it is the same
pub keeps_as : (old new : Database) (kept : List KeptName) → new ≡ old → Keeps old kept → Keeps new kept
keeps_as old new kept same = subst (λ d. Keeps d kept) (sym same)

module _ {S : Type 0} (g : Ghosts S) where
  leaves : (step : NameStep) (old new : Held S) (kept : List KeptName) → Keeps (state g old).now kept → Runs g step old new → Keeps (state g new).now (left_by step kept)
  leaves (added key name payload) old new kept keeps h = inserts (state g old) (state g new) key name payload h.0 kept keeps h.1
  leaves (removed key name) old new kept keeps h = removes key name (state g old) (state g new) h.0 kept keeps h.1
  leaves (rekeyed number key) old new kept keeps h = rekeys number key (state g old) (state g new) h.0 kept keeps h.1
  leaves (first_print fingerprint settings) old new kept keeps h = prints_first fingerprint settings (state g old) (state g new) h.0 kept keeps h.1
  leaves (other_print fingerprint settings) old new kept keeps h = prints_other fingerprint settings (state g old) (state g new) h.0 kept keeps h.1

  pub steps_leave : (steps : List NameStep) (old new : Held S) (kept : List KeptName) → Keeps (state g old).now kept → RunInTurn g steps old new → Keeps (state g new).now (left_by_all steps kept)
  steps_leave [] old new kept keeps h = keeps_as (state g old).now (state g new).now kept h keeps
  steps_leave (step ∷ steps) old new kept keeps h =
      steps_leave steps h.1 new (left_by step kept) (leaves step h.0 h.1 kept (keeps_as (state g old).now (state g h.0).now kept h.2 keeps) h.3) h.4

-- ---- queries

pub all_listed : (old new : State) (rows : List Row) (kept : List KeptName) → Keeps old.now kept → Shown all_text [] old new rows
    → (listed : List KeptName) × IsListingOf kept listed × (rows ≡ map shown_row listed)
all_listed old new rows kept keeps h =
    subst (λ ks. (listed : List KeptName) × IsListingOf ks listed × (rows ≡ map shown_row listed)) (filter_all kept)
    (shows [] [] (λ k. true) (λ k. refl) all_text all_is old new kept rows keeps h)

within : (lower upper : List ℕ) (k : KeptName) → list_all (holds ((Blob lower ∷ Blob upper ∷ []) ∷ row_of k ∷ [])) (key_is_at_least ∷ key_is_below ∷ []) ≡ is_within lower (Some upper) k
within lower upper k =
    rw (blobs_compared Ge k.key lower, blobs_compared Lt k.key upper) (ap (λ b. is_ge (slice_cmp nat_cmp k.key lower) && b) (and-true (is_lt (slice_cmp nat_cmp k.key upper))))

behind : (lower : List ℕ) (k : KeptName) → list_all (holds ((Blob lower ∷ []) ∷ row_of k ∷ [])) (key_is_at_least ∷ []) ≡ is_within lower None k
behind lower k = rw (blobs_compared Ge k.key lower) (and-true (is_ge (slice_cmp nat_cmp k.key lower)))

pub range_listed : (old new : State) (lower : List ℕ) (upper : Option (List ℕ)) (rows : List Row) (kept : List KeptName) → Keeps old.now kept
    → Shown (range_text upper) (range_parameters lower upper) old new rows
    → (listed : List KeptName) × IsListingOf (filter (is_within lower upper) kept) listed × (rows ≡ map shown_row listed)
range_listed old new lower (Some upper) rows kept keeps h =
    shows (key_is_at_least ∷ key_is_below ∷ []) (Blob lower ∷ Blob upper ∷ []) (is_within lower (Some upper)) (within lower upper) (range_text (Some upper)) between_is old new kept rows keeps h
range_listed old new lower None rows kept keeps h =
    shows (key_is_at_least ∷ []) (Blob lower ∷ []) (is_within lower None) (behind lower) (range_text None) behind_is old new kept rows keeps h

-- ---- a statement that isn't done

undone : {P : Type 0} {e : Error} (old new : State) → Fails old new P e → IsTrue new.is_open → (new.now ≡ old.now) ⊎ (new.now ≡ old.committed)
undone old new h lives = inr (h.3.undone lives).0

same : (old new : State) → IsUnchanged old new → (new.now ≡ old.now) ⊎ (new.now ≡ old.committed)
same old new h = inl h.0.now_is

of_command : (old new : State) (sql : List ℕ) (c : Compiled) (params : Row) (e : Error) → RunsCommand old new sql c params (Err e) → IsTrue new.is_open → (new.now ≡ old.now) ⊎ (new.now ≡ old.committed)
of_command old new sql c params e (inl h) lives = same old new h.1
of_command old new sql c params e (inr h) lives = undone old new h lives

alone : (b : Bool) (old new : State) (sql : List ℕ) (c : Compiled) (params : Row) (e : Error)
    → MatchBool b ((◌≡◌ {A = Rattle.std.specs.Prelude.Result ℕ Error} (Err e) (Err Rattle.sqlite.specs.declared.error.Error.TheVariants.ExecuteReturnedResults)) × IsUnchanged old new) (RunsCommand old new sql c params (Err e))
    → IsTrue new.is_open → (new.now ≡ old.now) ⊎ (new.now ≡ old.committed)
alone true old new sql c params e h lives = same old new h.1
alone false old new sql c params e h lives = of_command old new sql c params e h lives

not_run : (old new : State) (sql : List ℕ) (params : Row) (e : Error) → IsNotRun old new sql params e → IsTrue new.is_open → (new.now ≡ old.now) ⊎ (new.now ≡ old.committed)
unfolding IsNotRun
not_run old new sql params e (inl h) lives = same old new h.1
not_run old new sql params e (inr h) lives = undone old new h lives

pub failure_leaves : (sql : List ℕ) (params : Row) (old new : State) (e : Error) → Executes sql params old new (Err e) → IsTrue new.is_open → (new.now ≡ old.now) ⊎ (new.now ≡ old.committed)
unfolding ExecutesIn
failure_leaves sql params old new e (inl h) lives = not_run old new sql params e h lives
failure_leaves sql params old new e (inr h) lives = alone (shows_rows false h.0) old new sql h.0 _ e h.2 lives
