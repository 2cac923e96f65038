-- The fingerprint that a query showed stands in the database.
use Rattle.std.proofs.Common.{◌≡◌, ℕ, List, [], ◌∷◌, Option, Some, None, IfSome, Ok, sym, ap, ◌∙◌, subst}
use Rattle.sqlite.proofs.Callers.{IsPlain, command_of, reads_as}
use Rattle.sqlite.specs.Effect.{Database, Reads}
use Rattle.sqlite.specs.Held.{Held, state}
use Rattle.sqlite.specs.Listing.{understood}
use Rattle.sqlite.specs.State.{State, Shown}
use Rattle.sqlite_resolve.specs.declared.compiled.Compiled.{Compiled}
use Rattle.sqlite_trees.specs.declared.store.Store.{Ghosts}
use Rattle.sqlite_value.specs.Order.{Row}
use Rattle.icu_index_store.specs.declared.stored_names.fingerprints.KeptFingerprint.{KeptFingerprint}
use Rattle.icu_index_store.specs.stored_names.StatementTexts.{fingerprint_text}
use Rattle.icu_index_store.specs.stored_names.StoredNames.{IsFirstOf}
use Rattle.icu_index_store.proofs.stored_rows.RenewalLemmas.{shown_same}
use Rattle.icu_index_store.proofs.stored_rows.StatementMeanings.{print_is}
use Rattle.icu_index_store.specs.stored_rows.KeptNames.{KeptName, Keeps}
use Rattle.icu_index_store.specs.stored_rows.Renewals.{StaysIndex}
use Rattle.icu_index_store.specs.stored_rows.StoredPrints.{BearsPrint, ShowsPrint}
use Rattle.icu_index_store.specs.stored_rows.StoredSchemas.{names_schema}

-- the statement that a text is under the schema of an index
meaning_of : (old new : State) (rows : List Row) → old.now.schema ≡ names_schema → Shown fingerprint_text [] old new rows
    → (c : Compiled) × (understood names_schema fingerprint_text ≡ Ok c)
unfolding Shown
meaning_of old new rows has h = (h.0, ap (λ s. understood s fingerprint_text) (sym has) ∙ h.1.is)

-- the first row that the query shows has the fingerprint
pub print_shown : (old new : State) (rows : List Row) (k : KeptFingerprint) (kept : List KeptName) → Keeps old.now kept
    → Shown fingerprint_text [] old new rows → IsFirstOf rows (Some k) → ShowsPrint new.now k.fingerprint.items
print_shown old new [] k kept keeps h first = absurd (let e = first in cc)
print_shown old new (row ∷ rows) k kept keeps h first =
    let is = meaning_of old new (row ∷ rows) keeps.schema h in
    let same : new.now ≡ old.now = shown_same fingerprint_text [] old new (row ∷ rows) (subst (λ s. IsPlain (understood s fingerprint_text)) (sym keeps.schema) print_is.0) h in
    let read = reads_as fingerprint_text [] old new names_schema keeps.schema is.0.command (ap command_of is.1) print_is.0 print_is.1 (row ∷ rows) h in
    record {
      query = is.0;
      meaning = is.1;
      first = row;
      others = rows;
      shown = subst (λ (d : Database). Reads is.0.command d [] (row ∷ rows)) (sym same) read;
      print_is = first.0;
    }

module _ {S : Type 0} (g : Ghosts S) where
  -- tables that were made, or were there, and then the query
  pub print_found : (old mid new : Held S) (rows : List Row) (k : KeptFingerprint) → StaysIndex (state g old).now (state g mid).now
      → Shown fingerprint_text [] (state g mid) (state g new) rows → IsFirstOf rows (Some k)
      → BearsPrint (state g old).now (state g new).now k.fingerprint.items
  print_found old mid new rows k stays h first = record {
    made = λ none. print_shown (state g mid) (state g new) rows k [] (stays.made none) h first;
    stays = λ kept keeps. print_shown (state g mid) (state g new) rows k kept (stays.stays kept keeps) h first;
  }

  -- what was there, and then what is there now
  pub stays_then : (old mid new : Held S) → StaysIndex (state g old).now (state g mid).now → StaysIndex (state g mid).now (state g new).now
      → StaysIndex (state g old).now (state g new).now
  stays_then old mid new first second = record {
    made = λ none. second.stays [] (first.made none);
    stays = λ kept keeps. second.stays kept (first.stays kept keeps);
  }

  pub bears_then : (old mid new : Held S) (print : List ℕ) → StaysIndex (state g old).now (state g mid).now → BearsPrint (state g mid).now (state g new).now print
      → BearsPrint (state g old).now (state g new).now print
  bears_then old mid new print first second = record {
    made = λ none. second.stays [] (first.made none);
    stays = λ kept keeps. second.stays kept (first.stays kept keeps);
  }

  -- what a query found, if it found a fingerprint
  pub found_bears : (old mid new : Held S) (rows : List Row) (found : Option KeptFingerprint) → StaysIndex (state g old).now (state g mid).now
      → Shown fingerprint_text [] (state g mid) (state g new) rows → IsFirstOf rows found
      → IfSome found (λ k. BearsPrint (state g old).now (state g new).now k.fingerprint.items)
  found_bears old mid new rows None stays h first = tt
  found_bears old mid new rows (Some k) stays h first = print_found old mid new rows k stays h first
