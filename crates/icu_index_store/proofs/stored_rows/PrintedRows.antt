-- The statements on the fingerprint leave the names.
use Rattle.std.proofs.Common.{◌≡◌, ℕ, List, [], ◌∷◌, Ok, None, refl, ap, ◌∙◌, subst, arith}
use Rattle.sqlite.proofs.Callers.{one_step, runs_as, statement_of}
use Rattle.sqlite.specs.Does.{Does, Tally}
use Rattle.sqlite.specs.Effect.{Database}
use Rattle.sqlite.specs.Listing.{understood}
use Rattle.sqlite.specs.Rows.{Written}
use Rattle.sqlite.specs.State.{State, Executes, mode_of}
use Rattle.sqlite_rules.specs.Calls.{ids_of}
use Rattle.sqlite_rules.specs.Edit.{edit_of}
use Rattle.sqlite_rules.specs.declared.error.Rowids.TheVariants.{Chosen, Given}
use Rattle.sqlite_trees.specs.Tree.{Trees}
use Rattle.sqlite_value.specs.Order.{Row}
use Rattle.sqlite_value.specs.declared.value.Value.TheVariants.{Blob, Text}
use Rattle.icu_index_store.specs.stored_names.StatementTexts.{keep_fingerprint_text, replace_fingerprint_text}
use Rattle.icu_index_store.proofs.stored_rows.StatementMeanings.{first_print_command, first_print_is, other_print_command, other_print_is}
use Rattle.icu_index_store.proofs.stored_rows.ValueLemmas.{same_value, went}
use Rattle.icu_index_store.specs.stored_rows.KeptNames.{KeptName, Keeps}
use Rattle.icu_index_store.specs.stored_rows.StoredSchemas.{collation_table, names_schema}

another : ¬ ◌≡◌ {A = ℕ} 0 2
another e = absurd (omega (arith, e))

module _ (fingerprint settings : List ℕ) where
  abbrev params : Row
  params = Blob fingerprint ∷ Text settings ∷ []

  pub prints_other : (old new : State) (count : ℕ) (kept : List KeptName) → Keeps old.now kept → Executes replace_fingerprint_text params old new (Ok count) → Keeps new.now kept
  prints_other old new count kept keeps h =
      let db = old.now.trees in
      let w = runs_as replace_fingerprint_text params old new names_schema keeps.schema other_print_command other_print_is.0 other_print_is.1 count h in
      let text = statement_of replace_fingerprint_text (understood names_schema replace_fingerprint_text) in
      let done = went (subst (λ s. Does old.step_limit (mode_of old) params (record old.now { schema = s }) text None other_print_command (Ok (w.tally, new.now))) keeps.schema w.changed) in
      let now = ap (λ (p : Tally × Database). p.1) (same_value (went (went done.2).2).2) in
      let given = went done.1 in
      let written = went given.2 in
      let trees : done.0.trees ≡ written.0 = ap (λ (it : Written). it.trees) (same_value written.2) in
      let names = (one_step names_schema _ db written.0 (edit_of db collation_table (ids_of given.0) Given 1 given.0) refl written.1).tables.0 another in
      record {
        schema = ap (λ (d : Database). d.schema) now;
        rows = ap (λ (d : Database). d.trees 0) now ∙ (ap (λ (t : Trees). t 0) trees ∙ (names ∙ keeps.rows));
        numbered = keeps.numbered;
      }

  pub prints_first : (old new : State) (count : ℕ) (kept : List KeptName) → Keeps old.now kept → Executes keep_fingerprint_text params old new (Ok count) → Keeps new.now kept
  prints_first old new count kept keeps h =
      let db = old.now.trees in
      let w = runs_as keep_fingerprint_text params old new names_schema keeps.schema first_print_command first_print_is.0 first_print_is.1 count h in
      let text = statement_of keep_fingerprint_text (understood names_schema keep_fingerprint_text) in
      let done = went (subst (λ s. Does old.step_limit (mode_of old) params (record old.now { schema = s }) text None first_print_command (Ok (w.tally, new.now))) keeps.schema w.changed) in
      let now = ap (λ (p : Tally × Database). p.1) (same_value (went (went done.2).2).2) in
      let given = went done.1 in
      let written = went (went given.2).2 in
      let counted = went written.2 in
      let trees : done.0.trees ≡ written.0 = ap (λ (it : Written). it.trees) (same_value counted.2) ∙ same_value counted.1 in
      let names = (one_step names_schema _ db written.0 (edit_of db collation_table [] Chosen 0 given.0) refl written.1).tables.0 another in
      record {
        schema = ap (λ (d : Database). d.schema) now;
        rows = ap (λ (d : Database). d.trees 0) now ∙ (ap (λ (t : Trees). t 0) trees ∙ (names ∙ keeps.rows));
        numbered = keeps.numbered;
      }
