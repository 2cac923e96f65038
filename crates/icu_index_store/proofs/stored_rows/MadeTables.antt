-- What the statements that make the tables of an index make of a database.
use Rattle.std.proofs.Common.{◌≡◌, inl, inr, ℕ, zero, suc, ◌<◌, take, drop, length, arith, true, false, List, [], ◌∷◌, codes, Some, None, Ok, refl, sym, ap, ◌∙◌, subst, subst₂, append-nil}
use Rattle.std.proofs.lemmas.Bool.{cases_Bool}
use Rattle.sqlite.proofs.Callers.{IsPlain, command_of, statement_of}
use Rattle.sqlite.specs.Batch.{ExecutesAllInside, RunInTurn, Step, first_len}
use Rattle.sqlite.specs.Clock.{timed}
use Rattle.sqlite.specs.Does.{Does, Tally, lacks_sequence}
use Rattle.sqlite.specs.Effect.{Database}
use Rattle.sqlite.specs.Held.{Held, state}
use Rattle.sqlite.specs.Listing.{understood}
use Rattle.sqlite.specs.State.{State, ExecutesIn, Runs, mode_of, shows_rows, text_of}
use Rattle.sqlite_catalog.specs.Change.{created, indexed}
use Rattle.sqlite_resolve.specs.Compile.{index_defined_by, table_defined_by}
use Rattle.sqlite_schema.specs.declared.command.Command.{Command}
use Rattle.sqlite_schema.specs.declared.command.Command.TheVariants.{CreateIndex, CreateTable, Nothing}
use Rattle.sqlite_schema.specs.declared.schema.Schema.{Schema}
use Rattle.sqlite_tied.specs.Compute.{everything}
use Rattle.sqlite_trees.specs.declared.store.Store.{Ghosts}
use Rattle.icu_index_store.specs.stored_names.StatementTexts.{tables_text}
use Rattle.icu_index_store.proofs.stored_rows.ValueLemmas.{same_value, went}
use Rattle.icu_index_store.specs.stored_rows.KeptNames.{KeptName, Keeps}
use Rattle.icu_index_store.specs.stored_rows.StoredSchemas.{collation_table, key_index, names_schema, names_table, no_schema}

abbrev pub names_text : List ℕ
names_text = codes "CREATE TABLE IF NOT EXISTS icu_names (id INTEGER PRIMARY KEY, key BLOB NOT NULL, name BLOB NOT NULL, payload BLOB NOT NULL) STRICT;"

abbrev pub keys_text : List ℕ
keys_text = codes " CREATE INDEX IF NOT EXISTS icu_names_by_key ON icu_names (key);"

abbrev pub collation_text : List ℕ
collation_text = codes " CREATE TABLE IF NOT EXISTS icu_collation (id INTEGER PRIMARY KEY, fingerprint BLOB NOT NULL, settings TEXT NOT NULL) STRICT"

-- the schemas on the way
abbrev first_schema : Schema
first_schema = record { tables = names_table ∷ []; indexes = []; views = [] }

abbrev second_schema : Schema
second_schema = record { tables = names_table ∷ []; indexes = key_index ∷ []; views = [] }

-- ---- a batch is its statements in turn

abbrev later_text : List ℕ
later_text = codes " CREATE INDEX IF NOT EXISTS icu_names_by_key ON icu_names (key); CREATE TABLE IF NOT EXISTS icu_collation (id INTEGER PRIMARY KEY, fingerprint BLOB NOT NULL, settings TEXT NOT NULL) STRICT"

first_cut : (take (first_len tables_text) tables_text ≡ names_text) × (drop (first_len tables_text) tables_text ≡ later_text)
unfolding everything
first_cut = (refl, refl)

second_cut : (take (first_len later_text) later_text ≡ keys_text) × (drop (first_len later_text) later_text ≡ collation_text)
unfolding everything
second_cut = (refl, refl)

third_cut : (take (first_len collation_text) collation_text ≡ collation_text) × (drop (first_len collation_text) collation_text ≡ [])
unfolding everything
third_cut = (refl, refl)

abbrev ThreeSteps : {S : Type 0} → Ghosts S → Held S → Held S → Type 0
ThreeSteps {S} g old new =
    (first : Held S) × (second : Held S)
    × ((n : ℕ) × Step g names_text old first (Ok n)) × ((n : ℕ) × Step g keys_text first second (Ok n)) × ((n : ℕ) × Step g collation_text second new (Ok n))

module _ {S : Type 0} (g : Ghosts S) where
  -- the first statement, and then the others
  one_turn : (most : ℕ) (text part rest : List ℕ) (old new : Held S) → 0 < length text → take (first_len text) text ≡ part → drop (first_len text) text ≡ rest
      → RunInTurn g (Some 0) most text old new (Ok tt)
      → (mid : Held S) × ((n : ℕ) × Step g part old mid (Ok n)) × (less : ℕ) × RunInTurn g (Some 0) less rest mid new (Ok tt)
  one_turn most [] part rest old new some is left h = absurd (omega arith)
  one_turn zero (b ∷ more) part rest old new some is left h = absurd h
  one_turn (suc most) (b ∷ more) part rest old new some is left (inl failed) = absurd (let e = failed.1 in cc)
  one_turn (suc most) (b ∷ more) part rest old new some is left (inr went) =
      (went.0, (went.1, subst (λ t. Step g t old went.0 (Ok went.1)) is went.2), most, subst (λ t. RunInTurn g (Some 0) most t went.0 new (Ok tt)) left went.3)

  no_turn : (most : ℕ) (old new : Held S) → RunInTurn g (Some 0) most [] old new (Ok tt) → new ≡ old
  no_turn zero old new h = h.1
  no_turn (suc most) old new h = h.1

  three : (old new : Held S) → ExecutesAllInside g 0 tables_text old new (Ok tt) → ThreeSteps g old new
  unfolding ExecutesAllInside
  three old new h =
      let a = one_turn (length tables_text) tables_text names_text later_text old new (omega arith) first_cut.0 first_cut.1 h in
      let b = one_turn a.2 later_text keys_text collation_text a.0 new (omega arith) second_cut.0 second_cut.1 a.3 in
      let c = one_turn b.2 collation_text collation_text [] b.0 new (omega arith) third_cut.0 third_cut.1 b.3 in
      let end = no_turn c.2 c.0 new c.3 in
      (a.0, b.0, a.1, b.1, subst (λ s. (n : ℕ) × Step g collation_text b.0 s (Ok n)) (sym end) c.1)

-- ---- one statement of a batch

module _ (sql : List ℕ) (old new : State) (schema : Schema) (has : old.now.schema ≡ schema) (command : Command)
    (is : command_of (understood schema sql) ≡ command) (plain : IsPlain (understood schema sql)) where
  runs_in_batch : (count : ℕ) → ExecutesIn true sql [] old new (Ok count) → Runs old new None command (statement_of sql (understood schema sql)) [] count
  unfolding ExecutesIn
  runs_in_batch count h =
      let known = sym h.1.is ∙ ap (λ s. understood s sql) has in
      let bare = subst IsPlain (sym known) plain in
      let ran : Runs old new h.0.returning h.0.command (text_of sql h.0) (timed [] h.0.formats h.1.now) count = elim (cases_Bool (shows_rows true h.0)) [
        | inl shows ↦ absurd (let e = (rw shows at h.2).0 in cc)
        | inr runs ↦ rw runs at h.2
      ] in
      subst₂ (λ k t. Runs old new None k t [] count) (ap command_of known ∙ is) (ap (statement_of sql) known) (rw (bare.0, bare.1, append-nil {A = _} []) at ran)

-- ---- the tables of a database that has none

names_is : (command_of (understood no_schema names_text) ≡ CreateTable) × IsPlain (understood no_schema names_text) × (table_defined_by (statement_of names_text (understood no_schema names_text)) ≡ Ok names_table)
unfolding understood everything
names_is = (refl, (refl, refl), refl)

keys_is : (command_of (understood first_schema keys_text) ≡ CreateIndex 0) × IsPlain (understood first_schema keys_text) × (index_defined_by names_table (statement_of keys_text (understood first_schema keys_text)) ≡ Ok (record key_index { tree = 0 }))
unfolding understood everything
keys_is = (refl, (refl, refl), refl)

collation_is : (command_of (understood second_schema collation_text) ≡ CreateTable) × IsPlain (understood second_schema collation_text) × (table_defined_by (statement_of collation_text (understood second_schema collation_text)) ≡ Ok (record collation_table { tree = 0 }))
unfolding understood everything
collation_is = (refl, (refl, refl), refl)

names_made : (old new : State) (n : ℕ) → old.now.schema ≡ no_schema → ExecutesIn true names_text [] old new (Ok n) → (new.now.schema ≡ first_schema) × (new.now.trees 0 ≡ [])
names_made old new n has h =
    let w = runs_in_batch names_text old new no_schema has CreateTable names_is.0 names_is.1 n h in
    let all = went w.changed in
    let first = went all.1 in
    let made = first.1 in
    let both : Ok made.table ≡ Ok names_table = sym made.defined ∙ names_is.2 in
    let same : made.table ≡ names_table = same_value both in
    let schema : first.0.schema ≡ first_schema = made.is ∙ (ap (λ s. created s made.table) has ∙ ap (created no_schema) same) in
    let plain : lacks_sequence first.0.schema ≡ false = ap lacks_sequence schema in
    let now : new.now ≡ first.0 = ap (λ (p : Tally × Database). p.1) (same_value all.2) ∙ same_value (rw plain at first.2) in
    (ap (λ (d : Database). d.schema) now ∙ schema, ap (λ (d : Database). d.trees 0) now ∙ subst (λ s. first.0.trees (Rattle.sqlite_catalog.specs.Change.next_tree s) ≡ []) has made.empty)

keys_made : (old new : State) (n : ℕ) → old.now.schema ≡ first_schema → old.now.trees 0 ≡ [] → ExecutesIn true keys_text [] old new (Ok n) → (new.now.schema ≡ second_schema) × (new.now.trees 0 ≡ [])
keys_made old new n has none h =
    let text = statement_of keys_text (understood first_schema keys_text) in
    let w = runs_in_batch keys_text old new first_schema has (CreateIndex 0) keys_is.0 keys_is.1 n h in
    let all = went (subst (λ s. Does old.step_limit (mode_of old) [] (record old.now { schema = s }) text None (CreateIndex 0) (Ok (w.tally, new.now))) has w.changed) in
    let made = all.1 in
    let both : Ok made.index ≡ Ok (record key_index { tree = 0 }) = sym made.defined ∙ keys_is.2 in
    let same : made.index ≡ record key_index { tree = 0 } = same_value both in
    let schema : all.0.schema ≡ second_schema = made.is ∙ ap (indexed first_schema names_table) same in
    let now : new.now ≡ all.0 = ap (λ (p : Tally × Database). p.1) (same_value all.2) in
    (ap (λ (d : Database). d.schema) now ∙ schema, ap (λ (d : Database). d.trees 0) now ∙ (made.rows.0 ∙ none))

collation_made : (old new : State) (n : ℕ) → old.now.schema ≡ second_schema → old.now.trees 0 ≡ [] → ExecutesIn true collation_text [] old new (Ok n) → (new.now.schema ≡ names_schema) × (new.now.trees 0 ≡ [])
collation_made old new n has none h =
    let w = runs_in_batch collation_text old new second_schema has CreateTable collation_is.0 collation_is.1 n h in
    let all = went w.changed in
    let first = went all.1 in
    let made = first.1 in
    let both : Ok made.table ≡ Ok (record collation_table { tree = 0 }) = sym made.defined ∙ collation_is.2 in
    let same : made.table ≡ record collation_table { tree = 0 } = same_value both in
    let schema : first.0.schema ≡ names_schema = made.is ∙ (ap (λ s. created s made.table) has ∙ ap (created second_schema) same) in
    let plain : lacks_sequence first.0.schema ≡ false = ap lacks_sequence schema in
    let now : new.now ≡ first.0 = ap (λ (p : Tally × Database). p.1) (same_value all.2) ∙ same_value (rw plain at first.2) in
    let kept = subst (λ (s : Schema). Rattle.sqlite_catalog.specs.Change.KeepsRows s.tables old.now.trees first.0.trees) has made.others in
    (ap (λ (d : Database). d.schema) now ∙ schema, ap (λ (d : Database). d.trees 0) now ∙ (kept.0 ∙ none))

-- ---- and of one that has them

names_are_there : (command_of (understood names_schema names_text) ≡ Nothing) × IsPlain (understood names_schema names_text)
unfolding understood everything
names_are_there = (refl, (refl, refl))

keys_are_there : (command_of (understood names_schema keys_text) ≡ Nothing) × IsPlain (understood names_schema keys_text)
unfolding understood everything
keys_are_there = (refl, (refl, refl))

collation_is_there : (command_of (understood names_schema collation_text) ≡ Nothing) × IsPlain (understood names_schema collation_text)
unfolding understood everything
collation_is_there = (refl, (refl, refl))

module _ {S : Type 0} (g : Ghosts S) (old new : Held S) (h : ExecutesAllInside g 0 tables_text old new (Ok tt)) where
  pub tables_made : (state g old).now.schema ≡ no_schema → Keeps (state g new).now []
  tables_made none =
      let t = three g old new h in
      let a = names_made (state g old) (state g t.0) t.2.0 none t.2.1.runs in
      let b = keys_made (state g t.0) (state g t.1) t.3.0 a.0 a.1 t.3.1.runs in
      let c = collation_made (state g t.1) (state g new) t.4.0 b.0 b.1 t.4.1.runs in
      record { schema = c.0; rows = c.1; numbered = tt }

  pub tables_stay : (kept : List KeptName) → Keeps (state g old).now kept → (state g new).now ≡ (state g old).now
  tables_stay kept keeps =
      let t = three g old new h in
      let a = (runs_in_batch names_text (state g old) (state g t.0) names_schema keeps.schema Nothing names_are_there.0 names_are_there.1 t.2.0 t.2.1.runs).0.0.now_is in
      let has_b = ap (λ (d : Database). d.schema) a ∙ keeps.schema in
      let b = (runs_in_batch keys_text (state g t.0) (state g t.1) names_schema has_b Nothing keys_are_there.0 keys_are_there.1 t.3.0 t.3.1.runs).0.0.now_is in
      let has_c = ap (λ (d : Database). d.schema) b ∙ has_b in
      let c = (runs_in_batch collation_text (state g t.1) (state g new) names_schema has_c Nothing collation_is_there.0 collation_is_there.1 t.4.0 t.4.1.runs).0.0.now_is in
      c ∙ (b ∙ a)
