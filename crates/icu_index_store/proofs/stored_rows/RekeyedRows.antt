-- What the statement that gives a name another key makes of a database.
use Rattle.std.proofs.Common.{◌≡◌, ◌⊎◌, inl, inr, ℕ, pos, ◌<◌, ◌==◌, not, Bool, true, false, cond, List, [], ◌∷◌, length, map, filter, flat_map, Ok, None, refl, sym, ap, ap₂, ◌∙◌, subst, arith, IsPermutation}
use Rattle.std.proofs.lemmas.Bool.Decides.{nat_tests}
use Rattle.std.proofs.lemmas.List.Sorted.{length_permutation}
use Rattle.std.proofs.Math.Bool.{and-true}
use Rattle.std.proofs.lemmas.Bool.{eqb-true, eq-eqb}
use Rattle.std.specs.List.{AllByRecursion, list_all}
use Rattle.std.specs.Ordering.{match_ordering}
use Rattle.sqlite.proofs.Callers.{one_permutation, one_step, runs_as, statement_of}
use Rattle.sqlite.specs.Does.{Does, Tally}
use Rattle.sqlite.specs.Effect.{Database}
use Rattle.sqlite.specs.Listing.{understood}
use Rattle.sqlite.specs.Rows.{Written}
use Rattle.sqlite.specs.State.{State, Executes, mode_of}
use Rattle.sqlite_rules.specs.Calls.{ids_of}
use Rattle.sqlite_rules.specs.Cast.{cast, cast_row}
use Rattle.sqlite_rules.specs.Edit.{edit_of, edited, numbered, put_all, without_all}
use Rattle.sqlite_rules.specs.declared.error.Rowids.TheVariants.{Given}
use Rattle.sqlite_schema.specs.declared.schema.Kind.TheVariants.{Integer}
use Rattle.sqlite_sql.specs.Ops.{unary}
use Rattle.sqlite_sql.specs.Program.{overlay}
use Rattle.sqlite_sql.specs.Query.{IsAnswer, Output, output}
use Rattle.sqlite_sql.specs.Term.{Env, holds}
use Rattle.sqlite_trees.proofs.ListLemmas.{map-map}
use Rattle.sqlite_trees.specs.Tree.{Trees, has_rowid, put_row, without_rowid}
use Rattle.sqlite_value.specs.Order.{Row}
use Rattle.sqlite_value.specs.declared.value.Value.TheVariants.{Blob, Int, Null}
use Rattle.icu_index_store.specs.stored_names.StatementTexts.{rekey_text}
use Rattle.icu_index_store.proofs.stored_rows.InsertedRows.{cast_null, either}
use Rattle.icu_index_store.proofs.stored_rows.ListedRows.{staged_is}
use Rattle.icu_table_data.proofs.ListLemmas.{weaker}
use Rattle.icu_index_store.proofs.stored_rows.NumberedListLemmas.{all_filter, pass_none, unmapped}
use Rattle.icu_index_store.proofs.stored_rows.RemovedRows.{is_numbered_as, without_one}
use Rattle.icu_index_store.proofs.stored_rows.StatementMeanings.{number_is, rekey_command, rekey_is, rekey_query}
use Rattle.icu_index_store.proofs.stored_rows.ValueLemmas.{number_above, number_below, same_ints, same_number, same_value, went}
use Rattle.icu_index_store.specs.stored_rows.KeptNames.{KeptName, AreNumbered, Keeps, key_given, row_of, with_other_key}
use Rattle.icu_index_store.specs.stored_rows.StoredSchemas.{names_schema, names_table}

cast_number : (n : ℕ) → cast Integer (Int (pos n)) ≡ Int (pos n)
unfolding unary
cast_number n = either _ (Int (pos n))

pub apart_test : (m n : ℕ) → m < n → (m == n) ≡ false
apart_test m n h = grind (arith, nat_tests)

pub apart_back : (m n : ℕ) → m < n → (n == m) ≡ false
apart_back m n h = grind (arith, nat_tests)

all_pass : (p : KeptName → Bool) (ks : List KeptName) → AllByRecursion (λ k. p k ≡ true) ks → filter p ks ≡ ks
all_pass p [] h = refl
all_pass p (k ∷ ks) h = ap (λ b. cond b (k ∷ filter p ks) (filter p ks)) h.0 ∙ ap (λ l. k ∷ l) (all_pass p ks h.1)

-- a row before all others
put_first : (new : KeptName) (ks : List KeptName) → AllByRecursion (λ k. new.number < k.number) ks → put_row (row_of new) (map row_of ks) ≡ row_of new ∷ map row_of ks
put_first new [] h = refl
put_first new (k ∷ ks) h =
    ap (λ o. match_ordering o (row_of k ∷ put_row (row_of new) (map row_of ks)) (row_of new ∷ map row_of ks) (row_of new ∷ row_of k ∷ map row_of ks)) (number_above new.number k.number h.0)

-- a row behind another one
put_behind : (new k : KeptName) (rows : List Row) → k.number < new.number → put_row (row_of new) (row_of k ∷ rows) ≡ row_of k ∷ put_row (row_of new) rows
put_behind new k rows h =
    ap (λ o. match_ordering o (row_of k ∷ put_row (row_of new) rows) (row_of new ∷ rows) (row_of new ∷ row_of k ∷ rows)) (number_below k.number new.number h)

module _ (number : ℕ) (key : List ℕ) where
  abbrev is_number : KeptName → Bool
  is_number k = k.number == number

  abbrev renewed : KeptName → KeptName
  renewed k = record k { key = key }

  -- ---- the names with one under another key

  pub untouched : (ks : List KeptName) → AllByRecursion (λ k. is_number k ≡ false) ks → with_other_key number key ks ≡ ks
  untouched [] h = refl
  untouched (k ∷ ks) h = ap₂ (λ j l. j ∷ l) (ap (λ b. cond b (renewed k) k) h.0) (untouched ks h.1)

  same_place : (k : KeptName) → (key_given number key k).number ≡ k.number
  same_place k = at (is_number k)
    where
      at : (b : Bool) → (cond b (renewed k) k).number ≡ k.number
      at true = refl
      at false = refl

  all_above : (m : ℕ) (ks : List KeptName) → AllByRecursion (λ k. m < k.number) ks → AllByRecursion (λ k. m < k.number) (with_other_key number key ks)
  all_above m [] h = tt
  all_above m (k ∷ ks) h = (subst (λ n. m < n) (sym (same_place k)) h.0, all_above m ks h.1)

  pub still_numbered : (ks : List KeptName) → AreNumbered ks → AreNumbered (with_other_key number key ks)
  still_numbered [] h = tt
  still_numbered (k ∷ ks) h = (
    subst (λ n. AllByRecursion (λ j. n < j.number) (with_other_key number key ks)) (sym (same_place k)) (all_above k.number ks h.0),
    still_numbered ks h.1,
  )

  -- ---- its row

  abbrev HasNone : List KeptName → Type 0
  HasNone ks = (filter is_number ks ≡ []) × (with_other_key number key ks ≡ ks)

  abbrev HasOne : List KeptName → Type 0
  HasOne ks =
      (x : KeptName) × (filter is_number ks ≡ x ∷ []) × (put_row (row_of (renewed x)) (without_rowid (pos x.number) (map row_of ks)) ≡ map row_of (with_other_key number key ks))

  first_one : (k : KeptName) (ks : List KeptName) → is_number k ≡ true → AllByRecursion (λ j. k.number < j.number) ks → HasOne (k ∷ ks)
  first_one k ks e up =
      let same : k.number ≡ number = eqb-true k.number number e in
      let others : AllByRecursion (λ j. is_number j ≡ false) ks = weaker (λ j. k.number < j.number) (λ j. is_number j ≡ false) (λ j low. ap (λ n. j.number == n) (sym same) ∙ apart_back k.number j.number low) ks up in
      let kept : AllByRecursion (λ j. not (is_numbered_as j k) ≡ true) ks = weaker (λ j. k.number < j.number) (λ j. not (is_numbered_as j k) ≡ true) (λ j low. ap not (apart_back k.number j.number low)) ks up in
      let left : filter (λ j. not (is_numbered_as j k)) (k ∷ ks) ≡ ks =
      ap (λ b. cond (not b) (k ∷ filter (λ j. not (is_numbered_as j k)) ks) (filter (λ j. not (is_numbered_as j k)) ks)) (eq-eqb k.number k.number refl)
      ∙ all_pass (λ j. not (is_numbered_as j k)) ks kept in (
        k,
        ap (λ b. cond b (k ∷ filter is_number ks) (filter is_number ks)) e ∙ ap (λ l. k ∷ l) (pass_none is_number ks others),
        ap (put_row (row_of (renewed k))) (without_one k (k ∷ ks) ∙ ap (map row_of) left)
            ∙ (put_first (renewed k) ks up
            ∙ sym (ap (map row_of) (ap₂ (λ j l. j ∷ l) (ap (λ b. cond b (renewed k) k) e) (untouched ks others)))),
      )

  later_one : (k : KeptName) (ks : List KeptName) → is_number k ≡ false → AllByRecursion (λ j. k.number < j.number) ks → HasOne ks → HasOne (k ∷ ks)
  later_one k ks e up one =
      let x = one.0 in
      let low : k.number < x.number = (subst (AllByRecursion (λ j. k.number < j.number)) one.1 (all_filter (λ j. k.number < j.number) is_number ks up)).0 in
      let other : has_rowid (pos x.number) (row_of k) ≡ false = same_number k.number x.number ∙ apart_test k.number x.number low in
      let rest = without_rowid (pos x.number) (map row_of ks) in (
        x,
        ap (λ b. cond b (k ∷ filter is_number ks) (filter is_number ks)) e ∙ one.1,
        ap (λ b. put_row (row_of (renewed x)) (cond (not b) (row_of k ∷ rest) rest)) other
            ∙ (put_behind (renewed x) k rest low
            ∙ (ap (λ rows. row_of k ∷ rows) one.2
            ∙ sym (ap (λ j. row_of j ∷ map row_of (with_other_key number key ks)) (ap (λ b. cond b (renewed k) k) e)))),
      )

  one_or_none : (ks : List KeptName) → AreNumbered ks → HasNone ks ⊎ HasOne ks
  one_or_none [] h = inl (refl, refl)
  one_or_none (k ∷ ks) h = at (is_number k) refl (one_or_none ks h.1)
    where
      at : (b : Bool) → is_number k ≡ b → HasNone ks ⊎ HasOne ks → HasNone (k ∷ ks) ⊎ HasOne (k ∷ ks)
      at true e more = inr (first_one k ks e h.0)
      at false e (inl none) = inl (
        ap (λ b. cond b (k ∷ filter is_number ks) (filter is_number ks)) e ∙ none.0,
        ap₂ (λ j l. j ∷ l) (ap (λ b. cond b (renewed k) k) e) none.1,
      )
      at false e (inr one) = inr (later_one k ks e h.0 one)

  -- ---- the statement

  abbrev params : Row
  params = Int (pos number) ∷ Blob key ∷ []

  tested : (k : KeptName) → list_all (holds (params ∷ row_of k ∷ [])) (number_is ∷ []) ≡ is_number k
  tested k = rw (same_ints k.number number) (and-true (is_number k))

  abbrev env_of : KeptName → Env
  env_of k = params ∷ row_of k ∷ []

  -- what the query shows of a name: its number, and the row that comes in its place
  abbrev source_of : KeptName → Row
  source_of k = Int (pos k.number) ∷ Int (pos k.number) ∷ Null ∷ Blob key ∷ Blob k.name ∷ Blob k.payload ∷ []

  abbrev output_of : KeptName → Output
  output_of k = ([], source_of k)

  sources : (db : Trees) (kept : List KeptName) (rows : List Row) → db 0 ≡ map row_of kept → IsAnswer rekey_query (overlay db []) params rows
      → (found : List KeptName) × IsPermutation (filter is_number kept) found × (rows ≡ map source_of found)
  sources db kept rows holds_rows a =
      let part = filter is_number kept in
      let staged : a.staged ≡ map env_of part = a.grouped ∙ (ap (λ rs. flat_map (λ r. cond (list_all (holds (params ∷ r ∷ [])) (number_is ∷ [])) ((params ∷ r ∷ []) ∷ []) []) rs) holds_rows ∙ staged_is (number_is ∷ []) params is_number tested kept) in
      let shown : a.kept ≡ map output_of part = a.distinct ∙ (ap (map (output rekey_query)) staged ∙ map-map (output rekey_query) env_of part) in
      let pulled = unmapped output_of part a.ordered (subst (λ l. IsPermutation l a.ordered) shown a.same) in
      (pulled.0, pulled.1, a.shown ∙ (ap (map (λ (o : Output). o.1)) pulled.2 ∙ map-map (λ (o : Output). o.1) output_of pulled.0))

  -- what an edit makes of rows
  abbrev made : List Row → List Row → List Row
  made all rows =
      put_all (without_all all (ids_of rows)) (numbered Given (without_all all (ids_of rows)) (map (λ s. cast_row names_table (Rattle.std.proofs.Common.drop 1 s)) rows))

  no_name : {X : Type 0} (found : List X) → IsPermutation [] found → found ≡ []
  no_name [] h = refl
  no_name (x ∷ found) h = absurd (omega (arith, length_permutation [] (x ∷ found) h))

  placed : (x : KeptName) (rows : List Row) → put_row (cast Integer (Int (pos x.number)) ∷ cast Integer Null ∷ Blob key ∷ Blob x.name ∷ Blob x.payload ∷ []) rows ≡ put_row (row_of (renewed x)) rows
  placed x rows = ap₂ (λ a b. put_row (a ∷ b ∷ Blob key ∷ Blob x.name ∷ Blob x.payload ∷ []) rows) (cast_number x.number) cast_null

  moved_rows : (kept found : List KeptName) → AreNumbered kept → IsPermutation (filter is_number kept) found → made (map row_of kept) (map source_of found) ≡ map row_of (with_other_key number key kept)
  moved_rows kept found order moved = at (one_or_none kept order)
    where
      at : HasNone kept ⊎ HasOne kept → made (map row_of kept) (map source_of found) ≡ map row_of (with_other_key number key kept)
      at (inl none) =
          let empty = no_name found (subst (λ l. IsPermutation l found) none.0 moved) in
          ap (λ l. made (map row_of kept) (map source_of l)) empty ∙ ap (map row_of) (sym none.1)
      at (inr one) =
          let single = one_permutation one.0 found (subst (λ l. IsPermutation l found) one.1 moved) in
          ap (λ l. made (map row_of kept) (map source_of l)) single
          ∙ (placed one.0 (without_rowid (pos one.0.number) (map row_of kept)) ∙ one.2)

  pub rekeys : (old new : State) (count : ℕ) (kept : List KeptName) → Keeps old.now kept → Executes rekey_text params old new (Ok count) → Keeps new.now (with_other_key number key kept)
  rekeys old new count kept keeps h =
      let db = old.now.trees in
      let w = runs_as rekey_text params old new names_schema keeps.schema rekey_command rekey_is.0 rekey_is.1 count h in
      let text = statement_of rekey_text (understood names_schema rekey_text) in
      let done = went (subst (λ s. Does old.step_limit (mode_of old) params (record old.now { schema = s }) text None rekey_command (Ok (w.tally, new.now))) keeps.schema w.changed) in
      let now = ap (λ (p : Tally × Database). p.1) (same_value (went (went done.2).2).2) in
      let given = went done.1 in
      let written = went given.2 in
      let trees : done.0.trees ≡ written.0 = ap (λ (it : Written). it.trees) (same_value written.2) in
      let rows = (one_step names_schema _ db written.0 (edit_of db names_table (ids_of given.0) Given 1 given.0) refl written.1).rows in
      let found = sources db kept given.0 keeps.rows (given.1.answer Null) in
      let edit : edited db (edit_of db names_table (ids_of given.0) Given 1 given.0) ≡ map row_of (with_other_key number key kept) =
      ap (λ all. made all given.0) keeps.rows ∙ (ap (made (map row_of kept)) found.2 ∙ moved_rows kept found.0 keeps.numbered found.1) in
      record {
        schema = ap (λ (d : Database). d.schema) now;
        rows = ap (λ (d : Database). d.trees 0) now ∙ (ap (λ (t : Trees). t 0) trees ∙ (rows ∙ edit));
        numbered = still_numbered kept keeps.numbered;
      }
