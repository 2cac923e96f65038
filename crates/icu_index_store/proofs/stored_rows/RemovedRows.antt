-- What the statement that removes names makes of a database.
use Rattle.std.proofs.Common.{◌≡◌, ℕ, ℤ, pos, ◌<◌, ◌==◌, not, ◌&&◌, ◌||◌, Bool, true, false, cond, List, [], ◌∷◌, map, filter, Ok, None, refl, sym, ap, ◌∙◌, subst, arith, bytes_eq, IsPermutation}
use Rattle.std.proofs.lemmas.Bool.Decides.{nat_tests}
use Rattle.std.proofs.lemmas.List.Sorted.{list_any-IsPermutation}
use Rattle.std.specs.List.{AllByRecursion, list_all, list_any}
use Rattle.sqlite.proofs.Callers.{one_step, runs_as, statement_of}
use Rattle.sqlite.specs.Does.{Does, Tally}
use Rattle.sqlite.specs.Effect.{Database}
use Rattle.sqlite.specs.Listing.{understood}
use Rattle.sqlite.specs.Rows.{Written}
use Rattle.sqlite.specs.State.{State, Executes, mode_of}
use Rattle.sqlite_rules.specs.Calls.{ids_of}
use Rattle.sqlite_rules.specs.Edit.{edit_of, edited, without_all}
use Rattle.sqlite_rules.specs.declared.error.Rowids.TheVariants.{Given}
use Rattle.sqlite_sql.specs.Program.{overlay}
use Rattle.sqlite_sql.specs.Query.{IsAnswer, Output, output}
use Rattle.sqlite_sql.specs.Term.{Env, Term, holds}
use Rattle.sqlite_trees.proofs.ListLemmas.{filter-map, map-map}
use Rattle.sqlite_trees.specs.Tree.{Trees, has_rowid, without_rowid}
use Rattle.sqlite_value.specs.Order.{Row}
use Rattle.sqlite_value.specs.declared.value.Value.TheVariants.{Blob, Int}
use Rattle.icu_index_store.specs.stored_names.StatementTexts.{remove_named_text}
use Rattle.icu_table_data.proofs.ListLemmas.{weaker}
use Rattle.icu_index_store.proofs.stored_rows.NumberedListLemmas.{all_filter, ascending_filter, unmapped}
use Rattle.icu_index_store.proofs.stored_rows.ListedRows.{staged_is}
use Rattle.icu_index_store.proofs.stored_rows.StatementMeanings.{key_is, name_is, removal_command, removal_is, removal_query}
use Rattle.icu_index_store.proofs.stored_rows.ValueLemmas.{same_blobs, same_number, same_value, went}
use Rattle.icu_index_store.specs.stored_rows.KeptNames.{KeptName, AreNumbered, Keeps, is_this_name, row_of, without_named}
use Rattle.icu_index_store.specs.stored_rows.StoredSchemas.{names_schema, names_table}

and-true : (b c : Bool) → (b && (c && true)) ≡ (b && c)
and-true true true = refl
and-true true false = refl
and-true false c = refl

-- ---- rows without those of some numbers

abbrev pub is_numbered_as : KeptName → KeptName → Bool
is_numbered_as k g = k.number == g.number

pub filter_all : (ks : List KeptName) → filter (λ k. true) ks ≡ ks
filter_all [] = refl
filter_all (k ∷ ks) = ap (λ l. k ∷ l) (filter_all ks)

pub without_one : (g : KeptName) (ks : List KeptName) → without_rowid (pos g.number) (map row_of ks) ≡ map row_of (filter (λ k. not (is_numbered_as k g)) ks)
without_one g ks =
    filter-map (λ r. not (has_rowid (pos g.number) r)) row_of ks
    ∙ ap (λ p. map row_of (filter p ks)) (λ i k. not (same_number k.number g.number i))

filter_twice : (p q : KeptName → Bool) (ks : List KeptName) → filter (λ k. not (q k)) (filter (λ k. not (p k)) ks) ≡ filter (λ k. not (p k || q k)) ks
filter_twice p q [] = refl
filter_twice p q (k ∷ ks) = at (p k) (q k) refl (filter_twice p q ks)
  where
    at : (a b : Bool) → q k ≡ b → filter (λ j. not (q j)) (filter (λ j. not (p j)) ks) ≡ filter (λ j. not (p j || q j)) ks
        → filter (λ j. not (q j)) (cond (not a) (k ∷ filter (λ j. not (p j)) ks) (filter (λ j. not (p j)) ks))
        ≡ cond (not (a || b)) (k ∷ filter (λ j. not (p j || q j)) ks) (filter (λ j. not (p j || q j)) ks)
    at true b e more = more
    at false true e more = ap (λ c. cond (not c) (k ∷ filter (λ j. not (q j)) (filter (λ j. not (p j)) ks)) (filter (λ j. not (q j)) (filter (λ j. not (p j)) ks))) e ∙ more
    at false false e more = ap (λ c. cond (not c) (k ∷ filter (λ j. not (q j)) (filter (λ j. not (p j)) ks)) (filter (λ j. not (q j)) (filter (λ j. not (p j)) ks))) e ∙ ap (λ l. k ∷ l) more

without_numbers : (gone ks : List KeptName) → without_all (map row_of ks) (map (λ g. pos g.number) gone) ≡ map row_of (filter (λ k. not (list_any (is_numbered_as k) gone)) ks)
without_numbers [] ks = ap (map row_of) (sym (filter_all ks))
without_numbers (g ∷ gone) ks =
    ap (λ rows. without_all rows (map (λ h. pos h.number) gone)) (without_one g ks)
    ∙ (without_numbers gone (filter (λ k. not (is_numbered_as k g)) ks)
    ∙ ap (map row_of) (filter_twice (λ k. is_numbered_as k g) (λ k. list_any (is_numbered_as k) gone) ks))

-- ---- the numbers of those that pass are those of no other

same_filter : (p q : KeptName → Bool) (ks : List KeptName) → AllByRecursion (λ k. p k ≡ q k) ks → filter (λ k. not (p k)) ks ≡ filter (λ k. not (q k)) ks
same_filter p q [] h = refl
same_filter p q (k ∷ ks) h = let e = h.0 in let more = same_filter p q ks h.1 in cc

module _ (passes : KeptName → Bool) where
  above_none : (x : KeptName) (ks : List KeptName) → AllByRecursion (λ k. x.number < k.number) ks → list_any (is_numbered_as x) ks ≡ false
  above_none x [] h = refl
  above_none x (k ∷ ks) h =
      let up = h.0 in
      let apart : (x.number == k.number) ≡ false = grind (arith, nat_tests) in
      rw apart (above_none x ks h.1)

  own : (n : ℕ) → (n == n) ≡ true
  own n = grind (arith, nat_tests)

  first_found : (x : KeptName) (xs : List KeptName) → AllByRecursion (λ k. x.number < k.number) xs → list_any (is_numbered_as x) (filter passes (x ∷ xs)) ≡ passes x
  first_found x xs h = at (passes x)
    where
      at : (b : Bool) → list_any (is_numbered_as x) (cond b (x ∷ filter passes xs) (filter passes xs)) ≡ b
      at true = rw (own x.number) refl
      at false = above_none x (filter passes xs) (all_filter (λ k. x.number < k.number) passes xs h)

  later_found : (x k : KeptName) (found : List KeptName) → x.number < k.number → list_any (is_numbered_as k) found ≡ passes k
      → (b : Bool) → list_any (is_numbered_as k) (cond b (x ∷ found) found) ≡ passes k
  later_found x k found up h true = let apart : (k.number == x.number) ≡ false = grind (arith, nat_tests) in rw apart h
  later_found x k found up h false = h

  all_later : (x : KeptName) (found ks : List KeptName) → AllByRecursion (λ k. x.number < k.number) ks → AllByRecursion (λ k. list_any (is_numbered_as k) found ≡ passes k) ks
      → (b : Bool) → AllByRecursion (λ k. list_any (is_numbered_as k) (cond b (x ∷ found) found) ≡ passes k) ks
  all_later x found [] up h b = tt
  all_later x found (k ∷ ks) up h b = (later_found x k found up.0 h.0 b, all_later x found ks up.1 h.1 b)

  found_by_number : (ks : List KeptName) → AreNumbered ks → AllByRecursion (λ k. list_any (is_numbered_as k) (filter passes ks) ≡ passes k) ks
  found_by_number [] h = tt
  found_by_number (x ∷ xs) h = (first_found x xs h.0, all_later x (filter passes xs) xs h.0 (found_by_number xs h.1) (passes x))

-- ---- the statement

module _ (key name : List ℕ) where
  abbrev params : Row
  params = Blob key ∷ Blob name ∷ []

  abbrev tests : List Term
  tests = key_is ∷ name_is ∷ []

  tested : (k : KeptName) → list_all (holds (params ∷ row_of k ∷ [])) tests ≡ is_this_name key name k
  tested k = rw (same_blobs k.key key, same_blobs k.name name) (and-true (bytes_eq k.key key) (bytes_eq k.name name))

  abbrev env_of : KeptName → Env
  env_of k = params ∷ row_of k ∷ []

  abbrev id_of : KeptName → Output
  id_of k = ([], Int (pos k.number) ∷ [])

  removed_ids : (db : Trees) (kept : List KeptName) (rows : List Row) → db 0 ≡ map row_of kept → IsAnswer removal_query (overlay db []) params rows
      → (gone : List KeptName) × IsPermutation (filter (is_this_name key name) kept) gone × (ids_of rows ≡ map (λ g. pos g.number) gone)
  removed_ids db kept rows holds_rows a =
      let named = filter (is_this_name key name) kept in
      let staged : a.staged ≡ map env_of named = a.grouped ∙ (ap (λ rs. Rattle.std.proofs.Common.flat_map (λ r. cond (list_all (holds (params ∷ r ∷ [])) tests) ((params ∷ r ∷ []) ∷ []) []) rs) holds_rows ∙ staged_is tests params (is_this_name key name) tested kept) in
      let shown : a.kept ≡ map id_of named = a.distinct ∙ (ap (map (output removal_query)) staged ∙ map-map (output removal_query) env_of named) in
      let pulled = unmapped id_of named a.ordered (subst (λ l. IsPermutation l a.ordered) shown a.same) in
      let all : rows ≡ map (λ (k : KeptName). Int (pos k.number) ∷ []) pulled.0 = a.shown ∙ (ap (map (λ (o : Output). o.1)) pulled.2 ∙ map-map (λ (o : Output). o.1) id_of pulled.0) in
      (pulled.0, pulled.1, ap ids_of all ∙ map-map _ (λ (k : KeptName). Int (pos k.number) ∷ []) pulled.0)

  left_rows : (kept gone : List KeptName) → AreNumbered kept → IsPermutation (filter (is_this_name key name) kept) gone
      → without_all (map row_of kept) (map (λ g. pos g.number) gone) ≡ map row_of (without_named key name kept)
  left_rows kept gone numbered moved =
      let found = found_by_number (is_this_name key name) kept numbered in
      without_numbers gone kept
      ∙ ap (map row_of) (same_filter (λ k. list_any (is_numbered_as k) gone) (is_this_name key name) kept
      (weaker (λ k. list_any (is_numbered_as k) (filter (is_this_name key name) kept) ≡ is_this_name key name k) (λ k. list_any (is_numbered_as k) gone ≡ is_this_name key name k)
      (λ k e. sym (list_any-IsPermutation (is_numbered_as k) (filter (is_this_name key name) kept) gone moved) ∙ e) kept found))

  pub removes : (old new : State) (count : ℕ) (kept : List KeptName) → Keeps old.now kept → Executes remove_named_text params old new (Ok count) → Keeps new.now (without_named key name kept)
  removes old new count kept keeps h =
      let db = old.now.trees in
      let w = runs_as remove_named_text params old new names_schema keeps.schema removal_command removal_is.0 removal_is.1 count h in
      let text = statement_of remove_named_text (understood names_schema remove_named_text) in
      let done = went (subst (λ s. Does old.step_limit (mode_of old) params (record old.now { schema = s }) text None removal_command (Ok (w.tally, new.now))) keeps.schema w.changed) in
      let now = ap (λ (p : Tally × Database). p.1) (same_value (went (went done.2).2).2) in
      let given = went done.1 in
      let written = went given.2 in
      let trees : done.0.trees ≡ written.0 = ap (λ (it : Written). it.trees) (same_value written.2) in
      let rows = (one_step names_schema _ db written.0 (edit_of db names_table (ids_of given.0) Given 0 []) refl written.1).rows in
      let ids = removed_ids db kept given.0 keeps.rows (given.1.answer Rattle.sqlite_value.specs.declared.value.Value.TheVariants.Null) in
      let edit : edited db (edit_of db names_table (ids_of given.0) Given 0 []) ≡ map row_of (without_named key name kept) =
      ap (λ all. without_all all (ids_of given.0)) keeps.rows ∙ (ap (without_all (map row_of kept)) ids.2 ∙ left_rows kept ids.0 keeps.numbered ids.1) in
      record {
        schema = ap (λ (d : Database). d.schema) now;
        rows = ap (λ (d : Database). d.trees 0) now ∙ (ap (λ (t : Trees). t 0) trees ∙ (rows ∙ edit));
        numbered = ascending_filter (λ a b. a.number < b.number) (λ k. not (is_this_name key name k)) kept keeps.numbered;
      }
