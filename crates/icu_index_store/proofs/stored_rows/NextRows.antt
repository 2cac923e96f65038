-- What the query for the next names shows.
use Rattle.std.proofs.Common.{◌≡◌, ◌≢◌, ℕ, ℤ, pos, ◌+◌, ◌<◌, Bool, false, cond, List, [], ◌∷◌, length, map, flat_map, get_or, take, sym, ap, ◌∙◌, subst, arith, IsPermutation, IsSorted}
use Rattle.std.proofs.lemmas.List.{get_or-map, take-map}
use Rattle.std.proofs.Math.ListN.{length-map}
use Rattle.std.proofs.lemmas.List.Sorted.{ranks_by, IsPermutation-sym}
use Rattle.std.proofs.Math.Bool.{and-true}
use Rattle.std.proofs.lemmas.Map.Keys.{ge_from_not_lt}
use Rattle.std.specs.Cmp.{IsStrictWeakOrder}
use Rattle.std.specs.List.{AllByRecursion, list_all}
use Rattle.std.specs.List.Sorted.{IsSortedBy}
use Rattle.std.specs.Ordering.{is_lt, nat_cmp}
use Rattle.sqlite.proofs.Callers.{reads_as}
use Rattle.sqlite.specs.State.{State, Shown}
use Rattle.sqlite_sql.specs.Program.{overlay}
use Rattle.sqlite_sql.specs.Query.{IsAnswer, Output, output, output_cmp}
use Rattle.sqlite_sql.specs.Term.{Env, holds}
use Rattle.sqlite_trees.proofs.ListLemmas.{map-map}
use Rattle.sqlite_trees.specs.Tree.{Trees}
use Rattle.sqlite_value.proofs.OrderLemmas.{row_cmp_total, then-Equal, value_cmp-Int}
use Rattle.sqlite_value.specs.Order.{Row, row_cmp}
use Rattle.sqlite_value.specs.declared.value.Value.TheVariants.{Int, Null}
use Rattle.icu_index_store.specs.stored_names.StatementTexts.{after_text}
use Rattle.icu_index_store.proofs.stored_rows.ListedRows.{staged_is}
use Rattle.icu_index_store.proofs.stored_rows.NumberedListLemmas.{ascending_filter, apart_moved, has_moved, none_falls, one_list, unmapped, NoneFalls, AreApart}
use Rattle.icu_index_store.proofs.stored_rows.StatementMeanings.{after_command, after_is, after_query, number_is_above}
use Rattle.icu_index_store.proofs.stored_rows.ValueLemmas.{ints_above, pos_cmp}
use Rattle.icu_index_store.specs.stored_rows.KeptNames.{KeptName, AreNumbered, Keeps, is_above, names_above, next_names, row_of, shown_row}
use Rattle.icu_index_store.specs.stored_rows.StoredSchemas.{names_schema}

-- ---- the order of names by their numbers

abbrev sort_row : KeptName → Row
sort_row k = Int (pos k.number) ∷ []

abbrev stands_before : KeptName → KeptName → Bool
stands_before a b = is_lt (row_cmp (sort_row a) (sort_row b))

weak : IsStrictWeakOrder stands_before
weak = ranks_by row_cmp_total sort_row

by_number : (a b : KeptName) → row_cmp (sort_row a) (sort_row b) ≡ nat_cmp a.number b.number
by_number a b = rw (value_cmp-Int (pos a.number) (pos b.number), pos_cmp a.number b.number) (then-Equal (nat_cmp a.number b.number))

above : (a b : KeptName) → stands_before b a ≡ false → b.number ≢ a.number → a.number < b.number
above a b order apart =
    let least = ge_from_not_lt b.number a.number (ap is_lt (sym (by_number b a)) ∙ order) in
    omega arith

all_above : (a : KeptName) (bs : List KeptName) → AllByRecursion (λ b. stands_before b a ≡ false) bs → AllByRecursion (λ b. b.number ≢ a.number) bs
    → AllByRecursion (λ b. a.number < b.number) bs
all_above a [] order apart = tt
all_above a (b ∷ bs) order apart = (above a b order.0 apart.0, all_above a bs order.1 apart.1)

rises : (ks : List KeptName) → NoneFalls stands_before weak ks → AreApart (λ (k : KeptName). k.number) ks → AreNumbered ks
rises [] order apart = tt
rises (a ∷ ks) order apart = (all_above a ks order.0 apart.0, rises ks order.1 apart.1)

-- names in the order of their numbers have no other order by them
in_place : (kept listed : List KeptName) → AreNumbered kept → IsPermutation kept listed → IsSortedBy stands_before listed → listed ≡ kept
in_place kept listed numbered moved sorted =
    one_list (λ (k : KeptName). k.number) listed kept
    (rises listed (none_falls stands_before weak listed sorted) (apart_moved (λ (k : KeptName). k.number) kept listed numbered moved))
    numbered
    (λ z h. has_moved kept listed moved z h)
    (λ z h. has_moved listed kept (IsPermutation-sym _ _ moved) z h)

-- ---- the query

module _ (behind : ℤ) (most : ℕ) where
  abbrev params : Row
  params = Int behind ∷ Int (pos most) ∷ []

  tested : (k : KeptName) → list_all (holds (params ∷ row_of k ∷ [])) (number_is_above ∷ []) ≡ is_above behind k
  tested k = rw (ints_above k.number behind) (and-true (is_above behind k))

  abbrev env_of : KeptName → Env
  env_of k = params ∷ row_of k ∷ []

  abbrev output_of : KeptName → Output
  output_of k = (sort_row k, shown_row k)

  sorted_names : (listed : List KeptName) → IsSorted (output_cmp after_query) (map output_of listed) → IsSortedBy stands_before listed
  sorted_names listed h i d low high =
      let long : length (map output_of listed) ≡ length listed = length-map listed output_of in
      let one = get_or-map output_of listed (i + 1) d (output_of d) high in
      let other = get_or-map output_of listed i d (output_of d) (omega arith) in
      ap (λ o. is_lt (output_cmp after_query o (output_of (get_or listed i d)))) (sym one)
      ∙ (ap (λ o. is_lt (output_cmp after_query (get_or (map output_of listed) (i + 1) (output_of d)) o)) (sym other)
      ∙ h i (output_of d) low (omega arith))

  answers : (db : Trees) (kept : List KeptName) (rows : List Row) → AreNumbered kept → db 0 ≡ map row_of kept
      → IsAnswer after_query (overlay db []) params rows → rows ≡ map shown_row (next_names behind most kept)
  answers db kept rows numbered holds_rows a =
      let part = names_above behind kept in
      let staged : a.staged ≡ map env_of part =
      a.grouped ∙ (ap (λ rs. flat_map (λ r. cond (list_all (holds (params ∷ r ∷ [])) (number_is_above ∷ [])) ((params ∷ r ∷ []) ∷ []) []) rs) holds_rows ∙ staged_is (number_is_above ∷ []) params (is_above behind) tested kept) in
      let shown : a.kept ≡ map output_of part = a.distinct ∙ (ap (map (output after_query)) staged ∙ map-map (output after_query) env_of part) in
      let pulled = unmapped output_of part a.ordered (subst (λ l. IsPermutation l a.ordered) shown a.same) in
      let sorted = sorted_names pulled.0 (subst (IsSorted (output_cmp after_query)) pulled.2 a.sorted) in
      let same : pulled.0 ≡ part = in_place part pulled.0 (ascending_filter (λ a b. a.number < b.number) (is_above behind) kept numbered) pulled.1 sorted in
      let listed : map (λ (o : Output). o.1) a.ordered ≡ map shown_row part =
      ap (map (λ (o : Output). o.1)) (pulled.2 ∙ ap (map output_of) same) ∙ map-map (λ (o : Output). o.1) output_of part in
      a.shown ∙ (ap (take most) listed ∙ take-map shown_row most part)

  pub next_shown : (old new : State) (rows : List Row) (kept : List KeptName) → Keeps old.now kept → Shown after_text params old new rows
      → rows ≡ map shown_row (next_names behind most kept)
  next_shown old new rows kept keeps shown =
      let read = reads_as after_text params old new names_schema keeps.schema after_command after_is.0 after_is.1 after_is.2 rows shown in
      answers old.now.trees kept rows keeps.numbered keeps.rows (read.answer Null)
