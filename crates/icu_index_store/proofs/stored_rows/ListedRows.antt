-- What a query for names shows.
use Rattle.std.proofs.Common.{◌≡◌, ◌≢◌, ℕ, pos, ◌+◌, ◌<◌, not, ◌&&◌, Bool, true, false, true≢false, cond, List, [], ◌∷◌, ◌++◌, length, map, filter, flat_map, get_or, refl, sym, ap, ◌∙◌, subst, arith, Ordering, Less, Equal, Greater, IsPermutation, IsSorted}
use Rattle.std.proofs.lemmas.Cmp.{nat_list_cmp_total}
use Rattle.std.proofs.lemmas.List.{get_or-map}
use Rattle.std.proofs.Math.ListN.{length-map}
use Rattle.std.proofs.lemmas.List.Sorted.{ranks_by, IsPermutation-sym}
use Rattle.std.proofs.lemmas.Map.Keys.{ge_from_not_lt}
use Rattle.std.specs.Cmp.{IsStrictWeakOrder}
use Rattle.std.specs.Cmp.Lexicographic.{slice_cmp}
use Rattle.std.specs.List.{AllByRecursion, list_all}
use Rattle.std.specs.List.Sorted.{IsSortedByKey, IsSortedBy, ties}
use Rattle.std.specs.Ordering.{is_lt, nat_cmp, ordering_reverse, ordering_then}
use Rattle.sqlite.proofs.Callers.{reads_as}
use Rattle.sqlite.specs.State.{State, Shown}
use Rattle.sqlite_sql.specs.Program.{overlay}
use Rattle.sqlite_sql.specs.Query.{IsAnswer, Output, output, output_cmp}
use Rattle.sqlite_sql.specs.Term.{Term, Env, holds}
use Rattle.sqlite_trees.proofs.ListLemmas.{IsPermutation-filter, map-map}
use Rattle.sqlite_trees.specs.Tree.{Trees}
use Rattle.sqlite_value.proofs.OrderLemmas.{row_cmp_total, then-Equal, value_cmp-Blob, value_cmp-Int}
use Rattle.sqlite_value.specs.Order.{Row, row_cmp}
use Rattle.sqlite_value.specs.declared.value.Value.TheVariants.{Blob, Int, Null}
use Rattle.icu_index_store.proofs.stored_rows.NumberedListLemmas.{ascending_filter, apart_moved, has_moved, none_falls, one_list, unmapped, NoneFalls, AreApart}
use Rattle.icu_index_store.proofs.stored_rows.StatementMeanings.{Lists, listing_command, listing_query}
use Rattle.icu_index_store.proofs.stored_rows.ValueLemmas.{pos_cmp}
use Rattle.icu_index_store.specs.stored_rows.KeptNames.{KeptName, IsListingOf, AreNumbered, Keeps, row_of, shown_row}
use Rattle.icu_index_store.specs.stored_rows.StoredSchemas.{names_schema}

-- ---- the order of names by their keys, and then by their numbers

abbrev sort_row : KeptName → Row
sort_row k = Blob k.key ∷ Int (pos k.number) ∷ []

abbrev stands_before : KeptName → KeptName → Bool
stands_before a b = is_lt (row_cmp (sort_row a) (sort_row b))

weak : IsStrictWeakOrder stands_before
weak = ranks_by row_cmp_total sort_row

by_both : (a b : KeptName) → row_cmp (sort_row a) (sort_row b) ≡ ordering_then (slice_cmp nat_cmp a.key b.key) (nat_cmp a.number b.number)
by_both a b =
    rw (value_cmp-Blob a.key b.key, value_cmp-Int (pos a.number) (pos b.number), pos_cmp a.number b.number, then-Equal (nat_cmp a.number b.number)) refl

abbrev key_below : KeptName → KeptName → Bool
key_below a b = is_lt (slice_cmp nat_cmp a.key b.key)

key_weak : IsStrictWeakOrder key_below
key_weak = ranks_by nat_list_cmp_total (λ (k : KeptName). k.key)

first_decides : (o p : Ordering) → is_lt (ordering_then o p) ≡ false → is_lt o ≡ false
first_decides Less p h = h
first_decides Equal p h = refl
first_decides Greater p h = refl

-- a name that doesn't stand before another has no lesser key
not_below : (a b : KeptName) → stands_before a b ≡ false → key_below a b ≡ false
not_below a b h = first_decides (slice_cmp nat_cmp a.key b.key) (nat_cmp a.number b.number) (rw (by_both a b) at h)

-- ---- a listing

turned : (o : Ordering) → is_lt o ≡ false → is_lt (ordering_reverse o) ≡ false → o ≡ Equal
turned Less h k = absurd (true≢false h)
turned Equal h k = refl
turned Greater h k = absurd (true≢false k)

both : (a b : Bool) → (not a && not b) ≡ true → (a ≡ false) × (b ≡ false)
both true b h = absurd (true≢false (sym h))
both false true h = absurd (true≢false (sym h))
both false false h = (refl, refl)

module _ (x : KeptName) where
  -- the key is as that of the name
  abbrev alike : KeptName → Bool
  alike = ties key_below x

  one_key : (a b : KeptName) → alike a ≡ true → alike b ≡ true → slice_cmp nat_cmp b.key a.key ≡ Equal
  one_key a b h k =
      let at_a = both (key_below x a) (key_below a x) h in
      let at_b = both (key_below x b) (key_below b x) k in
      let down = key_weak.chain b x a at_b.1 at_a.0 in
      let up = key_weak.chain a x b at_a.1 at_b.0 in
      turned (slice_cmp nat_cmp b.key a.key) down (ap is_lt (sym (nat_list_cmp_total.antisymm a.key b.key)) ∙ up)

  above : (a b : KeptName) → alike a ≡ true → alike b ≡ true → stands_before b a ≡ false → b.number ≢ a.number → a.number < b.number
  above a b h k order apart =
      let same = one_key a b h k in
      let rest : is_lt (nat_cmp b.number a.number) ≡ false = ap (λ o. is_lt (ordering_then o (nat_cmp b.number a.number))) (sym same) ∙ (ap is_lt (sym (by_both b a)) ∙ order) in
      let least = ge_from_not_lt b.number a.number rest in
      omega arith

  all_above : (a : KeptName) → alike a ≡ true → (bs : List KeptName) → AllByRecursion (λ b. stands_before b a ≡ false) bs
      → AllByRecursion (λ b. b.number ≢ a.number) bs → AllByRecursion (λ b. a.number < b.number) (filter alike bs)
  all_above a h [] order apart = tt
  all_above a h (b ∷ bs) order apart = at (alike b) refl (all_above a h bs order.1 apart.1)
    where
      at : (c : Bool) → alike b ≡ c → AllByRecursion (λ d. a.number < d.number) (filter alike bs)
          → AllByRecursion (λ d. a.number < d.number) (cond c (b ∷ filter alike bs) (filter alike bs))
      at true e more = (above a b h e order.0 apart.0, more)
      at false e more = more

  class_rises : (ks : List KeptName) → NoneFalls stands_before weak ks → AreApart (λ (k : KeptName). k.number) ks → AreNumbered (filter alike ks)
  class_rises [] order apart = tt
  class_rises (a ∷ ks) order apart = at (alike a) refl (class_rises ks order.1 apart.1)
    where
      at : (c : Bool) → alike a ≡ c → AreNumbered (filter alike ks) → AreNumbered (cond c (a ∷ filter alike ks) (filter alike ks))
      at true e more = (all_above a e ks order.0 apart.0, more)
      at false e more = more

module _ (kept listed : List KeptName) (numbered : AreNumbered kept) (moved : IsPermutation kept listed) (sorted : IsSortedBy stands_before listed) where
  ascends : IsSortedByKey (λ (k : KeptName). k.key) (slice_cmp nat_cmp) listed
  ascends i d low high = not_below (get_or listed (i + 1) d) (get_or listed i d) (sorted i d low high)

  stable : (x : KeptName) → filter (alike x) listed ≡ filter (alike x) kept
  stable x =
      let part = IsPermutation-filter (alike x) kept listed moved in
      one_list (λ (k : KeptName). k.number) (filter (alike x) listed) (filter (alike x) kept)
      (class_rises x listed (none_falls stands_before weak listed sorted) (apart_moved (λ (k : KeptName). k.number) kept listed numbered moved))
      (ascending_filter (λ a b. a.number < b.number) (alike x) kept numbered)
      (λ z h. has_moved (filter (alike x) kept) (filter (alike x) listed) part z h)
      (λ z h. has_moved (filter (alike x) listed) (filter (alike x) kept) (IsPermutation-sym _ _ part) z h)

  listing : IsListingOf kept listed
  listing = record { permutation = moved; ascends = ascends; stable = stable }

-- ---- a query

module _ (tests : List Term) (params : Row) (passes : KeptName → Bool)
    (tested : (k : KeptName) → list_all (holds (params ∷ row_of k ∷ [])) tests ≡ passes k) where
  abbrev env_of : KeptName → Env
  env_of k = params ∷ row_of k ∷ []

  abbrev output_of : KeptName → Output
  output_of k = (sort_row k, shown_row k)

  abbrev env_if : Row → List Env
  env_if r = cond (list_all (holds (params ∷ r ∷ [])) tests) ((params ∷ r ∷ []) ∷ []) []

  pub staged_is : (kept : List KeptName) → flat_map env_if (map row_of kept) ≡ map env_of (filter passes kept)
  staged_is [] = refl
  staged_is (k ∷ kept) = ap (λ b. cond b (env_of k ∷ []) [] ++ flat_map env_if (map row_of kept)) (tested k) ∙ at (passes k) (staged_is kept)
    where
      at : (b : Bool) → flat_map env_if (map row_of kept) ≡ map env_of (filter passes kept)
          → cond b (env_of k ∷ []) [] ++ flat_map env_if (map row_of kept) ≡ map env_of (cond b (k ∷ filter passes kept) (filter passes kept))
      at true more = ap (λ l. env_of k ∷ l) more
      at false more = more

  sorted_names : (listed : List KeptName) → IsSorted (output_cmp (listing_query tests)) (map output_of listed) → IsSortedBy stands_before listed
  sorted_names listed h i d low high =
      let long : length (map output_of listed) ≡ length listed = length-map listed output_of in
      let one = get_or-map output_of listed (i + 1) d (output_of d) high in
      let other = get_or-map output_of listed i d (output_of d) (omega arith) in
      ap (λ o. is_lt (output_cmp (listing_query tests) o (output_of (get_or listed i d)))) (sym one)
      ∙ (ap (λ o. is_lt (output_cmp (listing_query tests) (get_or (map output_of listed) (i + 1) (output_of d)) o)) (sym other)
      ∙ h i (output_of d) low (omega arith))

  pub answers : (db : Trees) (kept : List KeptName) (rows : List Row) → AreNumbered kept → db 0 ≡ map row_of kept
      → IsAnswer (listing_query tests) (overlay db []) params rows
      → (listed : List KeptName) × IsListingOf (filter passes kept) listed × (rows ≡ map shown_row listed)
  answers db kept rows numbered holds_rows a =
      let staged : a.staged ≡ map env_of (filter passes kept) = a.grouped ∙ (ap (flat_map env_if) holds_rows ∙ staged_is kept) in
      let shown : a.kept ≡ map output_of (filter passes kept) = a.distinct ∙ (ap (map (output (listing_query tests))) staged ∙ map-map (output (listing_query tests)) env_of (filter passes kept)) in
      let pulled = unmapped output_of (filter passes kept) a.ordered (subst (λ l. IsPermutation l a.ordered) shown a.same) in
      let listed = pulled.0 in
      let sorted = sorted_names listed (subst (IsSorted (output_cmp (listing_query tests))) pulled.2 a.sorted) in (
        listed,
        listing (filter passes kept) listed (ascending_filter (λ a b. a.number < b.number) passes kept numbered) pulled.1 sorted,
        a.shown ∙ (ap (map (λ (o : Output). o.1)) pulled.2 ∙ map-map (λ (o : Output). o.1) output_of listed),
      )

  pub shows : (text : List ℕ) → Lists text tests → (old new : State) (kept : List KeptName) (rows : List Row) → Keeps old.now kept
      → Shown text params old new rows → (listed : List KeptName) × IsListingOf (filter passes kept) listed × (rows ≡ map shown_row listed)
  shows text is old new kept rows keeps shown =
      let read = reads_as text params old new names_schema keeps.schema (listing_command tests) is.0 is.1 is.2 rows shown in
      answers old.now.trees kept rows keeps.numbered keeps.rows (read.answer Null)
