-- From names with numbers and keys to names.
use Rattle.std.proofs.Common.{◌≡◌, ℕ, ◌+◌, ◌<◌, not, ◌&&◌, Bool, true, false, List, [], ◌∷◌, ◌++◌, length, map, filter, get_or, bytes_eq, Option, All, refl, sym, ap, ap₂, ◌∙◌, subst, arith}
use Rattle.std.proofs.Math.ListN.{length-map}
use Rattle.std.proofs.lemmas.List.{get_or-map, map-append}
use Rattle.std.proofs.lemmas.List.Elements.{All-from_recursion}
use Rattle.std.proofs.lemmas.List.Sorted.{All-permutation, IsPermutation-map}
use Rattle.std.proofs.lemmas.Slice.Eq.{bytes_eq-Decides}
use Rattle.std.specs.Cmp.Lexicographic.{slice_cmp}
use Rattle.std.specs.List.{AllByRecursion, AllZip}
use Rattle.std.specs.List.Sorted.{ties}
use Rattle.std.specs.Ordering.{is_lt, nat_cmp}
use Rattle.std.specs.declared.cmp.Ordering.{Ordering}
use Rattle.sqlite_trees.proofs.ListLemmas.{filter-map}
use Rattle.sqlite_value.specs.Order.{Row}
use Rattle.icu_index_store.proofs.stored_rows.NumberedListLemmas.{all_filter}
use Rattle.icu_index_store.specs.stored_rows.KeptNames.{HaveNameKeys, KeptName, IsListingOf, Keeps, is_key_within, is_this_name, is_within, left_by_all, next_number, shown_row, under_key, with_name, without_named}
use Rattle.sqlite.specs.Held.{Held, state}
use Rattle.sqlite.specs.State.{Shown}
use Rattle.sqlite_trees.specs.declared.store.Store.{Ghosts}
use Rattle.icu_index_store.proofs.stored_rows.RanStatements.{all_listed, range_listed, steps_leave}
use Rattle.icu_index_store.specs.stored_names.StatementTexts.{all_text, range_parameters, range_text}
use Rattle.icu_index_store.proofs.stored_rows.RekeyedNames.{names_rekeyed}
use Rattle.icu_index_store.specs.stored_rows.NameListings.{Change, ChangesAreListed, Named, RebuildsAreListed, ShowInOrder, ShowsName, add, left_after_all, named, remove, step_of, IsNameListing, KeysOrder}
use Rattle.icu_index_store.specs.stored_rows.RowLaws.{RunInTurn}

same_on : (p q : KeptName → Bool) (ks : List KeptName) → AllByRecursion (λ k. p k ≡ q k) ks → filter p ks ≡ filter q ks
same_on p q [] h = refl
same_on p q (k ∷ ks) h = let e = h.0 in let more = same_on p q ks h.1 in cc

all_map : (P Q : KeptName → Type 0) → ((k : KeptName) → P k → Q k) → (ks : List KeptName) → AllByRecursion P ks → AllByRecursion Q ks
all_map P Q f [] h = tt
all_map P Q f (k ∷ ks) h = (f k h.0, all_map P Q f ks h.1)

same_bytes : (xs ys : List ℕ) → bytes_eq xs ys ≡ true → xs ≡ ys
same_bytes xs ys h = (bytes_eq-Decides xs ys).0 h

module _ (key : List ℕ → List ℕ) where
  -- the key is that of the name
  abbrev HasKey : KeptName → Type 0
  HasKey k = k.key ≡ key k.name

  all_more : (P : KeptName → Type 0) (new : KeptName) (ks : List KeptName) → P new → AllByRecursion P ks → AllByRecursion P (ks ++ new ∷ [])
  all_more P new [] p h = (p, tt)
  all_more P new (k ∷ ks) p h = (h.0, all_more P new ks p h.1)

  one_test : (name : List ℕ) (k : KeptName) → HasKey k → is_this_name (key name) name k ≡ bytes_eq k.name name
  one_test name k has = at (bytes_eq k.name name) refl
    where
      at : (b : Bool) → bytes_eq k.name name ≡ b → (bytes_eq k.key (key name) && b) ≡ b
      at true e =
          let one : k.key ≡ key name = has ∙ ap key (same_bytes k.name name e) in
          ap (λ b. b && true) (ap (λ x. bytes_eq x (key name)) one ∙ (bytes_eq-Decides (key name) (key name)).1 refl)
      at false e = both_false (bytes_eq k.key (key name))
        where
          both_false : (b : Bool) → (b && false) ≡ false
          both_false true = refl
          both_false false = refl

  removed_names : (name : List ℕ) (ks : List KeptName) → AllByRecursion HasKey ks → map named (without_named (key name) name ks) ≡ filter (λ n. not (bytes_eq n.0 name)) (map named ks)
  removed_names name ks has =
      ap (map named) (same_on (λ k. not (is_this_name (key name) name k)) (λ k. not (bytes_eq k.name name)) ks
      (all_map HasKey (λ k. not (is_this_name (key name) name k) ≡ not (bytes_eq k.name name)) (λ k h. ap not (one_test name k h)) ks has))
      ∙ sym (filter-map (λ (n : Named). not (bytes_eq n.0 name)) named ks)

  pub changed : (changes : List Change) (kept : List KeptName) (names : List Named) → AllByRecursion HasKey kept → map named kept ≡ names
      → AllByRecursion HasKey (left_by_all (map (step_of key) changes) kept) × (map named (left_by_all (map (step_of key) changes) kept) ≡ left_after_all changes names)
  changed [] kept names has are = (has, are)
  changed (add name payload ∷ changes) kept names has are =
      let new : KeptName = record { number = next_number kept; key = key name; name = name; payload = payload } in
      changed changes (with_name (key name) name payload kept) (names ++ (name, payload) ∷ []) (all_more HasKey new kept refl has)
      (map-append named kept (new ∷ []) ∙ ap (λ l. l ++ (name, payload) ∷ []) are)
  changed (remove name ∷ changes) kept names has are =
      changed changes (without_named (key name) name kept) (filter (λ n. not (bytes_eq n.0 name)) names) (all_filter HasKey (λ k. not (is_this_name (key name) name k)) kept has)
      (removed_names name kept has ∙ ap (filter (λ n. not (bytes_eq n.0 name))) are)

  module _ (order : List ℕ → List ℕ → Ordering) (keys : KeysOrder key order) where
    by_names : (a b : KeptName) → HasKey a → HasKey b → slice_cmp nat_cmp a.key b.key ≡ order a.name b.name
    by_names a b h k = ap₂ (slice_cmp nat_cmp) h k ∙ keys a.name b.name

    abbrev of_name : Named → KeptName
    of_name n = record { number = 0; key = key n.0; name = n.0; payload = n.1 }

    abbrev ties_key : KeptName → KeptName → Bool
    ties_key = ties (λ (a b : KeptName). is_lt (slice_cmp nat_cmp a.key b.key))

    abbrev ties_name : Named → Named → Bool
    ties_name = ties (λ (a b : Named). is_lt (order a.0 b.0))

    tied : (x : Named) (k : KeptName) → HasKey k → ties_name x (named k) ≡ ties_key (of_name x) k
    tied x k h = sym (ap₂ (λ o p. not (is_lt o) && not (is_lt p)) (by_names (of_name x) k refl h) (by_names k (of_name x) h refl))

    alike : (x : Named) (ks : List KeptName) → AllByRecursion HasKey ks → filter (ties_name x) (map named ks) ≡ map named (filter (ties_key (of_name x)) ks)
    alike x ks has =
        filter-map (ties_name x) named ks
        ∙ ap (map named) (same_on (λ k. ties_name x (named k)) (ties_key (of_name x)) ks (all_map HasKey (λ k. ties_name x (named k) ≡ ties_key (of_name x) k) (tied x) ks has))

    pub listing_of_names : (kept listed : List KeptName) → AllByRecursion HasKey kept → IsListingOf kept listed → IsNameListing order (map named kept) (map named listed)
    listing_of_names kept listed has is =
        let all : All HasKey listed = All-permutation HasKey kept listed is.permutation (All-from_recursion HasKey kept has) in
        let there = Rattle.std.proofs.lemmas.List.Elements.recursion_from_All HasKey listed all in
        record {
          permutation = IsPermutation-map named kept listed is.permutation;
          ascends = λ i d low high.
              let long : length (map named listed) ≡ length listed = length-map listed named in
              let e = of_name d in
              let in_one : i + 1 < length listed = omega arith in
              let in_other : i < length listed = omega arith in
              let one = get_or-map named listed (i + 1) e d in_one in
              let other = get_or-map named listed i e d in_other in
              ap₂ (λ (a b : Named). is_lt (order a.0 b.0)) one other
              ∙ (ap is_lt (sym (by_names (get_or listed (i + 1) e) (get_or listed i e) (all (i + 1) e in_one) (all i e in_other)))
              ∙ is.ascends i e low in_one);
          stable = λ x. alike x listed there ∙ (ap (map named) (is.stable (of_name x)) ∙ sym (alike x kept has));
        }

rows_show : (listed : List KeptName) → AllZip ShowsName (map shown_row listed) (map named listed)
rows_show [] = tt
rows_show (k ∷ ks) = ((refl, refl), rows_show ks)

module _ (key : List ℕ → List ℕ) (order : List ℕ → List ℕ → Ordering) (keys : KeysOrder key order) (kept listed : List KeptName) (rows : List Row) where
  pub shown_in_order : AllByRecursion (HasKey key) kept → IsListingOf kept listed → rows ≡ map shown_row listed → ShowInOrder order (map named kept) rows
  shown_in_order has is are = (map named listed, listing_of_names key order keys kept listed has is, subst (λ rs. AllZip ShowsName rs (map named listed)) (sym are) (rows_show listed))

module _ {S : Type 0} (g : Ghosts S) (key : List ℕ → List ℕ) (order : List ℕ → List ℕ → Ordering) (keys : KeysOrder key order)
    (kept : List KeptName) (changes : List Change) (old mid new : Held S) (keeps : Keeps (state g old).now kept) (keyed : HaveNameKeys key kept)
    (ran : RunInTurn g (map (step_of key) changes) old mid) (rows : List Row) where
  abbrev left_names : List KeptName
  left_names = left_by_all (map (step_of key) changes) kept

  left : AllByRecursion (HasKey key) left_names × (map named left_names ≡ left_after_all changes (map named kept))
  left = changed key changes kept (map named kept) keyed refl

  keeps_left : Keeps (state g mid).now left_names
  keeps_left = steps_leave g (map (step_of key) changes) old mid kept keeps ran

  all_in_order : Shown all_text [] (state g mid) (state g new) rows → ShowInOrder order (left_after_all changes (map named kept)) rows
  all_in_order shown =
      let listed = all_listed (state g mid) (state g new) rows left_names keeps_left shown in
      subst (λ names. ShowInOrder order names rows) left.1 (shown_in_order key order keys left_names listed.0 rows left.0 listed.1 listed.2)

  range_in_order : (lower : List ℕ) (upper : Option (List ℕ)) → Shown (range_text upper) (range_parameters lower upper) (state g mid) (state g new) rows
      → ShowInOrder order (filter (λ n. is_key_within lower upper (key n.0)) (left_after_all changes (map named kept))) rows
  range_in_order lower upper shown =
      let listed = range_listed (state g mid) (state g new) lower upper rows left_names keeps_left shown in
      let part = filter (is_within lower upper) left_names in
      let within : map named part ≡ filter (λ (n : Named). is_key_within lower upper (key n.0)) (left_after_all changes (map named kept)) =
      ap (map named) (same_on (is_within lower upper) (λ k. is_key_within lower upper (key k.name)) left_names
      (all_map (HasKey key) (λ k. is_within lower upper k ≡ is_key_within lower upper (key k.name)) (λ k h. ap (is_key_within lower upper) h) left_names left.0))
      ∙ (sym (filter-map (λ (n : Named). is_key_within lower upper (key n.0)) named left_names) ∙ ap (filter (λ (n : Named). is_key_within lower upper (key n.0))) left.1) in
      subst (λ names. ShowInOrder order names rows) within
      (shown_in_order key order keys part listed.0 rows (all_filter (HasKey key) (is_within lower upper) left_names left.0) listed.1 listed.2)

module _ {S : Type 0} (g : Ghosts S) where
  pub changes_listed : ChangesAreListed g
  changes_listed = record {
    all = λ key order keys kept changes old mid new rows keeps keyed ran shown. all_in_order g key order keys kept changes old mid new keeps keyed ran rows shown;
    ranges = λ key order keys kept changes old mid new lower upper rows keeps keyed ran shown.
        range_in_order g key order keys kept changes old mid new keeps keyed ran rows lower upper shown;
  }

  -- ---- of an index that was made anew

  keyed_anew : (key : List ℕ → List ℕ) (kept : List KeptName) → HaveNameKeys key (map (under_key key) kept)
  keyed_anew key [] = tt
  keyed_anew key (k ∷ kept) = (refl, keyed_anew key kept)

  named_anew : (key : List ℕ → List ℕ) (kept : List KeptName) → map named (map (under_key key) kept) ≡ map named kept
  named_anew key [] = refl
  named_anew key (k ∷ kept) = ap (λ l. named k ∷ l) (named_anew key kept)

  pub rebuilds_listed : RebuildsAreListed g
  rebuilds_listed = record {
    all = λ key order keys fingerprint settings kept changes old anew mid new rows keeps remade ran shown.
        subst (λ names. ShowInOrder order (left_after_all changes names) rows) (named_anew key kept)
        (all_in_order g key order keys (map (under_key key) kept) changes anew mid new (names_rekeyed g key fingerprint settings old anew kept keeps remade) (keyed_anew key kept) ran rows shown);
    ranges = λ key order keys fingerprint settings kept changes old anew mid new lower upper rows keeps remade ran shown.
        subst (λ names. ShowInOrder order (filter (λ (n : Named). is_key_within lower upper (key n.0)) (left_after_all changes names)) rows) (named_anew key kept)
        (range_in_order g key order keys (map (under_key key) kept) changes anew mid new (names_rekeyed g key fingerprint settings old anew kept keeps remade) (keyed_anew key kept) ran rows lower upper shown);
  }
