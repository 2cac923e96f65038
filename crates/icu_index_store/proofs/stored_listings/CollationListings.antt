-- Names under their sort keys are listed by the collation.
use Rattle.std.proofs.Common.{◌≡◌, ℕ, Bool, not, ◌&&◌, List, [], filter, map, Option, Some, None, Ordering, Less, Equal, Greater, refl, sym, ap, ap₂, ◌∙◌, subst}
use Rattle.icu_index.proofs.NameLemmas.{and_true}
use Rattle.std.specs.Cmp.Lexicographic.{slice_cmp}
use Rattle.std.specs.Ordering.{is_ge, is_lt, nat_cmp}
use Rattle.sqlite.specs.Held.{Held, state}
use Rattle.sqlite.specs.State.{Shown}
use Rattle.sqlite_trees.specs.declared.store.Store.{Ghosts}
use Rattle.sqlite_value.specs.Order.{Row}
use Rattle.icu_order_levels.specs.beginnings.KeyBeginnings.{stands_between}
use Rattle.icu_table_provider.specs.well_formed.WellFormedTables.{IsWellFormedTables}
use Rattle.icu_text_encodings.proofs.Utf8Lemmas.{utf8_scalars}
use Rattle.icu_text_encodings.specs.DecodedTexts.{utf8_text}
use Rattle.icu_index_store.specs.stored_listings.StoredListings.{NamesAreListed, RebuiltNamesAreListed, ShowsNames, name_key, order_of}
use Rattle.icu_index_store.specs.stored_names.StatementTexts.{all_text, range_parameters, range_text}
use Rattle.icu_index_store.proofs.stored_rows.ListingLemmas.{changes_listed, rebuilds_listed}
use Rattle.icu_index_store.specs.stored_rows.KeptNames.{is_key_within}
use Rattle.icu_index_store.specs.stored_rows.NameListings.{KeysOrder, Named, ShowInOrder, left_after_all, named}
use Rattle.icu_order_texts.proofs.TextOrders.{keys_keep}
use Rattle.icu_order_texts.specs.Collations.{Collation}

at_least : (o : Ordering) → is_ge o ≡ not (is_lt o)
at_least Less = refl
at_least Equal = refl
at_least Greater = refl

-- the database's test of a range is that of bounds
within : (lower : List ℕ) (upper : Option (List ℕ)) (key : List ℕ) → is_key_within lower upper key ≡ stands_between lower upper key
within lower (Some upper) key = ap (λ b. b && is_lt (slice_cmp nat_cmp key upper)) (at_least (slice_cmp nat_cmp key lower))
within lower None key = at_least (slice_cmp nat_cmp key lower) ∙ and_true (not (is_lt (slice_cmp nat_cmp key lower)))

same_names : (p q : Named → Bool) → ((n : Named) → p n ≡ q n) → (names : List Named) → filter p names ≡ filter q names
same_names p q same names = λ i. filter (λ n. same n i) names

module _ (c : Collation) (sound : IsWellFormedTables c.tables) where
  keys_order : KeysOrder (name_key c) (order_of c)
  keys_order x y = keys_keep c sound (utf8_text x) (utf8_text y) (utf8_scalars x) (utf8_scalars y)

  between_is : (from to : List ℕ) (n : Named)
      → is_key_within (name_key c from) (Some (name_key c to)) (name_key c n.0) ≡ (not (is_lt (order_of c n.0 from)) && is_lt (order_of c n.0 to))
  between_is from to n =
      ap₂ (λ a b. a && b) (at_least (slice_cmp nat_cmp (name_key c n.0) (name_key c from)) ∙ ap (λ o. not (is_lt o)) (keys_order n.0 from)) (ap is_lt (keys_order n.0 to))

  module _ {S : Type 0} (g : Ghosts S) (names : List Named) (mid new : Held S)
      (all_shown : (rows : List Row) → Shown all_text [] (state g mid) (state g new) rows → ShowInOrder (order_of c) names rows)
      (range_shown : (lower : List ℕ) (upper : Option (List ℕ)) (rows : List Row) → Shown (range_text upper) (range_parameters lower upper) (state g mid) (state g new) rows
      → ShowInOrder (order_of c) (filter (λ n. is_key_within lower upper (name_key c n.0)) names) rows) where
    shows : ShowsNames g c names mid new
    shows = record {
      all = all_shown;
      between = λ from to rows shown.
          subst (λ them. ShowInOrder (order_of c) them rows)
          (same_names (λ n. is_key_within (name_key c from) (Some (name_key c to)) (name_key c n.0)) (λ n. not (is_lt (order_of c n.0 from)) && is_lt (order_of c n.0 to)) (between_is from to) names)
          (range_shown (name_key c from) (Some (name_key c to)) rows shown);
      within = λ lower upper passes stand rows shown.
          subst (λ them. ShowInOrder (order_of c) them rows)
          (same_names (λ n. is_key_within lower upper (name_key c n.0)) (λ n. passes n.0) (λ n. within lower upper (name_key c n.0) ∙ stand n.0) names)
          (range_shown lower upper rows shown);
    }

module _ {S : Type 0} (g : Ghosts S) where
  pub names_listed : NamesAreListed g
  names_listed c sound kept changes old mid new keeps keyed ran =
      shows c sound g (left_after_all changes (map named kept)) mid new
      (λ rows shown. (changes_listed g).all (name_key c) (order_of c) (keys_order c sound) kept changes old mid new rows keeps keyed ran shown)
      (λ lower upper rows shown. (changes_listed g).ranges (name_key c) (order_of c) (keys_order c sound) kept changes old mid new lower upper rows keeps keyed ran shown)

  pub rebuilt_listed : RebuiltNamesAreListed g
  rebuilt_listed c sound fingerprint settings kept changes old anew mid new keeps remade ran =
      shows c sound g (left_after_all changes (map named kept)) mid new
      (λ rows shown. (rebuilds_listed g).all (name_key c) (order_of c) (keys_order c sound) fingerprint settings kept changes old anew mid new rows keeps remade ran shown)
      (λ lower upper rows shown. (rebuilds_listed g).ranges (name_key c) (order_of c) (keys_order c sound) fingerprint settings kept changes old anew mid new lower upper rows keeps remade ran shown)
