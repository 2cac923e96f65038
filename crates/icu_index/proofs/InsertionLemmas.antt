-- Names that are inserted one after another are sorted, equal ones as they stood.
use Rattle.std.proofs.Common.{◌≡◌, ℕ, ◌<◌, suc, zero, Bool, true, false, not, ◌&&◌, cond, List, [], ◌∷◌, ◌++◌, length, filter, fold, get_or, if◌then◌else◌, refl, sym, ap, ◌∙◌, subst, arith, append-nil, append_assoc, add-one}
use Rattle.std.proofs.lemmas.Cmp.{nat_list_cmp_total}
use Rattle.std.proofs.lemmas.List.Elements.{filter-append}
use Rattle.std.proofs.lemmas.List.Sorted.{ranks_by, IsPermutation-refl, IsPermutation-trans, IsPermutation-cons, IsPermutation-to_front, IsPermutation-append_left}
use Rattle.std.specs.Cmp.{IsTotalOrder, IsStrictWeakOrder}
use Rattle.std.specs.List.{AllByRecursion}
use Rattle.std.specs.List.Sorted.{IsPermutation, IsSorted, IsStable, ties}
use Rattle.std.specs.Ordering.{is_gt, is_lt, ordering_reverse}
use Rattle.std.specs.declared.cmp.Ordering.{Ordering}
use Rattle.std.specs.declared.cmp.Ordering.TheVariants.{Less, Equal, Greater}
use Rattle.icu_order_levels.specs.ListOrder.{list_order}
use Rattle.icu_collator.specs.NameOrders.{IsStablySorted}
use Rattle.icu_index.specs.Listings.{inserted, listing_of}
use Rattle.icu_table_data.proofs.ListLemmas.{weaker}

-- an order by keys is total, with ties
pub total_by_keys : (order : List ℕ → List ℕ → Ordering) (key : List ℕ → List ℕ)
    → ((x y : List ℕ) → order x y ≡ list_order (key x) (key y)) → IsTotalOrder order
total_by_keys order key keep = record {
  antisymm = λ x y. keep x y ∙ (nat_list_cmp_total.antisymm (key x) (key y) ∙ ap ordering_reverse (sym (keep y x)));
  trans = λ x y z p q. keep x z ∙ nat_list_cmp_total.trans (key x) (key y) (key z) (sym (keep x y) ∙ p) (sym (keep y z) ∙ q);
  congr = λ x y z p. keep x z ∙ (nat_list_cmp_total.congr (key x) (key y) (key z) (sym (keep x y) ∙ p) ∙ sym (keep y z));
}

folded_more : (f : List (List ℕ) → List ℕ → List (List ℕ)) (sorted names : List (List ℕ)) (name : List ℕ)
    → fold f sorted (names ++ name ∷ []) ≡ f (fold f sorted names) name
folded_more f sorted [] name = refl
folded_more f sorted (x ∷ xs) name = folded_more f (f sorted x) xs name

-- one name more is inserted last
pub listed_more : (order : List ℕ → List ℕ → Ordering) (names : List (List ℕ)) (name : List ℕ)
    → listing_of order (names ++ name ∷ []) ≡ inserted order name (listing_of order names)
listed_more order names name = folded_more (λ sorted n. inserted order n sorted) [] names name

turned : (r : Ordering) → is_lt (ordering_reverse r) ≡ is_gt r
turned Less = refl
turned Equal = refl
turned Greater = refl

both : (a b : Bool) → (not a && not b) ≡ true → b ≡ false
both true b h = absurd (cc)
both false true h = absurd (cc)
both false false h = refl

module _ (order : List ℕ → List ℕ → Ordering) (total : IsTotalOrder order) where
  -- the one stands before the other, whichever came first
  abbrev precedes : List ℕ → List ℕ → Bool
  precedes x y = is_lt (order x y)

  weak : IsStrictWeakOrder precedes
  weak = ranks_by total (λ (x : List ℕ). x)

  precedes_is : (name x : List ℕ) → precedes name x ≡ is_gt (order x name)
  precedes_is name x = ap is_lt (total.antisymm name x) ∙ turned (order x name)

  -- no later name precedes an earlier one
  abbrev Rises : List (List ℕ) → Type 0
  Rises [] = Unit {0}
  Rises (x ∷ xs) = AllByRecursion (λ y. precedes y x ≡ false) xs × Rises xs

  rises_step : (xs : List (List ℕ)) → Rises xs → (k : ℕ) (d : List ℕ) → suc k < length xs
      → precedes (get_or xs (suc k) d) (get_or xs k d) ≡ false
  rises_step [] r k d h = absurd (omega (arith, h))
  rises_step (x ∷ []) r k d h = absurd (omega (arith, h))
  rises_step (x ∷ y ∷ xs) r zero d h = r.0.0
  rises_step (x ∷ y ∷ xs) r (suc k) d h = rises_step (y ∷ xs) r.1 k d (omega (arith, h))

  rises_sorted : (xs : List (List ℕ)) → Rises xs → IsSorted order xs
  rises_sorted xs r k d low high = rw (add-one k) (rises_step xs r k d (omega (arith, high, add-one k)))

  module _ (name : List ℕ) where
    -- ---- the listing rises

    all_at : (P : List ℕ → Type 0) (b : Bool) (x : List ℕ) (xs : List (List ℕ)) → AllByRecursion P (name ∷ x ∷ xs)
        → AllByRecursion P (x ∷ inserted order name xs) → AllByRecursion P (if b then name ∷ x ∷ xs else x ∷ inserted order name xs)
    all_at P true x xs h k = h
    all_at P false x xs h k = k

    all_inserted : (P : List ℕ → Type 0) → P name → (xs : List (List ℕ)) → AllByRecursion P xs → AllByRecursion P (inserted order name xs)
    all_inserted P p [] h = (p, tt)
    all_inserted P p (x ∷ xs) h = all_at P (is_gt (order x name)) x xs (p, h) (h.0, all_inserted P p xs h.1)

    rises_at : (b : Bool) (x : List ℕ) (xs : List (List ℕ)) → precedes name x ≡ b → Rises (x ∷ xs) → Rises (inserted order name xs)
        → Rises (if b then name ∷ x ∷ xs else x ∷ inserted order name xs)
    rises_at true x xs e r more =
        let first = weak.one_way name x e in
        ((first, weaker (λ y. precedes y x ≡ false) (λ y. precedes y name ≡ false) (λ y h. weak.chain y x name h first) xs r.0), r)
    rises_at false x xs e r more = (all_inserted (λ y. precedes y x ≡ false) e xs r.0, more)

    rises_inserted : (xs : List (List ℕ)) → Rises xs → Rises (inserted order name xs)
    rises_inserted [] r = (tt, tt)
    rises_inserted (x ∷ xs) r = rises_at (is_gt (order x name)) x xs (precedes_is name x) r (rises_inserted xs r.1)

    -- ---- it has one more name

    moved_at : (b : Bool) (x : List ℕ) (xs : List (List ℕ)) → IsPermutation (name ∷ xs) (inserted order name xs)
        → IsPermutation (name ∷ x ∷ xs) (if b then name ∷ x ∷ xs else x ∷ inserted order name xs)
    moved_at true x xs h = IsPermutation-refl (name ∷ x ∷ xs)
    moved_at false x xs h =
        let swapped : IsPermutation (name ∷ x ∷ xs) (x ∷ name ∷ xs) = record { moves = (0, 1) ∷ []; below = (omega arith, omega arith, tt); is = refl } in
        IsPermutation-trans _ _ _ swapped (IsPermutation-cons x _ _ h)

    moved : (xs : List (List ℕ)) → IsPermutation (name ∷ xs) (inserted order name xs)
    moved [] = IsPermutation-refl (name ∷ [])
    moved (x ∷ xs) = moved_at (is_gt (order x name)) x xs (moved xs)

    -- ---- equal names stand as they stood

    module _ (z : List ℕ) where
      abbrev alike : List ℕ → Bool
      alike = ties precedes z

      -- what the name precedes ties with nothing that the name ties with
      unlike_at : (b : Bool) (w : List ℕ) → precedes z w ≡ b → precedes name w ≡ true → precedes name z ≡ false → (not b && not (precedes w z)) ≡ false
      unlike_at true w e before with_name = refl
      unlike_at false w e before with_name = let no = weak.chain name z w with_name e in absurd (cc)

      unlike : alike name ≡ true → (w : List ℕ) → precedes name w ≡ true → alike w ≡ false
      unlike h w before =
          let at = unlike_at (precedes z w) w refl before (both (precedes z name) (precedes name z) h) in at

      after_at : (b : Bool) (x w : List ℕ) → precedes name w ≡ b → precedes name x ≡ true → precedes w x ≡ false → b ≡ true
      after_at true x w e before h = refl
      after_at false x w e before h = let no = weak.chain name w x e h in absurd (cc)

      none_alike : (xs : List (List ℕ)) → AllByRecursion (λ w. alike w ≡ false) xs → filter alike xs ≡ []
      none_alike [] h = refl
      none_alike (x ∷ xs) h = let e = h.0 in let more = none_alike xs h.1 in cc

      -- before names that it precedes, a name is as good as after them
      in_front : (b : Bool) → alike name ≡ b → (xs : List (List ℕ)) → AllByRecursion (λ w. precedes name w ≡ true) xs
          → cond b (name ∷ filter alike xs) (filter alike xs) ≡ filter alike xs ++ cond b (name ∷ []) []
      in_front true e xs h =
          let none = none_alike xs (weaker (λ w. precedes name w ≡ true) (λ w. alike w ≡ false) (unlike e) xs h) in
          rw none refl
      in_front false e xs h = sym (append-nil (filter alike xs))

      kept_more : (b : Bool) (x : List ℕ) (xs ys more : List (List ℕ)) → ys ≡ xs ++ more
          → cond b (x ∷ ys) ys ≡ cond b (x ∷ xs) xs ++ more
      kept_more true x xs ys more h = ap (λ zs. x ∷ zs) h
      kept_more false x xs ys more h = h

      stays_at : (b : Bool) (x : List ℕ) (xs : List (List ℕ)) → precedes name x ≡ b → Rises (x ∷ xs)
          → filter alike (inserted order name xs) ≡ filter alike xs ++ filter alike (name ∷ [])
          → filter alike (if b then name ∷ x ∷ xs else x ∷ inserted order name xs) ≡ filter alike (x ∷ xs) ++ filter alike (name ∷ [])
      stays_at true x xs e r more =
          in_front (alike name) refl (x ∷ xs)
          (e, weaker (λ w. precedes w x ≡ false) (λ w. precedes name w ≡ true) (λ w h. after_at (precedes name w) x w refl e h) xs r.0)
      stays_at false x xs e r more = kept_more (alike x) x (filter alike xs) (filter alike (inserted order name xs)) (filter alike (name ∷ [])) more

      stays : (xs : List (List ℕ)) → Rises xs → filter alike (inserted order name xs) ≡ filter alike xs ++ filter alike (name ∷ [])
      stays [] r = refl
      stays (x ∷ xs) r = stays_at (is_gt (order x name)) x xs (precedes_is name x) r (stays xs r.1)

  -- ---- one name after another

  record IsInOrder (names sorted : List (List ℕ)) : Type 0 where
    permutation : IsPermutation names sorted
    rises : Rises sorted
    stable : IsStable order names sorted

  one_more : (names sorted : List (List ℕ)) (name : List ℕ) → IsInOrder names sorted → IsInOrder (names ++ name ∷ []) (inserted order name sorted)
  one_more names sorted name is = record {
    permutation = IsPermutation-trans _ _ _ (IsPermutation-append_left (name ∷ []) names sorted is.permutation)
        (IsPermutation-trans _ _ _ (IsPermutation-to_front sorted name) (moved name sorted));
    rises = rises_inserted name sorted is.rises;
    stable = λ z. stays name z sorted is.rises
        ∙ (ap (λ xs. xs ++ filter (ties precedes z) (name ∷ [])) (is.stable z) ∙ sym (filter-append (ties precedes z) names (name ∷ [])));
  }

  in_turn : (names before sorted : List (List ℕ)) → IsInOrder before sorted
      → IsInOrder (before ++ names) (fold (λ xs name. inserted order name xs) sorted names)
  in_turn [] before sorted is = rw (append-nil before) is
  in_turn (name ∷ names) before sorted is =
      subst (λ xs. IsInOrder xs (fold (λ ys n. inserted order n ys) (inserted order name sorted) names)) (append_assoc before (name ∷ []) names)
      (in_turn names (before ++ name ∷ []) (inserted order name sorted) (one_more before sorted name is))

  pub sorts : (names : List (List ℕ)) → IsStablySorted order names (listing_of order names)
  sorts names =
      let none : IsInOrder [] [] = record { permutation = IsPermutation-refl []; rises = tt; stable = λ z. refl } in
      let is = in_turn names [] [] none in
      record { permutation = is.permutation; ascends = rises_sorted (listing_of order names) is.rises; stable = is.stable }
