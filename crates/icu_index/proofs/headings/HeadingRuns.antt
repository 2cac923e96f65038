-- Headings part names into runs.
use Rattle.std.proofs.Common.{◌≡◌, ℕ, zero, suc, ◌<◌, ◌≤◌, nat_eq, nat_le, Bool, true, false, List, [], ◌∷◌, ◌++◌, filter, get_or, if◌then◌else◌, length, refl, sym, ap, ◌∙◌, inl, inr, ◌⊎◌, subst, arith, add-one}
use Rattle.std.proofs.lemmas.Bool.{cases_order}
use Rattle.std.proofs.lemmas.Bool.Decides.{nat_tests}
use Rattle.std.proofs.lemmas.Cmp.{nat_list_cmp_total}
use Rattle.std.specs.List.{AllByRecursion}
use Rattle.std.specs.List.Sorted.{IsSorted}
use Rattle.std.specs.Ordering.{is_gt, is_le, is_lt, ordering_reverse}
use Rattle.std.specs.declared.cmp.Ordering.{Ordering}
use Rattle.std.specs.declared.cmp.Ordering.TheVariants.{Less, Equal, Greater}
use Rattle.icu_table_provider.specs.well_formed.WellFormedTables.{IsWellFormedTables}
use Rattle.icu_table_data.proofs.ListLemmas.{weaker}
use Rattle.icu_text_encodings.proofs.Utf8Lemmas.{utf8_scalars}
use Rattle.icu_text_encodings.specs.DecodedTexts.{utf8_text}
use Rattle.icu_order_levels.specs.ListOrder.{list_order}
use Rattle.icu_order_texts.proofs.text_beginnings.TextBeginningLemmas.{order_is, order_kept}
use Rattle.icu_order_texts.specs.text_beginnings.TextBeginnings.{primary_weights}
use Rattle.icu_order_texts.specs.Collations.{Collation}
use Rattle.icu_order_texts.specs.TextOrder.{text_key, text_order}
use Rattle.icu_order_texts.proofs.TextOrders.{keys_keep}
use Rattle.icu_index.specs.headings.HeadingLists.{NamedStart, heading_number, name_primary_order}
use Rattle.icu_index.specs.headings.HeadingLaws.{names_under, names_up_to}
use Rattle.icu_order_levels.proofs.Order.{tied_lists}

-- ---- numbers that ascend

module _ {X : Type 0} (number : X → ℕ) where
  -- no number is less than one before it
  abbrev Ascends : List X → Type 0
  Ascends [] = Unit {0}
  Ascends (x ∷ xs) = AllByRecursion (λ y. number x ≤ number y) xs × Ascends xs

  abbrev under : ℕ → List X → List X
  under n xs = filter (λ x. nat_eq (number x) n) xs

  abbrev up_to : ℕ → List X → List X
  up_to n xs = filter (λ x. nat_le (number x) n) xs

  none_under : (n : ℕ) (xs : List X) → AllByRecursion (λ x. suc n ≤ number x) xs → up_to n xs ≡ []
  none_under n [] h = refl
  none_under n (x ∷ xs) h = at (nat_le (number x) n) (let e = h.0 in grind (arith, nat_tests)) (none_under n xs h.1)
    where
      at : (t : Bool) → t ≡ false → up_to n xs ≡ [] → (if t then x ∷ up_to n xs else up_to n xs) ≡ []
      at true e none = absurd (cc)
      at false e none = none

  -- those up to a number, and those under the next
  one_more : (n : ℕ) (xs : List X) → Ascends xs → up_to (suc n) xs ≡ up_to n xs ++ under (suc n) xs
  one_more n [] h = refl
  one_more n (x ∷ xs) h = by (cases_order (number x) (suc n)) (one_more n xs h.1)
    where
      by : (number x ≡ suc n) ⊎ ((number x < suc n) ⊎ (suc n < number x)) → up_to (suc n) xs ≡ up_to n xs ++ under (suc n) xs
          → up_to (suc n) (x ∷ xs) ≡ up_to n (x ∷ xs) ++ under (suc n) (x ∷ xs)
      by (inl e) more =
          let none = none_under n xs (weaker (λ y. number x ≤ number y) (λ y. suc n ≤ number y) (λ y f. omega arith) xs h.0) in
          let a : nat_le (number x) (suc n) ≡ true = grind (arith, nat_tests) in
          let b : nat_le (number x) n ≡ false = grind (arith, nat_tests) in
          let d : nat_eq (number x) (suc n) ≡ true = grind (arith, nat_tests) in
          rw (a, b, d, none) (ap (λ ws. x ∷ ws) (more ∙ ap (λ ws. ws ++ under (suc n) xs) none))
      by (inr (inl l)) more =
          let a : nat_le (number x) (suc n) ≡ true = grind (arith, nat_tests) in
          let b : nat_le (number x) n ≡ true = grind (arith, nat_tests) in
          let d : nat_eq (number x) (suc n) ≡ false = grind (arith, nat_tests) in
          rw (a, b, d) (ap (λ ws. x ∷ ws) more)
      by (inr (inr l)) more =
          let a : nat_le (number x) (suc n) ≡ false = grind (arith, nat_tests) in
          let b : nat_le (number x) n ≡ false = grind (arith, nat_tests) in
          let d : nat_eq (number x) (suc n) ≡ false = grind (arith, nat_tests) in
          rw (a, b, d) more

  first_one : (xs : List X) → up_to zero xs ≡ under zero xs
  first_one [] = refl
  first_one (x ∷ xs) =
      let e : nat_le (number x) zero ≡ nat_eq (number x) zero = same (number x) in
      ap (λ b. if b then x ∷ up_to zero xs else up_to zero xs) e ∙ ap (λ ys. if nat_eq (number x) zero then x ∷ ys else ys) (first_one xs)
    where
      same : (m : ℕ) → nat_le m zero ≡ nat_eq m zero
      same m = grind (arith, nat_tests)

  each_up_to : (n : ℕ) (xs : List X) → AllByRecursion (λ x. number x ≤ n) xs → up_to n xs ≡ xs
  each_up_to n [] h = refl
  each_up_to n (x ∷ xs) h = at (nat_le (number x) n) (let e = h.0 in grind (arith, nat_tests)) (each_up_to n xs h.1)
    where
      at : (t : Bool) → t ≡ true → up_to n xs ≡ xs → (if t then x ∷ up_to n xs else up_to n xs) ≡ x ∷ xs
      at true e all = ap (λ ys. x ∷ ys) all
      at false e all = absurd (cc)

-- ---- numbers of headings

length_at : (s t : Bool) {X : Type 0} (x : X) (xs ys : List X) → (s ≡ true → t ≡ true) → length xs ≤ length ys
    → length (if s then x ∷ xs else xs) ≤ length (if t then x ∷ ys else ys)
length_at true true x xs ys h low = omega arith
length_at true false x xs ys h low = let e = h refl in absurd (cc)
length_at false true x xs ys h low = omega arith
length_at false false x xs ys h low = low

more_kept : {X : Type 0} (s t : X → Bool) → ((x : X) → s x ≡ true → t x ≡ true) → (xs : List X) → length (filter s xs) ≤ length (filter t xs)
more_kept s t h [] = omega arith
more_kept s t h (x ∷ xs) = length_at (s x) (t x) x (filter s xs) (filter t xs) (h x) (more_kept s t h xs)

most_kept : {X : Type 0} (s : X → Bool) (xs : List X) → length (filter s xs) ≤ length xs
most_kept s [] = omega arith
most_kept s (x ∷ xs) = at (s x) (most_kept s xs)
  where
    at : (b : Bool) → length (filter s xs) ≤ length xs → length (if b then x ∷ filter s xs else filter s xs) ≤ suc (length xs)
    at true h = omega arith
    at false h = omega arith

not_greater : (o : Ordering) → is_lt o ≡ false → is_gt (ordering_reverse o) ≡ false
not_greater Less h = absurd (cc)
not_greater Equal h = refl
not_greater Greater h = refl

-- what is up to one list is up to a greater one
le_chain : (k l m : List ℕ) (o p : Ordering) → list_order k l ≡ o → list_order l m ≡ p → is_le o ≡ true → is_gt p ≡ false → is_le (list_order k m) ≡ true
le_chain k l m Less Less e f h i = ap is_le (nat_list_cmp_total.trans k l m e f)
le_chain k l m Less Equal e f h i = ap is_le (sym (ap (list_order k) (tied_lists l m f)) ∙ e)
le_chain k l m Less Greater e f h i = absurd (cc)
le_chain k l m Equal p e f h i = ap is_le (nat_list_cmp_total.congr k l m e ∙ f) ∙ turned p i
  where
    turned : (p : Ordering) → is_gt p ≡ false → is_le p ≡ true
    turned Less i = refl
    turned Equal i = refl
    turned Greater i = absurd (cc)
le_chain k l m Greater p e f h i = absurd (cc)

module _ (c : Collation) (starts : List NamedStart) where
  abbrev number : List ℕ → ℕ
  number name = heading_number c starts name

  -- what isn't Greater has no greater number
  kept_up : (x y : List ℕ) → is_gt (list_order (primary_weights c (utf8_text x)) (primary_weights c (utf8_text y))) ≡ false
      → (s : NamedStart) → is_le (name_primary_order c s.0 x) ≡ true → is_le (name_primary_order c s.0 y) ≡ true
  kept_up x y low s h =
      ap is_le (order_is c (utf8_text s.0) (utf8_text y))
      ∙ le_chain (primary_weights c (utf8_text s.0)) (primary_weights c (utf8_text x)) (primary_weights c (utf8_text y)) _ _ refl refl
      (sym (ap is_le (order_is c (utf8_text s.0) (utf8_text x))) ∙ h) low

  pub number_kept : (x y : List ℕ) → is_gt (text_order c (utf8_text x) (utf8_text y)) ≡ false → number x ≤ number y
  number_kept x y h =
      more_kept (λ (s : NamedStart). is_le (name_primary_order c s.0 x)) (λ (s : NamedStart). is_le (name_primary_order c s.0 y))
      (kept_up x y (order_kept c (utf8_text x) (utf8_text y) h)) starts

  module _ (well_formed : IsWellFormedTables c.tables) where
    by_keys : (x y : List ℕ) → text_order c (utf8_text x) (utf8_text y) ≡ list_order (text_key c (utf8_text x)) (text_key c (utf8_text y))
    by_keys x y = sym (keys_keep c well_formed (utf8_text x) (utf8_text y) (utf8_scalars x) (utf8_scalars y))

    turned_round : (x y : List ℕ) → is_lt (text_order c (utf8_text y) (utf8_text x)) ≡ false → is_gt (text_order c (utf8_text x) (utf8_text y)) ≡ false
    turned_round x y h =
        ap is_gt (by_keys x y ∙ (nat_list_cmp_total.antisymm (text_key c (utf8_text x)) (text_key c (utf8_text y)) ∙ ap ordering_reverse (sym (by_keys y x))))
        ∙ not_greater (text_order c (utf8_text y) (utf8_text x)) h

    abbrev Neighbours : List (List ℕ) → Type 0
    Neighbours names = IsSorted (λ x y. text_order c (utf8_text x) (utf8_text y)) names

    one_on : (x : List ℕ) (xs : List (List ℕ)) → Neighbours (x ∷ xs) → Neighbours xs
    one_on x xs h k d low high =
        let two = subst (λ n. is_lt (text_order c (utf8_text (get_or (x ∷ xs) n d)) (utf8_text (get_or xs k d))) ≡ false) (add-one (suc k))
        (h (suc k) d (omega arith) (omega (arith, high, add-one k))) in
        rw (add-one k) two

    all_behind : (x : List ℕ) (xs : List (List ℕ)) → Neighbours (x ∷ xs) → AllByRecursion (λ y. number x ≤ number y) xs
    all_behind x [] h = tt
    all_behind x (y ∷ ys) h =
        let first = number_kept x y (turned_round x y (h zero x (omega arith) (omega arith))) in
        (first, weaker (λ z. number y ≤ number z) (λ z. number x ≤ number z) (λ z e. omega arith) ys (all_behind y ys (one_on x (y ∷ ys) h)))

    numbers_ascend : (names : List (List ℕ)) → Neighbours names → Ascends number names
    numbers_ascend [] h = tt
    numbers_ascend (x ∷ xs) h = (all_behind x xs h, numbers_ascend xs (one_on x xs h))

    parted : (n : ℕ) (names : List (List ℕ)) → Ascends number names → names_up_to c starts n names ≡ up_to number n names
    parted zero names h = sym (first_one number names)
    parted (suc n) names h = ap (λ ns. ns ++ names_under c starts (suc n) names) (parted n names h) ∙ sym (one_more number n names h)

    each_within : (names : List (List ℕ)) → AllByRecursion (λ x. number x ≤ length starts) names
    each_within [] = tt
    each_within (x ∷ xs) = (most_kept (λ (s : NamedStart). is_le (name_primary_order c s.0 x)) starts, each_within xs)

    pub headings_part : (names : List (List ℕ)) → Neighbours names → names_up_to c starts (length starts) names ≡ names
    headings_part names h = parted (length starts) names (numbers_ascend names h) ∙ each_up_to number (length starts) names (each_within names)
