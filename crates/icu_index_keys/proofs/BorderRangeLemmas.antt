-- The entries between two borders.
use Rattle.std.proofs.Common.{◌≡◌, ℕ, zero, suc, ◌+◌, ◌-◌, ◌<◌, ◌≤◌, Bool, true, false, not, ◌&&◌, nat_eq, nat_lt, List, [], ◌∷◌, ◌++◌, drop, filter, length, take, if◌then◌else◌, inl, inr, ◌⊎◌, refl, sym, ap, ◌∙◌, arith, add-one, append_assoc, subst}
use Rattle.std.proofs.lemmas.Bool.{cases_lt}
use Rattle.std.proofs.lemmas.Bool.Decides.{nat_tests}
use Rattle.std.proofs.lemmas.List.{append_cancel_left, take-append-drop}
use Rattle.std.proofs.lemmas.List.Elements.{filter-append}
use Rattle.std.specs.Global.{Vec}
use Rattle.std.specs.List.{AllByRecursion, slice_range}
use Rattle.icu_table_data.proofs.ListLemmas.{all_first}
use Rattle.icu_index_keys.proofs.LeafLemmas.{entries_whole}
use Rattle.icu_index_keys.proofs.LeafPlaceLemmas.{all_pass, none_pass}
use Rattle.icu_index_keys.specs.declared.name_entries.Entry.{Entry}
use Rattle.icu_index_keys.specs.inner.Leaves.{Parts, before, behind, entries_between, entries_of, leaf_at}

-- ---- which places

pub between_same : (ls : List (Vec Entry)) (i a j b : ℕ) → i ≡ j → entries_between ls i a j b ≡ slice_range (leaf_at ls i) a b
between_same ls i a j b h =
    at (nat_eq i j) (grind (arith, nat_tests)) where
      at : (t : Bool) → t ≡ true → (if t then slice_range (leaf_at ls i) a b else if nat_lt i j then drop a (leaf_at ls i) ++ entries_of (slice_range ls (suc i) j) ++ take b (leaf_at ls j) else [])
          ≡ slice_range (leaf_at ls i) a b
      at t e = rw e refl

pub between_later : (ls : List (Vec Entry)) (i a j b : ℕ) → i < j
    → entries_between ls i a j b ≡ drop a (leaf_at ls i) ++ entries_of (slice_range ls (suc i) j) ++ take b (leaf_at ls j)
between_later ls i a j b h = at (nat_eq i j) (nat_lt i j) (grind (arith, nat_tests)) (grind (arith, nat_tests)) where
  at : (t u : Bool) → t ≡ false → u ≡ true
      → (if t then slice_range (leaf_at ls i) a b else if u then drop a (leaf_at ls i) ++ entries_of (slice_range ls (suc i) j) ++ take b (leaf_at ls j) else [])
      ≡ drop a (leaf_at ls i) ++ entries_of (slice_range ls (suc i) j) ++ take b (leaf_at ls j)
  at t u e f = rw (e, f) refl

pub between_none : (ls : List (Vec Entry)) (i a j b : ℕ) → j < i → entries_between ls i a j b ≡ []
between_none ls i a j b h = at (nat_eq i j) (nat_lt i j) (grind (arith, nat_tests)) (grind (arith, nat_tests)) where
  at : (t u : Bool) → t ≡ false → u ≡ false
      → (if t then slice_range (leaf_at ls i) a b else if u then drop a (leaf_at ls i) ++ entries_of (slice_range ls (suc i) j) ++ take b (leaf_at ls j) else []) ≡ []
  at t u e f = rw (e, f) refl

-- ---- what stands before the second place

nothing : {X : Type 0} (n : ℕ) → ◌≡◌ {A = List X} (take n []) []
nothing zero = refl
nothing (suc n) = refl

take_two : {X : Type 0} (a n b : ℕ) (xs : List X) → b ≡ a + n → take b xs ≡ take a xs ++ take n (drop a xs)
take_two zero n b xs e = let f : b ≡ n = omega arith in ap (λ m. take m xs) f
take_two (suc a) n zero xs e = absurd (omega arith)
take_two (suc a) n (suc b) [] e = sym (nothing n)
take_two (suc a) n (suc b) (x ∷ xs) e = ap (λ ys. x ∷ ys) (take_two a n b xs (omega arith))

-- within one leaf
before_same : (ls : List (Vec Entry)) (i a n b : ℕ) → b ≡ a + n → before ls i b ≡ before ls i a ++ take n (drop a (leaf_at ls i))
before_same ls i a n b e =
    ap (λ es. entries_of (take i ls) ++ es) (take_two a n b (leaf_at ls i) e)
    ∙ sym (append_assoc (entries_of (take i ls)) (take a (leaf_at ls i)) (take n (drop a (leaf_at ls i))))

empty_before : (j b : ℕ) → before [] j b ≡ []
empty_before zero zero = refl
empty_before zero (suc b) = refl
empty_before (suc j) zero = refl
empty_before (suc j) (suc b) = refl

empty_rest : (a i n b : ℕ) → drop a (leaf_at [] i) ++ entries_of (take n (drop (suc i) [])) ++ take b [] ≡ []
empty_rest zero i zero zero = refl
empty_rest zero i zero (suc b) = refl
empty_rest zero i (suc n) zero = refl
empty_rest zero i (suc n) (suc b) = refl
empty_rest (suc a) i zero zero = refl
empty_rest (suc a) i zero (suc b) = refl
empty_rest (suc a) i (suc n) zero = refl
empty_rest (suc a) i (suc n) (suc b) = refl

-- with n leaves between
before_later : (ls : List (Vec Entry)) (i a n b j : ℕ) → j ≡ suc (i + n)
    → before ls j b ≡ before ls i a ++ (drop a (leaf_at ls i) ++ entries_of (take n (drop (suc i) ls)) ++ take b (leaf_at ls j))
before_later [] i a n b j e =
    empty_before j b
    ∙ sym (ap (λ es. es ++ (drop a (leaf_at [] i) ++ entries_of (take n (drop (suc i) [])) ++ take b [])) (empty_before i a) ∙ empty_rest a i n b)
before_later (l ∷ ls) i a n b zero e = absurd (omega arith)
before_later (l ∷ ls) zero a n b (suc k) e =
    let f : k ≡ n = omega arith in
    subst (λ m. (l.items ++ entries_of (take k ls)) ++ take b (leaf_at ls k) ≡ take a l.items ++ (drop a l.items ++ entries_of (take m ls) ++ take b (leaf_at ls k))) f
    (ap (λ es. (es ++ entries_of (take k ls)) ++ take b (leaf_at ls k)) (sym (take-append-drop a l.items))
    ∙ (ap (λ es. es ++ take b (leaf_at ls k)) (append_assoc (take a l.items) (drop a l.items) (entries_of (take k ls)))
    ∙ append_assoc (take a l.items) (drop a l.items ++ entries_of (take k ls)) (take b (leaf_at ls k))))
before_later (l ∷ ls) (suc i) a n b (suc k) e =
    let rest = drop a (leaf_at ls i) ++ entries_of (take n (drop (suc i) ls)) ++ take b (leaf_at ls k) in
    append_assoc l.items (entries_of (take k ls)) (take b (leaf_at ls k))
    ∙ (ap (λ es. l.items ++ es) (before_later ls i a n b k (omega arith))
    ∙ (sym (append_assoc l.items (before ls i a) rest)
    ∙ ap (λ es. es ++ rest) (sym (append_assoc l.items (entries_of (take i ls)) (take a (leaf_at ls i))))))

-- the second place stands behind the first
abbrev AreInOrder : ℕ → ℕ → ℕ → ℕ → Type 0
AreInOrder i a j b = (i < j) ⊎ ((i ≡ j) × (a ≤ b))

same_leaf : (ls : List (Vec Entry)) (i a b : ℕ) → a ≤ b → before ls i b ≡ before ls i a ++ slice_range (leaf_at ls i) a b
same_leaf ls i a b low = before_same ls i a (b - a) b (omega arith)

later_leaf : (ls : List (Vec Entry)) (i a j b : ℕ) → i < j
    → before ls j b ≡ before ls i a ++ (drop a (leaf_at ls i) ++ entries_of (slice_range ls (suc i) j) ++ take b (leaf_at ls j))
later_leaf ls i a j b low = before_later ls i a (j - suc i) b j (omega arith)

in_order : (ls : List (Vec Entry)) (i a j b : ℕ) → AreInOrder i a j b → before ls j b ≡ before ls i a ++ entries_between ls i a j b
in_order ls i a j b (inl low) = later_leaf ls i a j b low ∙ ap (λ es. before ls i a ++ es) (sym (between_later ls i a j b low))
in_order ls i a j b (inr same) =
    ap (λ k. before ls k b) (sym same.0) ∙ (same_leaf ls i a b same.1 ∙ ap (λ es. before ls i a ++ es) (sym (between_same ls i a j b same.0)))

none_left : (xs : List Entry) (a b : ℕ) → b ≤ a → slice_range xs a b ≡ []
none_left xs a b low = let e : b - a ≡ 0 = omega arith in ap (λ n. take n (drop a xs)) e

crossed : (ls : List (Vec Entry)) (i a j b : ℕ) → (j < i) ⊎ ((i ≡ j) × (b ≤ a)) → entries_between ls i a j b ≡ []
crossed ls i a j b (inl low) = between_none ls i a j b low
crossed ls i a j b (inr same) = between_same ls i a j b same.0 ∙ none_left (leaf_at ls i) a b same.1

-- ---- what passes one test and fails the other

module _ (one two : Entry → Bool) where
  abbrev fails : Entry → Bool
  fails e = not (one e)

  abbrev both : Entry → Bool
  both e = not (one e) && two e

  kept : (s t : Bool) (x : Entry) (xs ys : List Entry) → two x ≡ s → one x ≡ t → filter both xs ≡ filter fails ys
      → (if not t && s then x ∷ filter both xs else filter both xs) ≡ filter fails (if s then x ∷ ys else ys)
  kept true true x xs ys p q h = sym (rw q (sym h))
  kept true false x xs ys p q h = sym (rw q (ap (λ zs. x ∷ zs) (sym h)))
  kept false true x xs ys p q h = h
  kept false false x xs ys p q h = h

  filter_both : (xs : List Entry) → filter both xs ≡ filter fails (filter two xs)
  filter_both [] = refl
  filter_both (x ∷ xs) = kept (two x) (one x) x xs (filter two xs) refl refl (filter_both xs)

passed_at : {X : Type 0} (t : X → Bool) (b : Bool) (x : X) (xs : List X) → t x ≡ b → AllByRecursion (λ y. t y ≡ true) xs
    → AllByRecursion (λ y. t y ≡ true) (if b then x ∷ xs else xs)
passed_at t true x xs e h = (e, h)
passed_at t false x xs e h = h

passed : {X : Type 0} (t : X → Bool) (xs : List X) → AllByRecursion (λ x. t x ≡ true) (filter t xs)
passed t [] = tt
passed t (x ∷ xs) = passed_at t (t x) x (filter t xs) refl (passed t xs)

flipped : (t : Entry → Bool) (xs : List Entry) → AllByRecursion (λ x. not (t x) ≡ true) xs → AllByRecursion (λ x. t x ≡ false) xs
flipped t [] h = tt
flipped t (x ∷ xs) h = (turned (t x) h.0, flipped t xs h.1) where
  turned : (b : Bool) → not b ≡ true → b ≡ false
  turned true e = cc
  turned false e = refl

module _ (one two : Entry → Bool) (ls : List (Vec Entry)) (i a j b : ℕ) (first : Parts one ls i a) (second : Parts two ls j b) where
  abbrev all : List Entry
  all = entries_of ls

  whole : (k n : ℕ) → before ls k n ++ behind ls k n ≡ all
  whole k n =
      append_assoc (entries_of (take k ls)) (take n (leaf_at ls k)) (drop n (leaf_at ls k) ++ entries_of (drop (suc k) ls))
      ∙ (ap (λ es. entries_of (take k ls) ++ es) (sym (append_assoc (take n (leaf_at ls k)) (drop n (leaf_at ls k)) (entries_of (drop (suc k) ls))))
      ∙ (ap (λ es. entries_of (take k ls) ++ (es ++ entries_of (drop (suc k) ls))) (take-append-drop n (leaf_at ls k)) ∙ entries_whole ls k))

  before_passes : AllByRecursion (λ e. one e ≡ true) (before ls i a)
  before_passes = subst (AllByRecursion (λ e. one e ≡ true)) (sym first.passes) (passed one all)

  behind_fails : AllByRecursion (λ e. one e ≡ false) (behind ls i a)
  behind_fails = subst (AllByRecursion (λ e. one e ≡ false)) (sym first.fails) (flipped one (filter (λ e. not (one e)) all) (passed (λ e. not (one e)) all))

  asked : filter (λ e. not (one e) && two e) all ≡ filter (λ e. not (one e)) (before ls j b)
  asked = filter_both one two all ∙ ap (filter (λ e. not (one e))) (sym second.passes)

  ordered : (middle : List Entry) → before ls j b ≡ before ls i a ++ middle → middle ≡ filter (λ e. not (one e) && two e) all
  ordered middle is =
      let rest : behind ls i a ≡ middle ++ behind ls j b
      = append_cancel_left (before ls i a) (behind ls i a) (middle ++ behind ls j b)
      (whole i a ∙ (sym (whole j b) ∙ (ap (λ es. es ++ behind ls j b) is ∙ append_assoc (before ls i a) middle (behind ls j b)))) in
      let fail = all_first (λ e. one e ≡ false) middle (behind ls j b) (subst (AllByRecursion (λ e. one e ≡ false)) rest behind_fails) in
      sym (asked
      ∙ (ap (filter (λ e. not (one e))) is
      ∙ (filter-append (λ e. not (one e)) (before ls i a) middle
      ∙ (ap (λ es. es ++ filter (λ e. not (one e)) middle) (all_pass one (before ls i a) before_passes).1 ∙ (none_pass one middle fail).1))))

  reversed : (middle : List Entry) → before ls i a ≡ before ls j b ++ middle → filter (λ e. not (one e) && two e) all ≡ []
  reversed middle is =
      asked ∙ (all_pass one (before ls j b) (all_first (λ e. one e ≡ true) (before ls j b) middle (subst (AllByRecursion (λ e. one e ≡ true)) is before_passes))).1

  by_place : (i < j) ⊎ (j ≤ i) → (j < i) ⊎ (i ≤ j) → (a < b) ⊎ (b ≤ a) → entries_between ls i a j b ≡ filter (λ e. not (one e) && two e) all
  by_place (inl low) y z = ordered (entries_between ls i a j b) (in_order ls i a j b (inl low))
  by_place (inr x) (inl low) z =
      crossed ls i a j b (inl low) ∙ sym (reversed (entries_between ls j b i a) (in_order ls j b i a (inl low)))
  by_place (inr x) (inr y) (inl low) =
      ordered (entries_between ls i a j b) (in_order ls i a j b (inr (omega arith, omega arith)))
  by_place (inr x) (inr y) (inr low) =
      crossed ls i a j b (inr (omega arith, low)) ∙ sym (reversed (entries_between ls j b i a) (in_order ls j b i a (inr (omega arith, low))))

  pub between_is : entries_between ls i a j b ≡ filter (λ e. not (one e) && two e) all
  between_is = by_place (cases_lt i j) (cases_lt j i) (cases_lt a b)

-- ---- what is read

range_end : (a : ℕ) (xs : List Entry) → slice_range xs a (length xs) ≡ drop a xs
range_end zero [] = refl
range_end (suc a) [] = nothing (0 - suc a)
range_end zero (x ∷ xs) = at (x ∷ xs) where
  at : (ys : List Entry) → take (length ys - 0) ys ≡ ys
  at ys = let e : length ys - 0 ≡ length ys = omega arith in ap (λ n. take n ys) e ∙ every ys where
    every : (zs : List Entry) → take (length zs) zs ≡ zs
    every [] = refl
    every (z ∷ zs) = ap (λ ws. z ∷ ws) (every zs)
range_end (suc a) (x ∷ xs) = let e : suc (length xs) - suc a ≡ length xs - a = omega arith in ap (λ n. take n (drop a xs)) e ∙ range_end a xs

range_start : (b : ℕ) (xs : List Entry) → slice_range xs 0 b ≡ take b xs
range_start b xs = let e : b - 0 ≡ b = omega arith in ap (λ n. take n xs) e

pub later_read : (ls : List (Vec Entry)) (i a j b : ℕ) (first last one two : List Entry) → first ≡ leaf_at ls i → one ≡ slice_range first a (length first)
    → last ≡ leaf_at ls j → two ≡ slice_range last 0 b → i < j
    → one ++ entries_of (slice_range ls (i + 1) j) ++ two ≡ entries_between ls i a j b
later_read ls i a j b first last one two at_first is_one at_last is_two low =
    ap (λ es. es ++ entries_of (slice_range ls (i + 1) j) ++ two) (is_one ∙ (range_end a first ∙ ap (drop a) at_first))
    ∙ (ap (λ es. drop a (leaf_at ls i) ++ entries_of (slice_range ls (i + 1) j) ++ es) (is_two ∙ (range_start b last ∙ ap (take b) at_last))
    ∙ (ap (λ n. drop a (leaf_at ls i) ++ entries_of (slice_range ls n j) ++ take b (leaf_at ls j)) (add-one i)
    ∙ sym (between_later ls i a j b low)))
