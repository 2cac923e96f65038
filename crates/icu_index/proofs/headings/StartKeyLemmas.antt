-- Starts are in the order of their keys.
use Rattle.std.proofs.Common.{◌≡◌, ◌≢◌, ℕ, zero, suc, ◌-◌, Bool, true, false, ◌||◌, List, [], ◌∷◌, Some, None, OnErr, OnOk, Result, Ok, Err, drop, filter, if◌then◌else◌, length, map, refl, sym, ap, ap₂, ◌∙◌, subst, arith}
use Rattle.std.proofs.lemmas.List.{length-map}
use Rattle.std.specs.List.{AllByRecursion}
use Rattle.std.specs.Prelude.{slice_get}
use Rattle.std.specs.Ordering.{is_le}
use Rattle.std.specs.declared.cmp.Ordering.{Ordering}
use Rattle.std.specs.declared.cmp.Ordering.TheVariants.{Less, Equal, Greater}
use Rattle.icu_table_provider.specs.well_formed.WellFormedTables.{IsWellFormedTables}
use Rattle.icu_text_encodings.proofs.Utf8Lemmas.{utf8_scalars}
use Rattle.icu_text_encodings.specs.DecodedTexts.{utf8_text}
use Rattle.icu_index_keys.proofs.KeyedLemmas.{filter_along}
use Rattle.icu_index_keys.specs.keyed_starts.Starts as keyed
use Rattle.icu_index_keys.specs.keyed_starts.Starts.{KeyedStart, placed_by, placed_start, starts_up_to}
use Rattle.icu_order_levels.specs.ListOrder.{list_order}
use Rattle.icu_order_texts.specs.text_beginnings.TextBeginnings.{primary_collation}
use Rattle.icu_order_texts.specs.Collations.{Collation}
use Rattle.icu_order_texts.proofs.TextOrders.{keys_keep}
use Rattle.icu_index.specs.headings.HeadingLists.{NamedStart, any_label, heading_at, heading_from, heading_number, inflow, label, name_primary_order, overflow, start_placed}
use Rattle.icu_index.specs.headings.inner.StartKeys.{AreStartKeys, bound_of}

-- a start without its key
abbrev pub unkeyed : KeyedStart → NamedStart
unkeyed x = (x.1, x.2)

-- names are in the order of their keys at the primary level
pub bounds_keep : (c : Collation) → IsWellFormedTables c.tables → (x y : List ℕ) → list_order (bound_of c x) (bound_of c y) ≡ name_primary_order c x y
bounds_keep c well_formed x y = keys_keep (primary_collation c) well_formed (utf8_text x) (utf8_text y) (utf8_scalars x) (utf8_scalars y)

module _ (c : Collation) (well_formed : IsWellFormedTables c.tables) where
  by_key : (x : KeyedStart) (key name : List ℕ) → x.0 ≡ bound_of c x.1 → key ≡ bound_of c name → list_order x.0 key ≡ name_primary_order c x.1 name
  by_key x key name e f = ap₂ list_order e f ∙ bounds_keep c well_formed x.1 name

  placed_at : (o : Ordering) (s x : KeyedStart) (xs more : List KeyedStart) (rest : List NamedStart) → map unkeyed more ≡ rest
      → map unkeyed (placed_by o s x xs more) ≡ placed_by o (unkeyed s) (unkeyed x) (map unkeyed xs) rest
  placed_at Less s x xs more rest e = ap (λ ys. unkeyed x ∷ ys) e
  placed_at Equal s x xs more rest e = refl
  placed_at Greater s x xs more rest e = refl

  pub placed_as : (s : KeyedStart) → s.0 ≡ bound_of c s.1 → (xs : List KeyedStart) → AreStartKeys (bound_of c) xs
      → map unkeyed (placed_start s xs) ≡ start_placed c (unkeyed s) (map unkeyed xs)
  placed_as s is [] h = refl
  placed_as s is (x ∷ xs) h =
      placed_at (list_order x.0 s.0) s x xs (placed_start s xs) (start_placed c (unkeyed s) (map unkeyed xs)) (placed_as s is xs h.1)
      ∙ ap (λ o. placed_by o (unkeyed s) (unkeyed x) (map unkeyed xs) (start_placed c (unkeyed s) (map unkeyed xs))) (by_key x s.0 s.1 h.0 is)

  kept_at : (o : Ordering) (s x : KeyedStart) (xs more : List KeyedStart) → s.0 ≡ bound_of c s.1 → AreStartKeys (bound_of c) (x ∷ xs) → AreStartKeys (bound_of c) more
      → AreStartKeys (bound_of c) (placed_by o s x xs more)
  kept_at Less s x xs more e h k = (h.0, k)
  kept_at Equal s x xs more e h k = h
  kept_at Greater s x xs more e h k = (e, h)

  pub still_keyed : (s : KeyedStart) → s.0 ≡ bound_of c s.1 → (xs : List KeyedStart) → AreStartKeys (bound_of c) xs → AreStartKeys (bound_of c) (placed_start s xs)
  still_keyed s is [] h = (is, tt)
  still_keyed s is (x ∷ xs) h = kept_at (list_order x.0 s.0) s x xs (placed_start s xs) is h (still_keyed s is xs h.1)

  -- whether or not the start was put in
  pub keyed_after : {X E : Type 0} (r : Result X E) (s : KeyedStart) → s.0 ≡ bound_of c s.1 → (old new : List KeyedStart) → AreStartKeys (bound_of c) old
      → OnOk r (new ≡ placed_start s old) → OnErr r (new ≡ old) → AreStartKeys (bound_of c) new
  keyed_after (Ok x) s is old new h ok err = subst (AreStartKeys (bound_of c)) (sym ok) (still_keyed s is old h)
  keyed_after (Err e) s is old new h ok err = subst (AreStartKeys (bound_of c)) (sym err) h

  alike : (name key : List ℕ) → key ≡ bound_of c name → (xs : List KeyedStart) → AreStartKeys (bound_of c) xs
      → AllByRecursion (λ x. is_le (list_order x.0 key) ≡ is_le (name_primary_order c (unkeyed x).0 name)) xs
  alike name key is [] h = tt
  alike name key is (x ∷ xs) h = (ap is_le (by_key x key name h.0 is), alike name key is xs h.1)

  pub number_as : (name key : List ℕ) → key ≡ bound_of c name → (xs : List KeyedStart) → AreStartKeys (bound_of c) xs
      → starts_up_to key xs ≡ heading_number c (map unkeyed xs) name
  number_as name key is xs h =
      sym (length-map (filter (λ (x : KeyedStart). is_le (list_order x.0 key)) xs) unkeyed)
      ∙ ap length (filter_along unkeyed (λ (x : KeyedStart). is_le (list_order x.0 key)) (λ (x : NamedStart). is_le (name_primary_order c x.0 name)) xs (alike name key is xs h))

-- ---- what a number means

pub labels_as : (n : ℕ) (xs : List KeyedStart) → keyed.has_label (drop n xs) ≡ any_label (drop n (map unkeyed xs))
labels_as zero [] = refl
labels_as zero (x ∷ xs) = ap (λ b. x.2 || b) (labels_as zero xs)
labels_as (suc n) [] = refl
labels_as (suc n) (x ∷ xs) = labels_as n xs

pub some_at : (n : ℕ) (xs : List KeyedStart) (s : KeyedStart) → Some s ≡ slice_get xs n → drop n (map unkeyed xs) ≡ unkeyed s ∷ drop (suc n) (map unkeyed xs)
some_at n [] s e = absurd (cc)
some_at zero (x ∷ xs) s e = let same : s ≡ x = cc in ap (λ y. unkeyed y ∷ map unkeyed xs) (sym same)
some_at (suc n) (x ∷ xs) s e = some_at n xs s e

none_at : (n : ℕ) (xs : List KeyedStart) → None ≡ slice_get xs n → drop n (map unkeyed xs) ≡ []
none_at zero [] e = refl
none_at (suc n) [] e = refl
none_at zero (x ∷ xs) e = absurd (cc)
none_at (suc n) (x ∷ xs) e = none_at n xs e

-- a number but 0
at_number : (n : ℕ) (starts : List NamedStart) → n ≢ 0 → heading_at starts n ≡ heading_from (drop (n - 1) starts)
at_number zero starts h = absurd (h refl)
at_number (suc n) starts h = let e : n ≡ suc n - 1 = omega arith in ap (λ k. heading_from (drop k starts)) e

pub heading_none : (n : ℕ) (xs : List KeyedStart) → n ≢ 0 → None ≡ slice_get xs (n - 1) → heading_at (map unkeyed xs) n ≡ overflow
heading_none n xs h e = at_number n (map unkeyed xs) h ∙ ap heading_from (none_at (n - 1) xs e)

heading_some : (n : ℕ) (xs : List KeyedStart) (s : KeyedStart) → n ≢ 0 → Some s ≡ slice_get xs (n - 1)
    → heading_at (map unkeyed xs) n ≡ heading_from (unkeyed s ∷ drop n (map unkeyed xs))
heading_some n xs s h e =
    let m : suc (n - 1) ≡ n = omega arith in
    at_number n (map unkeyed xs) h ∙ (ap heading_from (some_at (n - 1) xs s e) ∙ ap (λ k. heading_from (unkeyed s ∷ drop k (map unkeyed xs))) m)

pub heading_label : (n : ℕ) (xs : List KeyedStart) (s : KeyedStart) → n ≢ 0 → Some s ≡ slice_get xs (n - 1) → s.2 ≡ true → heading_at (map unkeyed xs) n ≡ label s.1
heading_label n xs s h e is = heading_some n xs s h e ∙ ap (λ b. if b then label s.1 else if any_label (drop n (map unkeyed xs)) then inflow else overflow) is

pub heading_limit : (n : ℕ) (xs : List KeyedStart) (s : KeyedStart) (b : Bool) → n ≢ 0 → Some s ≡ slice_get xs (n - 1) → s.2 ≡ false
    → b ≡ keyed.has_label (drop n xs) → heading_at (map unkeyed xs) n ≡ (if b then inflow else overflow)
heading_limit n xs s b h e is has =
    heading_some n xs s h e
    ∙ (ap (λ t. if t then label s.1 else if any_label (drop n (map unkeyed xs)) then inflow else overflow) is
    ∙ ap (λ t. if t then inflow else overflow) (sym (has ∙ labels_as n xs)))
