-- The order of names is that of their keys.
use Rattle.std.proofs.Common.{◌≡◌, ℕ, nat_eq, ◌&&◌, Bool, true, false, not, List, [], ◌∷◌, Some, None, Result, Ok, Err, OnOk, OnErr, if◌then◌else◌, refl, sym, ap, ◌∙◌, subst}
use Rattle.std.specs.Ordering.{is_eq, is_gt, is_le, is_lt}
use Rattle.std.specs.declared.cmp.Ordering.{Ordering}
use Rattle.std.specs.declared.cmp.Ordering.TheVariants.{Less, Equal, Greater}
use Rattle.icu_table_provider.specs.well_formed.WellFormedTables.{IsWellFormedTables}
use Rattle.icu_text_encodings.proofs.Utf8Lemmas.{utf8_scalars}
use Rattle.icu_text_encodings.specs.DecodedTexts.{utf8_text}
use Rattle.icu_order_levels.specs.ListOrder.{list_order}
use Rattle.icu_order_levels.specs.beginnings.KeyBeginnings.{begins}
use Rattle.icu_index_keys.specs.KeyedLists.{Keyed, beginning_with, behind_border, between, names_in, placed}
use Rattle.icu_index_keys.specs.declared.borders.Border.TheVariants.{Before, Behind}
use Rattle.icu_index.specs.Listings.{name_begins, inserted, equal_names, names_beginning, names_between}
use Rattle.icu_order_texts.specs.text_beginnings.TextBeginnings.{lower_bound}
use Rattle.icu_order_texts.proofs.text_beginnings.TextBeginningLemmas.{key_begins}
use Rattle.icu_order_texts.specs.Collations.{Collation}
use Rattle.icu_index.specs.inner.NameKeys.{AreKeyed, key_of, keyed_within}
use Rattle.icu_index.specs.headings.HeadingLaws.{KeysStandUnder, names_under}
use Rattle.icu_index.specs.headings.HeadingLists.{NamedStart, heading_number}
use Rattle.icu_index_keys.specs.keyed_starts.Starts.{stands_within}
use Rattle.icu_index_keys.specs.declared.keyed_starts.starts.KeyBounds.{KeyBounds}
use Rattle.std.specs.Borrow.{Bor}

-- ---- by an order that keys keep

module _ (order : List ℕ → List ℕ → Ordering) (key : List ℕ → List ℕ) (keep : (x y : List ℕ) → order x y ≡ list_order (key x) (key y)) where
  by_key : (x : Keyed) (name k : List ℕ) → x.0 ≡ key x.1 → k ≡ key name → order x.1 name ≡ list_order x.0 k
  by_key x name k is at = keep x.1 name ∙ (ap (λ l. list_order l (key name)) (sym is) ∙ ap (list_order x.0) (sym at))

  placed_here : (b : Bool) (name k : List ℕ) (x : Keyed) (xs : List Keyed) (ys : List (List ℕ)) → names_in (placed (k, name) xs) ≡ ys
      → names_in (if b then (k, name) ∷ x ∷ xs else x ∷ placed (k, name) xs) ≡ (if b then name ∷ x.1 ∷ names_in xs else x.1 ∷ ys)
  placed_here true name k x xs ys h = refl
  placed_here false name k x xs ys h = ap (λ zs. x.1 ∷ zs) h

  pub placed_is_inserted : (name k : List ℕ) → k ≡ key name → (xs : List Keyed) → AreKeyed key xs → names_in (placed (k, name) xs) ≡ inserted order name (names_in xs)
  placed_is_inserted name k is [] keyed = refl
  placed_is_inserted name k is (x ∷ xs) keyed =
      placed_here (is_gt (list_order x.0 k)) name k x xs (inserted order name (names_in xs)) (placed_is_inserted name k is xs keyed.1)
      ∙ ap (λ o. if is_gt o then name ∷ x.1 ∷ names_in xs else x.1 ∷ inserted order name (names_in xs)) (sym (by_key x name k keyed.0 is))

  kept_here : (a b : Bool) (x : Keyed) (xs : List Keyed) (ys : List (List ℕ)) → a ≡ b → names_in xs ≡ ys
      → names_in (if a then x ∷ xs else xs) ≡ (if b then x.1 ∷ ys else ys)
  kept_here true b x xs ys e h = subst (λ c. x.1 ∷ names_in xs ≡ (if c then x.1 ∷ ys else ys)) e (ap (λ zs. x.1 ∷ zs) h)
  kept_here false b x xs ys e h = subst (λ c. names_in xs ≡ (if c then x.1 ∷ ys else ys)) e h

  is_between : (o : Ordering) → (not (is_lt o) && is_le o) ≡ is_eq o
  is_between Less = refl
  is_between Equal = refl
  is_between Greater = refl

  pub equal_between : (name : List ℕ) (k l : Bor (List ℕ)) → k.now ≡ key name → l.now ≡ key name → (xs : List Keyed) → AreKeyed key xs
      → names_in (between (Before k) (Behind l) xs) ≡ equal_names order name (names_in xs)
  equal_between name k l is at [] keyed = refl
  equal_between name k l is at (x ∷ xs) keyed =
      kept_here (not (is_lt (list_order x.0 k.now)) && is_le (list_order x.0 l.now)) (is_eq (order x.1 name)) x (between (Before k) (Behind l) xs) (equal_names order name (names_in xs))
      (ap (λ o. not (is_lt o) && is_le (list_order x.0 l.now)) (sym (by_key x name k.now keyed.0 is))
      ∙ (ap (λ o. not (is_lt (order x.1 name)) && is_le o) (sym (by_key x name l.now keyed.0 at)) ∙ is_between (order x.1 name)))
      (equal_between name k l is at xs keyed.1)

  pub names_from_to : (from to : List ℕ) (k l : Bor (List ℕ)) → k.now ≡ key from → l.now ≡ key to → (xs : List Keyed) → AreKeyed key xs
      → names_in (between (Before k) (Before l) xs) ≡ names_between order from to (names_in xs)
  names_from_to from to k l is at [] keyed = refl
  names_from_to from to k l is at (x ∷ xs) keyed =
      kept_here (not (is_lt (list_order x.0 k.now)) && is_lt (list_order x.0 l.now)) (not (is_lt (order x.1 from)) && is_lt (order x.1 to)) x
      (between (Before k) (Before l) xs) (names_between order from to (names_in xs))
      (ap (λ o. not (is_lt o) && is_lt (list_order x.0 l.now)) (sym (by_key x from k.now keyed.0 is))
      ∙ ap (λ o. not (is_lt (order x.1 from)) && is_lt o) (sym (by_key x to l.now keyed.0 at)))
      (names_from_to from to k l is at xs keyed.1)

  keyed_here : (b : Bool) (name k : List ℕ) (x : Keyed) (xs : List Keyed) → k ≡ key name → AreKeyed key (x ∷ xs) → AreKeyed key (placed (k, name) xs)
      → AreKeyed key (if b then (k, name) ∷ x ∷ xs else x ∷ placed (k, name) xs)
  keyed_here true name k x xs is keyed more = (is, keyed)
  keyed_here false name k x xs is keyed more = (keyed.0, more)

  pub still_keyed : (name k : List ℕ) → k ≡ key name → (xs : List Keyed) → AreKeyed key xs → AreKeyed key (placed (k, name) xs)
  still_keyed name k is [] keyed = (is, tt)
  still_keyed name k is (x ∷ xs) keyed = keyed_here (is_gt (list_order x.0 k)) name k x xs is keyed (still_keyed name k is xs keyed.1)

  -- whether or not the name was put in
  pub keyed_after : {X E : Type 0} (r : Result X E) (name k : List ℕ) → k ≡ key name → (old new : List Keyed) → AreKeyed key old
      → OnOk r (new ≡ placed (k, name) old) → OnErr r (new ≡ old) → AreKeyed key new
  keyed_after (Ok x) name k is old new keyed ok err = subst (AreKeyed key) (sym ok) (still_keyed name k is old keyed)
  keyed_after (Err e) name k is old new keyed ok err = subst (AreKeyed key) (sym err) keyed

-- ---- at the primary level

kept_alike : (a b : Bool) (x : Keyed) (xs : List Keyed) (ys : List (List ℕ)) → a ≡ b → names_in xs ≡ ys
    → names_in (if a then x ∷ xs else xs) ≡ (if b then x.1 ∷ ys else ys)
kept_alike true b x xs ys e h = subst (λ c. x.1 ∷ names_in xs ≡ (if c then x.1 ∷ ys else ys)) e (ap (λ zs. x.1 ∷ zs) h)
kept_alike false b x xs ys e h = subst (λ c. names_in xs ≡ (if c then x.1 ∷ ys else ys)) e h

kept_both : (a b : Bool) (x : Keyed) (xs ys : List Keyed) → a ≡ b → names_in xs ≡ names_in ys
    → names_in (if a then x ∷ xs else xs) ≡ names_in (if b then x ∷ ys else ys)
kept_both true b x xs ys e h = subst (λ c. x.1 ∷ names_in xs ≡ names_in (if c then x ∷ ys else ys)) e (ap (λ zs. x.1 ∷ zs) h)
kept_both false b x xs ys e h = subst (λ c. names_in xs ≡ names_in (if c then x ∷ ys else ys)) e h

pub and_true : (b : Bool) → b ≡ (b && true)
and_true true = refl
and_true false = refl

pub names_begun : (c : Collation) → IsWellFormedTables c.tables → (beginning k : List ℕ) → k ≡ lower_bound c (utf8_text beginning) → (xs : List Keyed) → AreKeyed (key_of c) xs
    → names_in (beginning_with k xs) ≡ names_beginning c beginning (names_in xs)
names_begun c well_formed beginning k is [] keyed = refl
names_begun c well_formed beginning k is (x ∷ xs) keyed =
    kept_alike (begins k x.0) (name_begins c beginning x.1) x (beginning_with k xs) (names_beginning c beginning (names_in xs))
    (ap (λ bs. begins bs x.0) is
    ∙ (ap (begins (lower_bound c (utf8_text beginning))) keyed.0
    ∙ key_begins c well_formed (utf8_text beginning) (utf8_text x.1) (utf8_scalars beginning) (utf8_scalars x.1)))
    (names_begun c well_formed beginning k is xs keyed.1)

pub names_stand_under : (c : Collation) (starts : List NamedStart) (n : ℕ) (bounds : KeyBounds) → KeysStandUnder c starts n bounds → (xs : List Keyed) → AreKeyed (key_of c) xs
    → names_in (keyed_within bounds xs) ≡ names_under c starts n (names_in xs)
names_stand_under c starts n bounds h [] keyed = refl
names_stand_under c starts n bounds h (x ∷ xs) keyed =
    kept_alike (stands_within bounds x.0) (nat_eq (heading_number c starts x.1) n) x (keyed_within bounds xs) (names_under c starts n (names_in xs))
    (ap (stands_within bounds) keyed.0 ∙ h x.1)
    (names_stand_under c starts n bounds h xs keyed.1)

-- without an upper bound
pub stand_behind : (lower : Bor (List ℕ)) (bounds : KeyBounds) → bounds.lower ≡ lower → bounds.upper ≡ None → (xs : List Keyed)
    → names_in (behind_border (Before lower) xs) ≡ names_in (keyed_within bounds xs)
stand_behind lower bounds is none [] = refl
stand_behind lower bounds is none (x ∷ xs) =
    kept_both (not (is_lt (list_order x.0 lower.now))) (stands_within bounds x.0) x (behind_border (Before lower) xs) (keyed_within bounds xs)
    (rw (is, none) (and_true (not (is_lt (list_order x.0 lower.now)))))
    (stand_behind lower bounds is none xs)

pub stand_between : (lower upper : Bor (List ℕ)) (bounds : KeyBounds) → bounds.lower ≡ lower → bounds.upper ≡ Some upper → (xs : List Keyed)
    → names_in (between (Before lower) (Before upper) xs) ≡ names_in (keyed_within bounds xs)
stand_between lower upper bounds is some [] = refl
stand_between lower upper bounds is some (x ∷ xs) =
    kept_both (not (is_lt (list_order x.0 lower.now)) && is_lt (list_order x.0 upper.now)) (stands_within bounds x.0) x (between (Before lower) (Before upper) xs)
    (keyed_within bounds xs) (rw (is, some) refl)
    (stand_between lower upper bounds is some xs)
