-- Where the names up to a number are under new keys, and the next one gets its own.
use Rattle.std.proofs.Common.{◌≡◌, ℕ, ℤ, pos, negsuc, int_lt, ◌<◌, ◌≤◌, ◌==◌, Bool, true, false, cond, List, [], ◌∷◌, map, refl, sym, ap, ap₂, ◌∙◌, subst, arith}
use Rattle.std.proofs.lemmas.Bool.{eq-eqb}
use Rattle.std.proofs.lemmas.Int.{ints}
use Rattle.std.specs.List.{AllByRecursion}
use Rattle.icu_table_data.proofs.ListLemmas.{weaker}
use Rattle.icu_index_store.proofs.stored_rows.RekeyedRows.{untouched, apart_test, apart_back}
use Rattle.icu_index_store.specs.stored_rows.KeptNames.{KeptName, AreNumbered, is_above, key_given, names_above, renewed_up_to, under_key, with_other_key}

-- ---- numbers above one another

above_next : (b : ℤ) (m n : ℕ) → int_lt b (pos m) ≡ true → m < n → int_lt b (pos n) ≡ true
above_next b m n h low = at (int_lt b (pos n)) refl
  where
    at : (t : Bool) → int_lt b (pos n) ≡ t → t ≡ true
    at true e = refl
    at false e = absurd (omega (arith, ints))

not_above : (m n : ℕ) → n ≤ m → int_lt (pos m) (pos n) ≡ false
not_above m n h = at (int_lt (pos m) (pos n)) refl
  where
    at : (t : Bool) → int_lt (pos m) (pos n) ≡ t → t ≡ false
    at true e = absurd (omega (arith, ints))
    at false e = refl

is_next : (m n : ℕ) → m < n → int_lt (pos m) (pos n) ≡ true
is_next m n h = at (int_lt (pos m) (pos n)) refl
  where
    at : (t : Bool) → int_lt (pos m) (pos n) ≡ t → t ≡ true
    at true e = refl
    at false e = absurd (omega (arith, ints))

stays_below : (b : ℤ) (m n : ℕ) → int_lt b (pos m) ≡ false → int_lt b (pos n) ≡ true → m < n
stays_below b m n e h = omega (arith, ints)

-- ---- names above a number

-- all names are above a number that one before them is above
all_pass : (b : ℤ) (ks : List KeptName) → AllByRecursion (λ k. is_above b k ≡ true) ks → names_above b ks ≡ ks
all_pass b [] h = refl
all_pass b (k ∷ ks) h = ap (λ t. cond t (k ∷ names_above b ks) (names_above b ks)) h.0 ∙ ap (λ l. k ∷ l) (all_pass b ks h.1)

module _ (key : List ℕ → List ℕ) where
  abbrev renewed : ℤ → KeptName → KeptName
  renewed b k = cond (is_above b k) k (under_key key k)

  as_they_are : (b : ℤ) (ks : List KeptName) → AllByRecursion (λ k. is_above b k ≡ true) ks → renewed_up_to key b ks ≡ ks
  as_they_are b [] h = refl
  as_they_are b (k ∷ ks) h = ap₂ (λ j l. j ∷ l) (ap (λ t. cond t k (under_key key k)) h.0) (as_they_are b ks h.1)

  -- below the numbers of all names none is under a new key
  pub none_renewed : (low : ℕ) (ks : List KeptName) → renewed_up_to key (negsuc low) ks ≡ ks
  none_renewed low [] = refl
  none_renewed low (k ∷ ks) = ap (λ l. k ∷ l) (none_renewed low ks)

  -- the names above a number are as they were
  pub above_unchanged : (b : ℤ) (ks : List KeptName) → names_above b (renewed_up_to key b ks) ≡ names_above b ks
  above_unchanged b [] = refl
  above_unchanged b (k ∷ ks) = at (is_above b k) refl (above_unchanged b ks)
    where
      at : (t : Bool) → is_above b k ≡ t → names_above b (renewed_up_to key b ks) ≡ names_above b ks
          → names_above b (cond t k (under_key key k) ∷ renewed_up_to key b ks) ≡ cond t (k ∷ names_above b ks) (names_above b ks)
      at true e more = ap (λ s. cond s (k ∷ names_above b (renewed_up_to key b ks)) (names_above b (renewed_up_to key b ks))) e ∙ ap (λ l. k ∷ l) more
      at false e more =
          ap (λ s. cond s (under_key key k ∷ names_above b (renewed_up_to key b ks)) (names_above b (renewed_up_to key b ks))) e ∙ more

  -- where none is above the number, all are under their new keys
  pub all_renewed : (b : ℤ) (ks : List KeptName) → names_above b ks ≡ [] → renewed_up_to key b ks ≡ map (under_key key) ks
  all_renewed b [] none = refl
  all_renewed b (k ∷ ks) none = at (is_above b k) (all_renewed b ks) none
    where
      at : (t : Bool) → (names_above b ks ≡ [] → renewed_up_to key b ks ≡ map (under_key key) ks) → cond t (k ∷ names_above b ks) (names_above b ks) ≡ []
          → cond t k (under_key key k) ∷ renewed_up_to key b ks ≡ under_key key k ∷ map (under_key key) ks
      at true more none = absurd (let e = none in cc)
      at false more none = ap (λ l. under_key key k ∷ l) (more none)

  -- where the next name gets its key, the names up to it are under theirs, and those behind it are still to come
  abbrev pub GoesOn : ℤ → List KeptName → KeptName → List KeptName → Type 0
  GoesOn b ks next rest =
      (with_other_key next.number (key next.name) (renewed_up_to key b ks) ≡ renewed_up_to key (pos next.number) ks)
      × (names_above (pos next.number) ks ≡ rest)

  first_next : (b : ℤ) (k : KeptName) (ks : List KeptName) → is_above b k ≡ true → AllByRecursion (λ j. k.number < j.number) ks → GoesOn b (k ∷ ks) k ks
  first_next b k ks e up =
      let above_b : AllByRecursion (λ j. is_above b j ≡ true) ks =
      weaker (λ j. k.number < j.number) (λ j. is_above b j ≡ true) (λ j low. above_next b k.number j.number e low) ks up in
      let above_k : AllByRecursion (λ j. is_above (pos k.number) j ≡ true) ks =
      weaker (λ j. k.number < j.number) (λ j. is_above (pos k.number) j ≡ true) (λ j low. is_next k.number j.number low) ks up in
      let others : AllByRecursion (λ j. (j.number == k.number) ≡ false) ks =
      weaker (λ j. k.number < j.number) (λ j. (j.number == k.number) ≡ false) (λ j low. apart_back k.number j.number low) ks up in
      let itself : is_above (pos k.number) k ≡ false = not_above k.number k.number (omega arith) in (
        ap₂ (λ j l. key_given k.number (key k.name) j ∷ with_other_key k.number (key k.name) l) (ap (λ t. cond t k (under_key key k)) e) (as_they_are b ks above_b)
            ∙ (ap₂ (λ t l. cond t (under_key key k) k ∷ l) (eq-eqb k.number k.number refl) (untouched k.number (key k.name) ks others)
            ∙ sym (ap₂ (λ t l. cond t k (under_key key k) ∷ l) itself (as_they_are (pos k.number) ks above_k))),
        ap (λ t. cond t (k ∷ names_above (pos k.number) ks) (names_above (pos k.number) ks)) itself ∙ all_pass (pos k.number) ks above_k,
      )

  later_next : (b : ℤ) (k next : KeptName) (ks rest : List KeptName) → is_above b k ≡ false → k.number < next.number → GoesOn b ks next rest → GoesOn b (k ∷ ks) next rest
  later_next b k next ks rest e low more =
      let passed : is_above (pos next.number) k ≡ false = not_above next.number k.number (omega arith) in (
        ap (λ j. key_given next.number (key next.name) j ∷ with_other_key next.number (key next.name) (renewed_up_to key b ks)) (ap (λ t. cond t k (under_key key k)) e)
            ∙ (ap₂ (λ t l. cond t (record (under_key key k) { key = key next.name }) (under_key key k) ∷ l) (apart_test k.number next.number low) more.0
            ∙ sym (ap (λ t. cond t k (under_key key k) ∷ renewed_up_to key (pos next.number) ks) passed)),
        ap (λ t. cond t (k ∷ names_above (pos next.number) ks) (names_above (pos next.number) ks)) passed ∙ more.1,
      )

  pub has_above : (b : ℤ) (ks : List KeptName) (next : KeptName) (rest : List KeptName) → names_above b ks ≡ next ∷ rest → is_above b next ≡ true
  has_above b [] next rest h = absurd (let e = h in cc)
  has_above b (k ∷ ks) next rest h = at (is_above b k) refl (has_above b ks next rest) h
    where
      at : (t : Bool) → is_above b k ≡ t → (names_above b ks ≡ next ∷ rest → is_above b next ≡ true) → cond t (k ∷ names_above b ks) (names_above b ks) ≡ next ∷ rest → is_above b next ≡ true
      at true e more h = let same : k ≡ next = cc in subst (λ j. is_above b j ≡ true) same e
      at false e more h = more h

  pub next_renewed : (b : ℤ) (ks : List KeptName) (next : KeptName) (rest : List KeptName) → AreNumbered ks → names_above b ks ≡ next ∷ rest → GoesOn b ks next rest
  next_renewed b [] next rest order h = absurd (let e = h in cc)
  next_renewed b (k ∷ ks) next rest order h = at (is_above b k) refl (next_renewed b ks next rest order.1) h
    where
      at : (t : Bool) → is_above b k ≡ t → (names_above b ks ≡ next ∷ rest → GoesOn b ks next rest) → cond t (k ∷ names_above b ks) (names_above b ks) ≡ next ∷ rest → GoesOn b (k ∷ ks) next rest
      at true e more h =
          let above_b : AllByRecursion (λ j. is_above b j ≡ true) ks =
          weaker (λ j. k.number < j.number) (λ j. is_above b j ≡ true) (λ j low. above_next b k.number j.number e low) ks order.0 in
          let all : names_above b ks ≡ ks = all_pass b ks above_b in
          let same : k ≡ next = cc in
          let behind : ks ≡ rest = sym all ∙ (let it : names_above b ks ≡ rest = cc in it) in
          subst (λ j. GoesOn b (k ∷ ks) j rest) same (subst (λ l. GoesOn b (k ∷ ks) k l) behind (first_next b k ks e order.0))
      at false e more h =
          let low : k.number < next.number = stays_below b k.number next.number e (has_above b ks next rest h) in
          later_next b k next ks rest e low (more h)
