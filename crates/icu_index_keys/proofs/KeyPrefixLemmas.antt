-- The number that a key begins with tells its order where two such numbers differ.
use Rattle.std.proofs.Common.{◌≡◌, ℕ, zero, suc, ◌+◌, ◌*◌, ◌<◌, ◌≤◌, ◌⊎◌, Bool, true, false, List, [], ◌∷◌, slice_index, nat_eq, nat_lt, if◌then◌else◌, inl, inr, refl, sym, ap, ◌∙◌, arith}
use Rattle.std.proofs.lemmas.Cmp.{nat_list_cmp_total}
use Rattle.std.proofs.lemmas.Bool.{cases_lt}
use Rattle.std.proofs.lemmas.Bool.Decides.{nat_tests}
use Rattle.icu_order_levels.proofs.Order.{same_number, less_head, less_number}
use Rattle.std.specs.Int.{from_be_bytes, w64}
use Rattle.std.specs.Ordering.{ordering_then, ordering_reverse}
use Rattle.std.specs.declared.cmp.Ordering.{Ordering}
use Rattle.std.specs.declared.cmp.Ordering.TheVariants.{Less}
use Rattle.icu_order_levels.specs.ListOrder.{list_order}
use Rattle.icu_index_keys.specs.Borders.{border_key, lies_before, stands_before}
use Rattle.icu_index_keys.specs.declared.borders.Border.{Border}
use Rattle.icu_index_keys.specs.declared.borders.Border.TheVariants.{Before, Behind}
use Rattle.icu_index_keys.specs.declared.name_entries.Entry.{Entry}
use Rattle.icu_index_keys.specs.inner.NameEntries.{entry_before, gathered, key_in, prefix_of}
use Rattle.icu_order_levels.specs.beginnings.KeyBeginnings.{AreBytes}

-- ---- what is worked out

pub prefix_is : (key : List ℕ)
    → from_be_bytes w64 (slice_index key 0 ∷ slice_index key 1 ∷ slice_index key 2 ∷ slice_index key 3 ∷ slice_index key 4 ∷ slice_index key 5 ∷ slice_index key 6 ∷ slice_index key 7 ∷ [])
    ≡ prefix_of key
unfolding prefix_of
prefix_is [] = refl
prefix_is (a ∷ []) = omega arith
prefix_is (a ∷ b ∷ []) = omega arith
prefix_is (a ∷ b ∷ c ∷ []) = omega arith
prefix_is (a ∷ b ∷ c ∷ d ∷ []) = omega arith
prefix_is (a ∷ b ∷ c ∷ d ∷ e ∷ []) = omega arith
prefix_is (a ∷ b ∷ c ∷ d ∷ e ∷ f ∷ []) = omega arith
prefix_is (a ∷ b ∷ c ∷ d ∷ e ∷ f ∷ g ∷ []) = omega arith
prefix_is (a ∷ b ∷ c ∷ d ∷ e ∷ f ∷ g ∷ h ∷ rest) = omega arith

-- ---- what it tells

abbrev Tells : ℕ → ℕ → List ℕ → List ℕ → Type 0
Tells a b xs ys = (a < b) ⊎ ((a ≡ b) × (list_order xs ys ≡ Less))

less_later : (x y : ℕ) (xs ys : List ℕ) → x ≡ y → list_order xs ys ≡ Less → list_order (x ∷ xs) (y ∷ ys) ≡ Less
less_later x y xs ys e h = rw e (ap (λ o. ordering_then o (list_order xs ys)) (same_number y) ∙ h)

alike : (a b x y : ℕ) → x < 256 → y < 256 → a * 256 + x ≡ b * 256 + y → (a ≡ b) × (x ≡ y)
alike a b x y hx hy e = (omega arith, omega arith)

by_first : (a b x y : ℕ) (xs ys : List ℕ) → x < 256 → y < 256 → a * 256 + x < b * 256 + y → (a < b) ⊎ (b ≤ a) → Tells a b (x ∷ xs) (y ∷ ys)
by_first a b x y xs ys hx hy h (inl less) = inl less
by_first a b x y xs ys hx hy h (inr more) = let e : a ≡ b = omega arith in let l : x < y = omega arith in inr (e, less_head x y xs ys l)

step : (a b x y : ℕ) (xs ys : List ℕ) → x < 256 → y < 256 → Tells (a * 256 + x) (b * 256 + y) xs ys → Tells a b (x ∷ xs) (y ∷ ys)
step a b x y xs ys hx hy (inl h) = by_first a b x y xs ys hx hy h (cases_lt a b)
step a b x y xs ys hx hy (inr h) = let e = alike a b x y hx hy h.0 in inr (e.0, less_later x y xs ys e.1 h.1)

none_first : (a b y : ℕ) (ys : List ℕ) → y < 256 → (a < b) ⊎ (b ≤ a) → (a * 256 < b * 256 + y) ⊎ ((a * 256 ≡ b * 256 + y) × (list_order [] ys ≡ Less)) → Tells a b [] (y ∷ ys)
none_first a b y ys hy (inl less) h = inl less
none_first a b y ys hy (inr more) (inl h) = inr (omega arith, refl)
none_first a b y ys hy (inr more) (inr h) = inr (omega arith, refl)

last_first : (a b x : ℕ) (xs : List ℕ) → x < 256 → (a < b) ⊎ (b ≤ a) → (a * 256 + x < b * 256) ⊎ ((a * 256 + x ≡ b * 256) × (list_order xs [] ≡ Less)) → Tells a b (x ∷ xs) []
last_first a b x xs hx (inl less) h = inl less
last_first a b x xs hx (inr more) (inl h) = absurd (omega arith)
last_first a b x [] hx (inr more) (inr h) = cc
last_first a b x (z ∷ zs) hx (inr more) (inr h) = cc

neither : (a b : ℕ) → (a * 256 < b * 256) ⊎ ((a * 256 ≡ b * 256) × (list_order [] [] ≡ Less)) → Tells a b [] []
neither a b (inl h) = inl (omega arith)
neither a b (inr h) = cc

told : (n a b : ℕ) (xs ys : List ℕ) → AreBytes xs → AreBytes ys → gathered n a xs < gathered n b ys → Tells a b xs ys
told zero a b xs ys hx hy h = inl h
told (suc n) a b [] [] hx hy h = neither a b (told n (a * 256) (b * 256) [] [] hx hy h)
told (suc n) a b [] (y ∷ ys) hx hy h = none_first a b y ys hy.0 (cases_lt a b) (told n (a * 256) (b * 256 + y) [] ys hx hy.1 h)
told (suc n) a b (x ∷ xs) [] hx hy h = last_first a b x xs hx.0 (cases_lt a b) (told n (a * 256 + x) (b * 256) xs [] hx.1 hy h)
told (suc n) a b (x ∷ xs) (y ∷ ys) hx hy h = step a b x y xs ys hx.0 hy.0 (told n (a * 256 + x) (b * 256 + y) xs ys hx.1 hy.1 h)

of_tells : (xs ys : List ℕ) → Tells 0 0 xs ys → list_order xs ys ≡ Less
of_tells xs ys (inl h) = absurd (omega arith)
of_tells xs ys (inr h) = h.1

pub prefix_tells : (xs ys : List ℕ) → AreBytes xs → AreBytes ys → prefix_of xs < prefix_of ys → list_order xs ys ≡ Less
unfolding prefix_of
prefix_tells xs ys hx hy h = of_tells xs ys (told 8 0 0 xs ys hx hy h)

-- ---- an entry before a border

turned : (o : Ordering) (border : Border) → o ≡ Less → stands_before border (ordering_reverse o) ≡ false
turned o (Before key) e = rw e refl
turned o (Behind key) e = rw e refl

pub less_stands : (o : Ordering) (border : Border) → o ≡ Less → stands_before border o ≡ true
less_stands o (Before key) e = rw e refl
less_stands o (Behind key) e = rw e refl

-- what decides where the numbers are alike, and what where they are not
chosen : (alike less stands : Bool) → (alike ≡ false → less ≡ true → stands ≡ true) → (alike ≡ false → less ≡ false → stands ≡ false)
    → (if alike then stands else less) ≡ stands
chosen true less stands below above = refl
chosen false true stands below above = sym (below refl refl)
chosen false false stands below above = sym (above refl refl)

below_is : (p q : ℕ) → nat_lt p q ≡ true → p < q
below_is p q h = grind (arith, nat_tests)

above_is : (p q : ℕ) → nat_eq p q ≡ false → nat_lt p q ≡ false → q < p
above_is p q e h = grind (arith, nat_tests)

pub before_is : (bytes : List ℕ) (border : Border) (e : Entry) → e.prefix ≡ prefix_of (key_in bytes e) → AreBytes (key_in bytes e) → AreBytes (border_key border)
    → entry_before bytes border e ≡ lies_before border (key_in bytes e)
before_is bytes border e is hk hl =
    let k = key_in bytes e in
    let l = border_key border in
    chosen (nat_eq e.prefix (prefix_of l)) (nat_lt e.prefix (prefix_of l)) (lies_before border k)
    (λ unlike less. less_stands (list_order k l) border (prefix_tells k l hk hl (rw (sym is) (below_is e.prefix (prefix_of l) less))))
    (λ unlike more. ap (stands_before border) (nat_list_cmp_total.antisymm k l)
    ∙ turned (list_order l k) border (prefix_tells l k hl hk (rw (sym is) (above_is e.prefix (prefix_of l) unlike more))))
