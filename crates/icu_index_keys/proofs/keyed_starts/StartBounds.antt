-- Between which keys those stand that have come to so many starts.
use Rattle.std.proofs.Common.{◌≡◌, ℕ, zero, suc, ◌-◌, Bool, true, false, not, ◌&&◌, nat_eq, List, [], ◌∷◌, Option, Some, None, filter, if◌then◌else◌, length, map, slice_get, refl, sym, ap, ◌∙◌, ◌⊎◌, inl, inr, arith}
use Rattle.std.proofs.lemmas.Bool.{cases_Bool}
use Rattle.std.proofs.lemmas.Bool.Decides.{nat_tests}
use Rattle.std.proofs.lemmas.Cmp.{nat_list_cmp_total}
use Rattle.std.specs.List.{AllByRecursion}
use Rattle.std.specs.Ordering.{is_le, is_lt, ordering_reverse}
use Rattle.std.specs.declared.cmp.Ordering.{Ordering}
use Rattle.std.specs.declared.cmp.Ordering.TheVariants.{Less, Equal, Greater}
use Rattle.icu_order_levels.specs.beginnings.KeyBeginnings.{is_below, stands_between}
use Rattle.icu_order_levels.specs.ListOrder.{list_order}
use Rattle.icu_index_keys.specs.inner.Leaves.{IsParted}
use Rattle.icu_index_keys.proofs.keyed_starts.StartLemmas.{le_parted}
use Rattle.icu_index_keys.specs.keyed_starts.KeyOrders.{Ascend, key_order, keys_of}
use Rattle.icu_index_keys.specs.keyed_starts.Starts.{KeyedStart, start_of, starts_up_to}
use Rattle.icu_index_keys.specs.declared.keyed_starts.starts.Start.{Start}

turned : (o : Ordering) → is_le (ordering_reverse o) ≡ not (is_lt o)
turned Less = refl
turned Equal = refl
turned Greater = refl

pub not_above : (k key : List ℕ) → is_le (list_order k key) ≡ not (is_lt (list_order key k))
not_above k key = ap is_le (nat_list_cmp_total.antisymm k key) ∙ turned (list_order key k)

some_or_none : (n : ℕ) → nat_eq (suc n) zero ≡ false
some_or_none n = grind (arith, nat_tests)

none_or_some : (n : ℕ) → nat_eq zero (suc n) ≡ false
none_or_some n = grind (arith, nat_tests)

one_fewer : (m n : ℕ) → nat_eq (suc m) (suc n) ≡ nat_eq m n
one_fewer m n = by (cases_Bool (nat_eq m n))
  where
    by : (nat_eq m n ≡ true) ⊎ (nat_eq m n ≡ false) → nat_eq (suc m) (suc n) ≡ nat_eq m n
    by (inl e) = let f : nat_eq (suc m) (suc n) ≡ true = grind (arith, nat_tests) in f ∙ sym e
    by (inr e) = let f : nat_eq (suc m) (suc n) ≡ false = grind (arith, nat_tests) in f ∙ sym e

module _ (key : List ℕ) where
  abbrev come : List ℕ → Bool
  come k = is_le (list_order k key)

  -- how many keys have been come to
  abbrev pub count : List (List ℕ) → ℕ
  count ks = length (filter come ks)

  -- whether the key has come to the one before a place, and whether it has not come to the one at a place
  abbrev pub reached : ℕ → List (List ℕ) → Bool
  reached zero ks = true
  reached (suc n) [] = false
  reached (suc zero) (k ∷ ks) = come k
  reached (suc (suc n)) (k ∷ ks) = reached (suc n) ks

  abbrev pub open_at : ℕ → List (List ℕ) → Bool
  open_at n [] = true
  open_at zero (k ∷ ks) = not (come k)
  open_at (suc n) (k ∷ ks) = open_at n ks

  none_come : (ks : List (List ℕ)) → AllByRecursion (λ k. come k ≡ false) ks → filter come ks ≡ []
  none_come [] h = refl
  none_come (k ∷ ks) h = ap (λ b. if b then k ∷ filter come ks else filter come ks) h.0 ∙ none_come ks h.1

  none_reached : (n : ℕ) (ks : List (List ℕ)) → AllByRecursion (λ k. come k ≡ false) ks → reached (suc n) ks ≡ false
  none_reached n [] h = refl
  none_reached zero (k ∷ ks) h = h.0
  none_reached (suc n) (k ∷ ks) h = none_reached n ks h.1

  at_first : (b : Bool) (k : List ℕ) (ks : List (List ℕ)) → (b ≡ false → filter come ks ≡ [])
      → nat_eq (length (if b then k ∷ filter come ks else filter come ks)) zero ≡ not b
  at_first true k ks h = some_or_none (count ks)
  at_first false k ks h = ap (λ ns. nat_eq (length ns) zero) (h refl)

  at_second : (b : Bool) (k : List ℕ) (ks : List (List ℕ)) → (b ≡ false → filter come ks ≡ []) → nat_eq (count ks) zero ≡ open_at zero ks
      → nat_eq (length (if b then k ∷ filter come ks else filter come ks)) (suc zero) ≡ (b && open_at zero ks)
  at_second true k ks h e = one_fewer (count ks) zero ∙ e
  at_second false k ks h e = ap (λ ns. nat_eq (length ns) (suc zero)) (h refl) ∙ none_or_some zero

  at_later : (b : Bool) (n : ℕ) (k : List ℕ) (ks : List (List ℕ)) → (b ≡ false → AllByRecursion (λ k. come k ≡ false) ks)
      → nat_eq (count ks) (suc n) ≡ (reached (suc n) ks && open_at (suc n) ks)
      → nat_eq (length (if b then k ∷ filter come ks else filter come ks)) (suc (suc n)) ≡ (reached (suc n) ks && open_at (suc n) ks)
  at_later true n k ks h e = one_fewer (count ks) (suc n) ∙ e
  at_later false n k ks h e =
      ap (λ (ns : List (List ℕ)). nat_eq (length ns) (suc (suc n))) (none_come ks (h refl))
      ∙ (none_or_some (suc n) ∙ ap (λ b. b && open_at (suc n) ks) (sym (none_reached n ks (h refl))))

  pub counted_so_far : (n : ℕ) (ks : List (List ℕ)) → IsParted come ks → nat_eq (count ks) n ≡ (reached n ks && open_at n ks)
  counted_so_far zero [] h = refl
  counted_so_far (suc n) [] h = none_or_some n
  counted_so_far zero (k ∷ ks) h = at_first (come k) k ks (λ e. none_come ks (h.0 e))
  counted_so_far (suc zero) (k ∷ ks) h = at_second (come k) k ks (λ e. none_come ks (h.0 e)) (counted_so_far zero ks h.1)
  counted_so_far (suc (suc n)) (k ∷ ks) h = at_later (come k) n k ks h.0 (counted_so_far (suc n) ks h.1)

  parted_keys : (ss : List Start) → IsParted (λ s. is_le (key_order key s)) ss → IsParted come (keys_of ss)
  parted_keys [] h = tt
  parted_keys (s ∷ ss) h = (λ e. along ss (h.0 e), parted_keys ss h.1)
    where
      along : (ts : List Start) → AllByRecursion (λ t. is_le (key_order key t) ≡ false) ts → AllByRecursion (λ k. come k ≡ false) (keys_of ts)
      along [] a = tt
      along (t ∷ ts) a = (a.0, along ts a.1)

  here : (b : Bool) (s : Start) (ss : List Start) (ks : List (List ℕ)) (xs : List KeyedStart) → length ks ≡ length xs
      → length (if b then s.key.items ∷ ks else ks) ≡ length (if b then start_of s ∷ xs else xs)
  here true s ss ks xs e = ap suc e
  here false s ss ks xs e = e

  pub as_keys : (ss : List Start) → count (keys_of ss) ≡ starts_up_to key (map start_of ss)
  as_keys [] = refl
  as_keys (s ∷ ss) = here (come s.key.items) s ss (filter come (keys_of ss)) (filter (λ (x : KeyedStart). is_le (list_order x.0 key)) (map start_of ss)) (as_keys ss)

  -- what has come to so many starts
  pub counted_at : (n : ℕ) (ss : List Start) → Ascend (keys_of ss) → (reached n (keys_of ss) && open_at n (keys_of ss)) ≡ nat_eq (starts_up_to key (map start_of ss)) n
  counted_at n ss h = sym (counted_so_far n (keys_of ss) (parted_keys ss (le_parted key ss h))) ∙ ap (λ m. nat_eq m n) (as_keys ss)

  -- ---- as bounds

  pub below_is : (n : ℕ) (ks : List (List ℕ)) → is_below (slice_get ks n) key ≡ open_at n ks
  below_is n [] = refl
  below_is zero (k ∷ ks) = turn (is_lt (list_order key k)) ∙ ap not (sym (not_above k key))
    where
      turn : (b : Bool) → b ≡ not (not b)
      turn true = refl
      turn false = refl
  below_is (suc n) (k ∷ ks) = below_is n ks

  pub above_is : (n : ℕ) (ks : List (List ℕ)) (k : List ℕ) → slice_get ks n ≡ Some k → not (is_lt (list_order key k)) ≡ reached (suc n) ks
  above_is n [] k e = absurd cc
  above_is zero (l ∷ ks) k e = let same : l ≡ k = cc in ap (λ m. not (is_lt (list_order key m))) (sym same) ∙ sym (not_above l key)
  above_is (suc n) (l ∷ ks) k e = above_is n ks k e

  pub past_is : (n : ℕ) (ks : List (List ℕ)) → slice_get ks n ≡ None → reached (suc n) ks ≡ false
  past_is n [] e = refl
  past_is zero (l ∷ ks) e = absurd cc
  past_is (suc n) (l ∷ ks) e = past_is n ks e

-- no key is less than no bytes
pub none_less : (key : List ℕ) → is_lt (list_order key []) ≡ false
none_less [] = refl
none_less (b ∷ key) = refl

-- ---- as the code has them

pub at_start : (key : List ℕ) (ss : List Start) (n : ℕ) (upper : Option (List ℕ)) → n ≡ 0 → Ascend (keys_of ss) → upper ≡ slice_get (keys_of ss) n
    → stands_between [] upper key ≡ nat_eq (starts_up_to key (map start_of ss)) n
at_start key ss zero upper none h e =
    ap (λ b. not b && is_below upper key) (none_less key)
    ∙ (ap (λ u. is_below u key) e ∙ (below_is key zero (keys_of ss) ∙ counted_at key zero ss h))
at_start key ss (suc n) upper none h e = absurd cc

pub at_later_start : (key : List ℕ) (ss : List Start) (n : ℕ) (lower : List ℕ) (upper : Option (List ℕ)) → ¬ (n ≡ 0) → Ascend (keys_of ss) → upper ≡ slice_get (keys_of ss) n
    → Some lower ≡ slice_get (keys_of ss) (n - 1) → stands_between lower upper key ≡ nat_eq (starts_up_to key (map start_of ss)) n
at_later_start key ss zero lower upper some h e f = absurd (some refl)
at_later_start key ss (suc n) lower upper some h e f =
    let m : suc n - 1 ≡ n = omega arith in
    ap (λ b. b && is_below upper key) (above_is key n (keys_of ss) lower (sym (f ∙ ap (slice_get (keys_of ss)) m)))
    ∙ (ap (λ u. reached key (suc n) (keys_of ss) && is_below u key) e
    ∙ (ap (λ b. reached key (suc n) (keys_of ss) && b) (below_is key (suc n) (keys_of ss)) ∙ counted_at key (suc n) ss h))

pub past_the_last : (key : List ℕ) (ss : List Start) (n : ℕ) → ¬ (n ≡ 0) → Ascend (keys_of ss) → None ≡ slice_get (keys_of ss) (n - 1)
    → stands_between [] (Some []) key ≡ nat_eq (starts_up_to key (map start_of ss)) n
past_the_last key ss zero some h e = absurd (some refl)
past_the_last key ss (suc n) some h e =
    let m : suc n - 1 ≡ n = omega arith in
    ap (λ b. not b && b) (none_less key)
    ∙ (ap (λ b. b && open_at key (suc n) (keys_of ss)) (sym (past_is key n (keys_of ss) (sym (e ∙ ap (slice_get (keys_of ss)) m)))) ∙ counted_at key (suc n) ss h)
