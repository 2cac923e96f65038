-- A level that is written as nothing where its list has the least weight alone.
use Rattle.std.proofs.Common.{◌≡◌, ℕ, ◌<◌, ◌≤◌, Bool, true, false, ◌&&◌, if◌then◌else◌, List, [], ◌∷◌, ◌++◌, length, refl, sym, ap, ◌∙◌, inl, inr, ◌⊎◌, arith, Less, eqb}
use Rattle.std.proofs.lemmas.Bool.{cases_order, cases_Bool, and_parts, eqb-true, cond-true, cond-false}
use Rattle.std.specs.List.{AllByRecursion}
use Rattle.std.specs.Ordering.{ordering_then}
use Rattle.icu_order_levels.specs.ListOrder.{list_order, IsUnder}
use Rattle.icu_order_levels.specs.Cases.{is_only}
use Rattle.icu_order_levels.proofs.Order.{less_head, alike_head, same_lists_order, turned, keeps_order}

only_at : (n : ℕ) (xs : List ℕ) → is_only n xs ≡ true → (ys : List ℕ) → length xs ≡ length ys → is_only n ys ≡ true → xs ≡ ys
only_at n [] h [] e k = refl
only_at n [] h (y ∷ ys) e k = absurd (omega arith)
only_at n (x ∷ xs) h [] e k = absurd (omega arith)
only_at n (x ∷ xs) h (y ∷ ys) e k =
    let p = and_parts (eqb x n) (is_only n xs) h in
    let q = and_parts (eqb y n) (is_only n ys) k in
    let a = eqb-true x n p.0 in let b = eqb-true y n q.0 in
    let c = only_at n xs p.1 ys (omega arith) q.1 in cc

-- a list of the least number alone is less than another as long
only_less : (n : ℕ) (xs ys : List ℕ) → is_only n xs ≡ true → length xs ≡ length ys → AllByRecursion (λ y. n ≤ y) ys → is_only n ys ≡ false
    → list_order xs ys ≡ Less
only_less n [] [] h e p k = cc
only_less n [] (y ∷ ys) h e p k = absurd (omega arith)
only_less n (x ∷ xs) [] h e p k = absurd (omega arith)
only_less n (x ∷ xs) (y ∷ ys) h e p k = by (cases_order x y) (λ l. only_less n xs ys a.1 (omega arith) p.1 l)
  where
    a : (eqb x n ≡ true) × (is_only n xs ≡ true)
    a = and_parts (eqb x n) (is_only n xs) h

    by : (x ≡ y) ⊎ ((x < y) ⊎ (y < x)) → (is_only n ys ≡ false → list_order xs ys ≡ Less) → list_order (x ∷ xs) (y ∷ ys) ≡ Less
    by (inl f) ih = alike_head x y xs ys f ∙ ih (rest (eqb y n) (is_only n ys) (ap (λ z. eqb z n) (sym f) ∙ a.0) k)
      where
        rest : (b c : Bool) → b ≡ true → (b && c) ≡ false → c ≡ false
        rest true c g m = m
        rest false c g m = cc
    by (inr (inl l)) ih = less_head x y xs ys l
    by (inr (inr l)) ih = absurd (omega (arith, eqb-true x n a.0, p.0))

-- Of such a level it is enough to know that it keeps the order of lesser lists, and writes nothing for no weight
module _ (n : ℕ) (IsReachable : ℕ → Type 0) (least : (w : ℕ) → IsReachable w → n ≤ w) (written : List ℕ → List ℕ) (nothing : written [] ≡ [])
    (less : (vs ws s t : List ℕ) → AllByRecursion IsReachable vs → AllByRecursion IsReachable ws → IsUnder 2 s → list_order vs ws ≡ Less
    → list_order (written vs ++ s) (written ws ++ t) ≡ Less) where
  abbrev or_nothing : List ℕ → List ℕ
  or_nothing ws = if is_only n ws then [] else written ws

  is_written : (ws : List ℕ) → is_only n ws ≡ false → or_nothing ws ≡ written ws
  is_written ws h = cond-false (is_only n ws) [] (written ws) h

  is_unwritten : (ws : List ℕ) → is_only n ws ≡ true → or_nothing ws ≡ []
  is_unwritten ws h = cond-true (is_only n ws) [] (written ws) h

  all_least : (ws : List ℕ) → AllByRecursion IsReachable ws → AllByRecursion (λ w. n ≤ w) ws
  all_least [] p = tt
  all_least (w ∷ ws) p = (least w p.0, all_least ws p.1)

  alone_less : (vs ws s t : List ℕ) → AllByRecursion IsReachable ws → IsUnder 2 s → is_only n vs ≡ true → is_only n ws ≡ false
      → list_order (or_nothing vs ++ s) (or_nothing ws ++ t) ≡ Less
  alone_less vs [] s t q u h k = cc
  alone_less vs (w ∷ ws) s t q u h k =
      ap (λ l. list_order (l ++ s) (or_nothing (w ∷ ws) ++ t)) (is_unwritten vs h)
      ∙ (ap (λ l. list_order s (l ++ t)) (is_written (w ∷ ws) k)
      ∙ (ap (λ l. list_order (l ++ s) (written (w ∷ ws) ++ t)) (sym nothing) ∙ less [] (w ∷ ws) s t tt q u refl))

  both_written : (vs ws s t : List ℕ) → AllByRecursion IsReachable vs → AllByRecursion IsReachable ws → IsUnder 2 s → IsUnder 2 t
      → list_order (written vs ++ s) (written ws ++ t) ≡ ordering_then (list_order vs ws) (list_order s t)
  both_written vs ws s t p q u v =
      keeps_order vs ws (written vs) (written ws) s t (less vs ws s t p q u) (less ws vs t s q p v) (λ e. ap written e)

  -- the order of lists as long
  pub or_nothing_order : (vs ws s t : List ℕ) → AllByRecursion IsReachable vs → AllByRecursion IsReachable ws → IsUnder 2 s → IsUnder 2 t → length vs
      ≡ length ws
      → list_order ((if is_only n vs then [] else written vs) ++ s) ((if is_only n ws then [] else written ws) ++ t)
      ≡ ordering_then (list_order vs ws) (list_order s t)
  or_nothing_order vs ws s t p q u v e = by (cases_Bool (is_only n vs)) (cases_Bool (is_only n ws))
    where
      by : (is_only n vs ≡ true) ⊎ (is_only n vs ≡ false) → (is_only n ws ≡ true) ⊎ (is_only n ws ≡ false)
          → list_order (or_nothing vs ++ s) (or_nothing ws ++ t) ≡ ordering_then (list_order vs ws) (list_order s t)
      by (inl h) (inl k) =
          ap (λ l. list_order (l ++ s) (or_nothing ws ++ t)) (is_unwritten vs h) ∙ (ap (λ l. list_order s (l ++ t)) (is_unwritten ws k)
          ∙ ap (λ o. ordering_then o (list_order s t)) (sym (same_lists_order vs ws (only_at n vs h ws e k))))
      by (inl h) (inr k) =
          alone_less vs ws s t q u h k ∙ ap (λ o. ordering_then o (list_order s t)) (sym (only_less n vs ws h e (all_least ws q) k))
      by (inr h) (inl k) = turned (or_nothing vs ++ s) (or_nothing ws ++ t) (alone_less ws vs t s p v k h)
          ∙ ap (λ o. ordering_then o (list_order s t)) (sym (turned vs ws (only_less n ws vs k (sym e) (all_least vs p) h)))
      by (inr h) (inr k) =
          ap (λ l. list_order (l ++ s) (or_nothing ws ++ t)) (is_written vs h)
          ∙ (ap (λ l. list_order (written vs ++ s) (l ++ t)) (is_written ws k)
          ∙ both_written vs ws s t p q u v)
