-- A greater difference of characters has greater bytes.
use Rattle.std.proofs.Common.{◌≡◌, ℕ, ◌+◌, ◌-◌, ◌/◌, ◌^◌, ◌<◌, ◌≤◌, List, [], ◌∷◌, ◌++◌, refl, ◌∙◌, ◌⊎◌, ⊎_elim, inl, inr, arith, lit<, ltb}
use Rattle.std.proofs.lemmas.Bool.{cases_order, cases_lt, lt-ltb, le-ltb, ltb-true, ltb-false, cond_both}
use Rattle.std.proofs.lemmas.Cmp.{nat_list_cmp_total}
use Rattle.icu_order_levels.specs.ListOrder.{IsOver, Precedes}
use Rattle.icu_order_levels.specs.Identical.{difference_bytes, split_at, far_below, well_below, below, near, above, well_above, far_above, first_tail, middle_tail, last_tail}
use Rattle.icu_order_levels.proofs.Order.{less_head, alike_head}

-- a lesser first number precedes, or the same and then lists that precede
pub precedes_head : (x y : ℕ) (ps qs : List ℕ) → x < y → Precedes (x ∷ ps) (y ∷ qs)
precedes_head x y ps qs l s t = less_head x y (ps ++ s) (qs ++ t) l

pub precedes_more : (x y : ℕ) (ps qs : List ℕ) → x ≤ y → (x ≡ y → Precedes ps qs) → Precedes (x ∷ ps) (y ∷ qs)
precedes_more x y ps qs l h s t =
    ⊎_elim (λ e. alike_head x y (ps ++ s) (qs ++ t) e ∙ h e s t)
    (⊎_elim (λ m. less_head x y (ps ++ s) (qs ++ t) m) (λ m. absurd (omega arith)))
    (cases_order x y)

pub precedes_trans : (ps qs rs : List ℕ) → Precedes ps qs → Precedes qs rs → Precedes ps rs
precedes_trans ps qs rs p q s t = nat_list_cmp_total.trans (ps ++ s) (qs ++ []) (rs ++ t) (p s []) (q [] t)

-- three numbers of which the first that differ rise
three_rise : (x y z u v w : ℕ) → x ≤ u → (x ≡ u → y ≤ v) → (x ≡ u → y ≡ v → z < w) → Precedes (x ∷ y ∷ z ∷ []) (u ∷ v ∷ w ∷ [])
three_rise x y z u v w l m n =
    precedes_more x u (y ∷ z ∷ []) (v ∷ w ∷ []) l (λ e. precedes_more y v (z ∷ []) (w ∷ []) (m e) (λ f. precedes_head z w [] [] (n e f)))

-- f gives bytes that precede those of greater numbers, from a and below b
abbrev pub Rises : (ℕ → List ℕ) → ℕ → ℕ → Type 0
Rises f a b = (x y : ℕ) → a ≤ x → x < y → y < b → Precedes (f x) (f y)

far_below_rises : Rises far_below (253 ^ 3 - 1200000) (253 ^ 3 - 192786)
far_below_rises x y a l b = precedes_more 3 3 (first_tail x ∷ middle_tail x ∷ last_tail x ∷ [])
    (first_tail y ∷ middle_tail y ∷ last_tail y ∷ []) (omega arith)
    (λ e. three_rise (first_tail x) (middle_tail x) (last_tail x) (first_tail y) (middle_tail y) (last_tail y) (omega arith)
    (λ f. omega arith) (λ f g. omega arith))

well_below_rises : Rises well_below (253 ^ 3 - 192786) (253 ^ 3 - 10668)
well_below_rises x y a l b =
    three_rise (7 + x / 253 / 253 - 253) (middle_tail x) (last_tail x) (7 + y / 253 / 253 - 253) (middle_tail y) (last_tail y)
    (omega arith) (λ f. omega arith) (λ f g. omega arith)

below_rises : Rises below (253 ^ 3 - 10668) (253 ^ 3 - 80)
below_rises x y a l b = precedes_more (49 + x / 253 - 253 ^ 2) (49 + y / 253 - 253 ^ 2) (last_tail x ∷ []) (last_tail y ∷ []) (omega arith)
    (λ e. precedes_head (last_tail x) (last_tail y) [] [] (omega arith))

near_rises : Rises near (253 ^ 3 - 80) (253 ^ 3 + 81)
near_rises x y a l b = precedes_head (129 + x - 253 ^ 3) (129 + y - 253 ^ 3) [] [] (omega arith)

above_rises : Rises above (253 ^ 3 + 81) (253 ^ 3 + 10668)
above_rises x y a l b = precedes_more (210 + x / 253 - 253 ^ 2) (210 + y / 253 - 253 ^ 2) (last_tail x ∷ []) (last_tail y ∷ [])
    (omega arith) (λ e. precedes_head (last_tail x) (last_tail y) [] [] (omega arith))

well_above_rises : Rises well_above (253 ^ 3 + 10668) (253 ^ 3 + 192786)
well_above_rises x y a l b = three_rise (252 + x / 253 / 253 - 253) (middle_tail x) (last_tail x) (252 + y / 253 / 253 - 253)
    (middle_tail y) (last_tail y) (omega arith) (λ f. omega arith) (λ f g. omega arith)

far_above_rises : Rises far_above (253 ^ 3 + 192786) (253 ^ 3 + 1200000)
far_above_rises x y a l b = precedes_more 255 255 (first_tail x ∷ middle_tail x ∷ last_tail x ∷ [])
    (first_tail y ∷ middle_tail y ∷ last_tail y ∷ []) (omega arith)
    (λ e. three_rise (first_tail x) (middle_tail x) (last_tail x) (first_tail y) (middle_tail y) (last_tail y) (omega arith)
    (λ f. omega arith) (λ f g. omega arith))

-- two forms that rise, where the last of one precedes the first of the other
pub glue : (f g : ℕ → List ℕ) (a n b : ℕ) → a < n → n < b → Rises f a n → Rises g n b → Precedes (f (n - 1)) (g n)
    → Rises (split_at n f g) a b
glue f g a n b an nb rf rg join x y ax xy yb = by (cases_lt x n) (cases_lt y n)
  where
    upto : x < n → Precedes (f x) (g n)
    upto l =
        ⊎_elim (λ e. rw e join) (⊎_elim (λ m. precedes_trans (f x) (f (n - 1)) (g n) (rf x (n - 1) ax m (omega arith)) join)
        (λ m. absurd (omega arith))) (cases_order x (n - 1))

    from : x < n → n ≤ y → Precedes (f x) (g y)
    from l m =
        ⊎_elim (λ e. rw (← e) (upto l)) (⊎_elim (λ k. precedes_trans (f x) (g n) (g y) (upto l) (rg n y (omega arith) k yb))
        (λ k. absurd (omega arith))) (cases_order n y)

    by : (x < n) ⊎ (n ≤ x) → (y < n) ⊎ (n ≤ y) → Precedes (split_at n f g x) (split_at n f g y)
    by (inl l) (inl m) = rw (lt-ltb x n l, lt-ltb y n m) (rf x y ax xy m)
    by (inl l) (inr m) = rw (lt-ltb x n l, le-ltb y n m) (from l m)
    by (inr l) (inl m) = absurd (omega arith)
    by (inr l) (inr m) = rw (le-ltb x n l, le-ltb y n m) (rg x y l xy yb)

-- a greater difference has greater bytes
pub differences_rise : Rises difference_bytes (253 ^ 3 - 1200000) (253 ^ 3 + 1200000)
differences_rise =
    glue far_below _ (253 ^ 3 - 1200000) (253 ^ 3 - 192786) (253 ^ 3 + 1200000) (lit< tt) (lit< tt) far_below_rises
    (glue well_below _ (253 ^ 3 - 192786) (253 ^ 3 - 10668) (253 ^ 3 + 1200000) (lit< tt) (lit< tt) well_below_rises
    (glue below _ (253 ^ 3 - 10668) (253 ^ 3 - 80) (253 ^ 3 + 1200000) (lit< tt) (lit< tt) below_rises
    (glue near _ (253 ^ 3 - 80) (253 ^ 3 + 81) (253 ^ 3 + 1200000) (lit< tt) (lit< tt) near_rises
    (glue above _ (253 ^ 3 + 81) (253 ^ 3 + 10668) (253 ^ 3 + 1200000) (lit< tt) (lit< tt) above_rises
    (glue well_above far_above (253 ^ 3 + 10668) (253 ^ 3 + 192786) (253 ^ 3 + 1200000) (lit< tt) (lit< tt) well_above_rises far_above_rises
    (λ s t. refl))
    (λ s t. refl))
    (λ s t. refl))
    (λ s t. refl))
    (λ s t. refl))
    (λ s t. refl)

-- what each difference begins with is above the byte of U+FFFE
abbrev pub Leads : (ℕ → List ℕ) → ℕ → Type 0
Leads f a = (x : ℕ) → a ≤ x → x < 253 ^ 3 + 1200000 → IsOver 2 (f x)

over_split : (n a : ℕ) (f g : ℕ → List ℕ) → ((x : ℕ) → a ≤ x → x < n → IsOver 2 (f x)) → Leads g n → Leads (split_at n f g) a
over_split n a f g h k x l u = cond_both (ltb x n) (f x) (g x) (IsOver 2) (λ t. h x l (ltb-true x n t)) (λ t. k x (ltb-false x n t) u)

pub difference_leads : Leads difference_bytes (253 ^ 3 - 1200000)
difference_leads =
    over_split (253 ^ 3 - 192786) (253 ^ 3 - 1200000) far_below _ (λ x l k. lit< tt)
    (over_split (253 ^ 3 - 10668) (253 ^ 3 - 192786) well_below _ (λ x l k. omega arith)
    (over_split (253 ^ 3 - 80) (253 ^ 3 - 10668) below _ (λ x l k. omega arith)
    (over_split (253 ^ 3 + 81) (253 ^ 3 - 80) near _ (λ x l k. omega arith)
    (over_split (253 ^ 3 + 10668) (253 ^ 3 + 81) above _ (λ x l k. omega arith)
    (over_split (253 ^ 3 + 192786) (253 ^ 3 + 10668) well_above far_above (λ x l k. omega arith) (λ x l k. lit< tt))))))
