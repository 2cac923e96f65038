-- Keys that are put together order one after another.
use Rattle.std.proofs.Common.{◌≡◌, ℕ, ◌+◌, ◌-◌, ◌<◌, ◌≤◌, ◌⊎◌, inl, inr, ⊎_elim, List, [], ◌∷◌, ◌++◌, map, refl, sym, ap, ◌∙◌, arith, append_assoc, Less, Equal, Greater}
use Rattle.std.specs.Ordering.{nat_cmp, ordering_then}
use Rattle.std.proofs.lemmas.Bool.{cases_lt, lt-ltb, le-ltb}
use Rattle.std.proofs.lemmas.List.{map-append}
use Rattle.line_sorts.specs.declared.line_order.Direction.TheVariants.{Ascending, Descending}
use Rattle.icu_order_levels.specs.ListOrder.{list_order, Precedes}
use Rattle.icu_order_levels.proofs.Order.{alike_head, keeps_order, less_cases, less_head, same_front}
use Rattle.line_sorts.specs.fields.JoinedKeys.{AreBytes, DirectedKeysOrder, ended_key, marked}

-- ---- a byte of a key

-- it gets a 1 before it, or it stands by itself
marked_as : (b : ℕ) → ((marked b ≡ 1 ∷ (b + 1) ∷ []) × (b < 2)) ⊎ ((marked b ≡ b ∷ []) × (2 ≤ b))
marked_as b = ⊎_elim (λ low. inl (rw (lt-ltb b 2 low) refl, low)) (λ high. inr (rw (le-ltb b 2 high) refl, high)) (cases_lt b 2)

one_more : (x y : ℕ) (s t : List ℕ) → x < y → list_order (1 ∷ x ∷ s) (1 ∷ y ∷ t) ≡ Less
one_more x y s t l = alike_head 1 1 (x ∷ s) (y ∷ t) refl ∙ less_head x y s t l

-- a lesser one precedes
marked_less : (x y : ℕ) → x < y → Precedes (marked x) (marked y)
marked_less x y l s t = by (marked_as x) (marked_as y) where
  by : ((marked x ≡ 1 ∷ (x + 1) ∷ []) × (x < 2)) ⊎ ((marked x ≡ x ∷ []) × (2 ≤ x))
      → ((marked y ≡ 1 ∷ (y + 1) ∷ []) × (y < 2)) ⊎ ((marked y ≡ y ∷ []) × (2 ≤ y)) → list_order (marked x ++ s) (marked y ++ t) ≡ Less
  by (inl a) (inl b) = rw (a.0, b.0) (one_more (x + 1) (y + 1) s t (omega (arith, l)))
  by (inl a) (inr b) = rw (a.0, b.0) (less_head 1 y ((x + 1) ∷ s) t (omega (arith, b.1)))
  by (inr a) (inl b) = absurd (omega (arith, l, a.1, b.1))
  by (inr a) (inr b) = rw (a.0, b.0) (less_head x y s t l)

-- each is above the end of a key
end_less : (y : ℕ) (s t : List ℕ) → list_order (0 ∷ s) (marked y ++ t) ≡ Less
end_less y s t = by (marked_as y) where
  by : ((marked y ≡ 1 ∷ (y + 1) ∷ []) × (y < 2)) ⊎ ((marked y ≡ y ∷ []) × (2 ≤ y)) → list_order (0 ∷ s) (marked y ++ t) ≡ Less
  by (inl b) = rw b.0 (less_head 0 1 s ((y + 1) ∷ t) (omega arith))
  by (inr b) = rw b.0 (less_head 0 y s t (omega (arith, b.1)))

-- ---- keys

pub ended_less : (x y s t : List ℕ) → list_order x y ≡ Less → list_order (ended_key x ++ s) (ended_key y ++ t) ≡ Less
ended_less [] [] s t h = absurd (cc)
ended_less [] (y ∷ ys) s t h = ap (λ l. list_order (0 ∷ s) l) (append_assoc (marked y) (ended_key ys) t) ∙ end_less y s (ended_key ys ++ t)
ended_less (x ∷ xs) [] s t h = absurd (cc)
ended_less (x ∷ xs) (y ∷ ys) s t h =
    ap (λ l. list_order l (ended_key (y ∷ ys) ++ t)) (append_assoc (marked x) (ended_key xs) s)
    ∙ (ap (λ l. list_order (marked x ++ (ended_key xs ++ s)) l) (append_assoc (marked y) (ended_key ys) t)
    ∙ ⊎_elim (λ l. marked_less x y l (ended_key xs ++ s) (ended_key ys ++ t))
    (λ p. ap (λ b. list_order (marked b ++ (ended_key xs ++ s)) (marked y ++ (ended_key ys ++ t))) p.0
    ∙ (same_front (marked y) (ended_key xs ++ s) (ended_key ys ++ t) ∙ ended_less xs ys s t p.1))
    (less_cases x y xs ys h))

-- ---- keys whose bytes are taken from 255

abbrev turned : List ℕ → List ℕ
turned bs = map (λ b. 255 - b) bs

turned_marked_less : (x y : ℕ) → x < y → y < 256 → Precedes (turned (marked y)) (turned (marked x))
turned_marked_less x y l small s t = by (marked_as x) (marked_as y) where
  by : ((marked x ≡ 1 ∷ (x + 1) ∷ []) × (x < 2)) ⊎ ((marked x ≡ x ∷ []) × (2 ≤ x))
      → ((marked y ≡ 1 ∷ (y + 1) ∷ []) × (y < 2)) ⊎ ((marked y ≡ y ∷ []) × (2 ≤ y))
      → list_order (turned (marked y) ++ s) (turned (marked x) ++ t) ≡ Less
  by (inl a) (inl b) =
      rw (a.0, b.0) (alike_head 254 254 ((255 - (y + 1)) ∷ s) ((255 - (x + 1)) ∷ t) refl
      ∙ less_head (255 - (y + 1)) (255 - (x + 1)) s t (omega (arith, l, a.1, b.1)))
  by (inl a) (inr b) = rw (a.0, b.0) (less_head (255 - y) 254 s ((255 - (x + 1)) ∷ t) (omega (arith, b.1)))
  by (inr a) (inl b) = absurd (omega (arith, l, a.1, b.1))
  by (inr a) (inr b) = rw (a.0, b.0) (less_head (255 - y) (255 - x) s t (omega (arith, l, small)))

turned_end_less : (y : ℕ) (s t : List ℕ) → list_order (turned (marked y) ++ s) (255 ∷ t) ≡ Less
turned_end_less y s t = by (marked_as y) where
  by : ((marked y ≡ 1 ∷ (y + 1) ∷ []) × (y < 2)) ⊎ ((marked y ≡ y ∷ []) × (2 ≤ y)) → list_order (turned (marked y) ++ s) (255 ∷ t) ≡ Less
  by (inl b) = rw b.0 (less_head 254 255 ((255 - (y + 1)) ∷ s) t (omega arith))
  by (inr b) = rw b.0 (less_head (255 - y) 255 s t (omega (arith, b.1)))

-- a byte before others, taken from 255, and more behind them
parted : (b : ℕ) (bs s : List ℕ) → turned (ended_key (b ∷ bs)) ++ s ≡ turned (marked b) ++ (turned (ended_key bs) ++ s)
parted b bs s =
    ap (λ l. l ++ s) (map-append (λ (c : ℕ). 255 - c) (marked b) (ended_key bs)) ∙ append_assoc (turned (marked b)) (turned (ended_key bs)) s

pub turned_less : (x y s t : List ℕ) → AreBytes x → AreBytes y → list_order x y ≡ Less
    → list_order (turned (ended_key y) ++ s) (turned (ended_key x) ++ t) ≡ Less
turned_less [] [] s t p q h = absurd (cc)
turned_less [] (y ∷ ys) s t p q h = ap (λ l. list_order l (255 ∷ t)) (parted y ys s) ∙ turned_end_less y (turned (ended_key ys) ++ s) t
turned_less (x ∷ xs) [] s t p q h = absurd (cc)
turned_less (x ∷ xs) (y ∷ ys) s t p q h =
    ap (λ l. list_order l (turned (ended_key (x ∷ xs)) ++ t)) (parted y ys s)
    ∙ (ap (λ l. list_order (turned (marked y) ++ (turned (ended_key ys) ++ s)) l) (parted x xs t)
    ∙ ⊎_elim (λ l. turned_marked_less x y l q.0 (turned (ended_key ys) ++ s) (turned (ended_key xs) ++ t))
    (λ r. ap (λ b. list_order (turned (marked y) ++ (turned (ended_key ys) ++ s)) (turned (marked b) ++ (turned (ended_key xs) ++ t))) r.0
    ∙ (same_front (turned (marked y)) (turned (ended_key ys) ++ s) (turned (ended_key xs) ++ t) ∙ turned_less xs ys s t p.1 q.1 r.1))
    (less_cases x y xs ys h))

-- ---- both directions

pub directed_order : DirectedKeysOrder
directed_order Ascending x y s t p q =
    keeps_order x y (ended_key x) (ended_key y) s t (ended_less x y s t) (ended_less y x t s) (ap ended_key)
directed_order Descending x y s t p q =
    keeps_order y x (turned (ended_key x)) (turned (ended_key y)) s t (turned_less y x s t q p) (turned_less x y t s p q)
    (λ e. ap (λ k. turned (ended_key k)) (sym e))
