-- Packed nibbles order as nibbles.
use Rattle.std.proofs.Common.{◌≡◌, ℕ, ◌+◌, ◌*◌, ◌/◌, ◌%◌, ◌<◌, List, [], ◌∷◌, ◌++◌, refl, sym, ap, ◌∙◌, inl, inr, ◌⊎◌, ⊎_elim, arith, Less}
use Rattle.std.specs.List.{AllByRecursion}
use Rattle.std.proofs.lemmas.Bool.{cases_order}
use Rattle.icu_order_levels.specs.declared.run_bytes.RunBytes.{RunBytes}
use Rattle.icu_order_levels.specs.ListOrder.{list_order, IsUnder}
use Rattle.icu_order_levels.specs.Runs.{AreRunBytes, IsSpelling, level_bytes}
use Rattle.icu_order_levels.specs.Cases.{packed}
use Rattle.icu_order_levels.proofs.Order.{less_head, alike_head, three_ways, turned, same_lists_order, less_cases}
use Rattle.icu_order_levels.proofs.LevelOrder.{level_less}

-- the 0 that an odd number of nibbles ends in
abbrev pub padding : List ℕ → List ℕ
padding [] = []
padding (x ∷ []) = 0 ∷ []
padding (x ∷ (y ∷ ns)) = padding ns

-- the two halves of each byte
abbrev pub unpacked : List ℕ → List ℕ
unpacked [] = []
unpacked (b ∷ bs) = b / 16 ∷ b % 16 ∷ unpacked bs

unpacked_less : (xs ys : List ℕ) → list_order xs ys ≡ Less → list_order (unpacked xs) (unpacked ys) ≡ Less
unpacked_less [] [] h = cc
unpacked_less [] (y ∷ ys) h = refl
unpacked_less (x ∷ xs) [] h = cc
unpacked_less (x ∷ xs) (y ∷ ys) h = by (less_cases x y xs ys h) (cases_order (x / 16) (y / 16)) (λ l. unpacked_less xs ys l)
  where
    by : (x < y) ⊎ ((x ≡ y) × (list_order xs ys ≡ Less)) → (x / 16 ≡ y / 16) ⊎ ((x / 16 < y / 16) ⊎ (y / 16 < x / 16))
        → (list_order xs ys ≡ Less → list_order (unpacked xs) (unpacked ys) ≡ Less) → list_order (unpacked (x ∷ xs)) (unpacked (y ∷ ys))
        ≡ Less
    by (inl l) (inl e) ih =
        alike_head (x / 16) (y / 16) (x % 16 ∷ unpacked xs) (y % 16 ∷ unpacked ys) e
        ∙ less_head (x % 16) (y % 16) (unpacked xs) (unpacked ys) (omega arith)
    by (inl l) (inr (inl m)) ih = less_head (x / 16) (y / 16) (x % 16 ∷ unpacked xs) (y % 16 ∷ unpacked ys) m
    by (inl l) (inr (inr m)) ih = absurd (omega arith)
    by (inr e) k ih = let same = e.0 in
        alike_head (x / 16) (y / 16) (x % 16 ∷ unpacked xs) (y % 16 ∷ unpacked ys) (ap (λ z. z / 16) same)
        ∙ (alike_head (x % 16) (y % 16) (unpacked xs) (unpacked ys) (ap (λ z. z % 16) same) ∙ ih e.1)

-- the order of bytes is that of their nibbles
pub unpacked_order : (xs ys : List ℕ) → list_order xs ys ≡ list_order (unpacked xs) (unpacked ys)
unpacked_order xs ys =
    ⊎_elim (λ l. l ∙ sym (unpacked_less xs ys l))
    (⊎_elim (λ e. same_lists_order xs ys e ∙ sym (same_lists_order (unpacked xs) (unpacked ys) (ap unpacked e)))
    (λ g. turned xs ys g ∙ sym (turned (unpacked xs) (unpacked ys) (unpacked_less ys xs g))))
    (three_ways xs ys)

pub unpacked_packed : (ns s : List ℕ) → AllByRecursion (λ n. n < 16) ns → unpacked (packed ns ++ s) ≡ ns ++ (padding ns ++ unpacked s)
unpacked_packed [] s p = refl
unpacked_packed (x ∷ []) s p = pair (x * 16 / 16) (x * 16 % 16) x 0 (unpacked s) (omega arith) (omega arith)
  where
    pair : (a b c d : ℕ) (l : List ℕ) → a ≡ c → b ≡ d → a ∷ b ∷ l ≡ c ∷ d ∷ l
    pair a b c d l e f = cc
unpacked_packed (x ∷ (y ∷ ns)) s p =
    pair ((x * 16 + y) / 16) ((x * 16 + y) % 16) x y (unpacked (packed ns ++ s)) (ns ++ (padding ns ++ unpacked s)) (omega (arith, p.1.0))
    (omega (arith, p.1.0)) (unpacked_packed ns s p.1.1)
  where
    pair : (a b c d : ℕ) (l m : List ℕ) → a ≡ c → b ≡ d → l ≡ m → a ∷ b ∷ l ≡ c ∷ d ∷ m
    pair a b c d l m e f g = cc

pad_under : (ns s : List ℕ) → IsUnder 2 s → IsUnder 1 (padding ns ++ unpacked s)
pad_under [] [] u = tt
pad_under [] (b ∷ s) u = omega arith
pad_under (x ∷ []) s u = omega arith
pad_under (x ∷ (y ∷ ns)) s u = pad_under ns s u

-- A level of nibbles: the order of the packed bytes is that of the lists, and then of what follows
module _ (r : RunBytes) (ok : AreRunBytes r) (spell : ℕ → List ℕ) (IsReachable : ℕ → Type 0) (fits : IsSpelling r 0 spell IsReachable)
    (small : (ws : List ℕ) → AllByRecursion IsReachable ws → AllByRecursion (λ n. n < 16) (level_bytes r spell 0 ws)) where
  pub nibbles_less : (vs ws s t : List ℕ) → AllByRecursion IsReachable vs → AllByRecursion IsReachable ws → IsUnder 2 s → list_order vs ws ≡ Less
      → list_order (packed (level_bytes r spell 0 vs) ++ s) (packed (level_bytes r spell 0 ws) ++ t) ≡ Less
  nibbles_less vs ws s t p q u h =
      let ns = level_bytes r spell 0 vs in
      let ms = level_bytes r spell 0 ws in
      unpacked_order (packed ns ++ s) (packed ms ++ t)
      ∙ (ap (λ l. list_order l (unpacked (packed ms ++ t))) (unpacked_packed ns s (small vs p))
      ∙ (ap (λ l. list_order (ns ++ (padding ns ++ unpacked s)) l) (unpacked_packed ms t (small ws q))
      ∙ level_less r ok spell 0 IsReachable fits vs ws 0 (padding ns ++ unpacked s) (padding ms ++ unpacked t) p q (pad_under ns s u) h))
