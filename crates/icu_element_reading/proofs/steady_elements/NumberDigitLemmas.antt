-- Digits of a number that are pushed one by one are a number again, without zeros at the front.
use Rattle.std.proofs.Common.{◌≡◌, ℕ, zero, suc, ◌+◌, ◌<◌, List, [], ◌∷◌, ◌++◌, length, take, All, set, refl, sym, ap, ◌∙◌, subst, arith, length-take}
use Rattle.std.proofs.lemmas.List.{take_more_set}
use Rattle.std.proofs.lemmas.List.Elements.{All-push}
use Rattle.icu_order_levels.specs.Numbers.{without_first_zeros}

-- zeros behind another digit stay
pub zeros_before : (ds ys : List ℕ) → 0 < length (without_first_zeros ds) → without_first_zeros (ds ++ ys) ≡ without_first_zeros ds ++ ys
zeros_before [] ys some = absurd (omega arith)
zeros_before (zero ∷ ds) ys some = zeros_before ds ys some
zeros_before (suc d ∷ ds) ys some = refl

first_kept : (ds : List ℕ) (d : ℕ) → without_first_zeros ds ≡ ds → (length ds ≡ 0 → d ≡ 0 → ⊥) → without_first_zeros (ds ++ d ∷ []) ≡ ds ++ d ∷ []
first_kept [] zero first some = absurd (some refl refl)
first_kept [] (suc d) first some = refl
first_kept (x ∷ ds) d first some =
    zeros_before (x ∷ ds) (d ∷ []) (omega (arith, ap length first)) ∙ ap (λ (l : List ℕ). l ++ d ∷ []) first

module _ (xs : List ℕ) (n d : ℕ) (inside : n < length xs) where
  pub decimal_pushed : All (λ d. d < 10) (take n xs) → d < 10 → All (λ d. d < 10) (take (n + 1) (set xs n d))
  decimal_pushed decimal small =
      subst (All (λ d. d < 10)) (sym (take_more_set xs n d inside)) (All-push (λ d. d < 10) (take n xs) d decimal small)

  pub first_pushed : without_first_zeros (take n xs) ≡ take n xs → (n ≡ 0 → d ≡ 0 → ⊥) → without_first_zeros (take (n + 1) (set xs n d)) ≡ take (n + 1) (set xs n d)
  first_pushed first some =
      rw (take_more_set xs n d inside) (first_kept (take n xs) d first (λ none. some (omega (arith, none, length-take n xs))))
