-- Weights before a level: of elements one after another, and before a higher level.
use Rattle.std.proofs.Common.{◌≡◌, ℕ, ◌-◌, ◌==◌, Bool, true, false, ◌&&◌, cond, not, List, [], ◌∷◌, ◌++◌, map, filter, take, refl, ap, ap₂, sym, ◌∙◌, zero, suc}
use Rattle.std.proofs.lemmas.List.{map-append}
use Rattle.std.proofs.lemmas.List.Elements.{filter-append}
use Rattle.std.specs.List.{list_all}
use Rattle.icu_table_entries.specs.Elements.{Element}
use Rattle.icu_rule_laws.specs.apart_elements.UpperWeights.{compared_weights, has_nonzero, upper_weights, upper_lists}

-- elements whose compared weights are the same have the same weights before each level
map_of_map : {A B C : Type 0} (f : A → B) (g : B → C) (xs : List A) → map g (map f xs) ≡ map (λ x. g (f x)) xs
map_of_map f g [] = refl
map_of_map f g (x ∷ xs) = ap (λ l. g (f x) ∷ l) (map_of_map f g xs)

pub upper_of_same : (n : ℕ) (xs ys : List Element) → map compared_weights xs ≡ map compared_weights ys → upper_lists n xs ≡ upper_lists n ys
upper_of_same n xs ys e =
    ap (filter has_nonzero)
    (sym (map_of_map compared_weights (take (n - 1)) xs) ∙ ap (map (take (n - 1))) e ∙ map_of_map compared_weights (take (n - 1)) ys)

pub upper-append : (n : ℕ) (xs ys : List Element) → upper_lists n (xs ++ ys) ≡ upper_lists n xs ++ upper_lists n ys
upper-append n xs ys =
    ap (filter has_nonzero) (map-append (upper_weights n) xs ys) ∙ filter-append has_nonzero (map (upper_weights n) xs) (map (upper_weights n) ys)

-- ---- before a higher level

module _ (cut : List ℕ → List ℕ) (keeps : (ws : List ℕ) → has_nonzero ws ≡ false → has_nonzero (cut ws) ≡ false) where
  one_cut : (ws : List ℕ) (b : Bool) → has_nonzero ws ≡ b → (wss : List (List ℕ))
      → filter has_nonzero (map cut (filter has_nonzero wss)) ≡ filter has_nonzero (map cut wss)
      → filter has_nonzero (map cut (cond b (ws ∷ filter has_nonzero wss) (filter has_nonzero wss))) ≡ filter has_nonzero (map cut (ws ∷ wss))
  one_cut ws true h wss e = ap (λ l. cond (has_nonzero (cut ws)) (cut ws ∷ l) l) e
  one_cut ws false h wss e = e ∙ ap (λ b. cond b (cut ws ∷ filter has_nonzero (map cut wss)) (filter has_nonzero (map cut wss))) (sym (keeps ws h))

  filter_cut : (wss : List (List ℕ)) → filter has_nonzero (map cut (filter has_nonzero wss)) ≡ filter has_nonzero (map cut wss)
  filter_cut [] = refl
  filter_cut (ws ∷ wss) = one_cut ws (has_nonzero ws) refl wss (filter_cut wss)

-- what has no weight has none among its first ones
none_taken : (k : ℕ) (ws : List ℕ) → list_all (λ w. w == 0) ws ≡ true → list_all (λ w. w == 0) (take k ws) ≡ true
none_taken zero ws h = refl
none_taken (suc k) [] h = refl
none_taken (suc k) (w ∷ ws) h = both (w == 0) _ _ (none_taken k ws) h
  where
    both : (b c d : Bool) → (c ≡ true → d ≡ true) → (b && c) ≡ true → (b && d) ≡ true
    both true c d f e = f e
    both false c d f e = e

turned : (b c : Bool) → (b ≡ true → c ≡ true) → not b ≡ false → not c ≡ false
turned true c f e = ap not (f refl)
turned false c f e = cc

module _ (k n m : ℕ) (shorter : (x : Element) → take k (upper_weights n x) ≡ upper_weights m x) where
  cut_upper : (es : List Element) → map (take k) (map (upper_weights n) es) ≡ map (upper_weights m) es
  cut_upper [] = refl
  cut_upper (x ∷ xs) = ap₂ (λ ws wss. ws ∷ wss) (shorter x) (cut_upper xs)

  pub lower_lists : (es : List Element) → filter has_nonzero (map (take k) (upper_lists n es)) ≡ upper_lists m es
  lower_lists es =
      filter_cut (take k) (λ ws h. turned _ _ (none_taken k ws) h) (map (upper_weights n) es) ∙ ap (filter has_nonzero) (cut_upper es)

  pub upper_lower : (xs ys : List Element) → upper_lists n xs ≡ upper_lists n ys → upper_lists m xs ≡ upper_lists m ys
  upper_lower xs ys e = sym (lower_lists xs) ∙ ap (λ wss. filter has_nonzero (map (take k) wss)) e ∙ lower_lists ys
