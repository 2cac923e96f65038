-- Walks along the elements of a part, whose weights are held against a pattern's.
use Rattle.std.proofs.Common.{◌≡◌, ℕ, List, [], ◌∷◌, ◌++◌, sym, ap, ◌∙◌, append_assoc, append-nil}
use Rattle.icu_table_entries.specs.Elements.{Element}
use Rattle.icu_order_texts.specs.level_weights.Weighings.{Weighing, element_weights, handled_weights}
use Rattle.icu_order_texts.specs.weighting.VariableWeightings.{handled_after}
use Rattle.icu_order_texts.specs.declared.weighting.weighting.VariableWeighting.{VariableWeighting}
use Rattle.icu_order_texts.proofs.level_weights.WeighedLemmas.{none_weighed}

module _ (w : Weighing) where
  abbrev weighed : VariableWeighting → List Element → List ℕ
  weighed v es = handled_weights w (handled_after v es)

  -- those of one more element are those that it is given, and further ones have those that come after it
  pub passed_one : (old new : VariableWeighting) (es : List Element) (x : Element) (given : List ℕ)
      → ((xs : List Element) → element_weights w (es ++ xs) ≡ element_weights w es ++ weighed old xs)
      → ((xs : List Element) → weighed old (x ∷ xs) ≡ given ++ weighed new xs)
      → element_weights w (es ++ x ∷ []) ≡ element_weights w es ++ given
  passed_one old new es x given further next =
      further (x ∷ []) ∙ ap (λ (l : List ℕ). element_weights w es ++ l) (next [] ∙ ap (λ (l : List ℕ). given ++ l) (none_weighed w new) ∙ append-nil given)

  pub passed_further : (old new : VariableWeighting) (es : List Element) (x : Element) (given : List ℕ)
      → ((xs : List Element) → element_weights w (es ++ xs) ≡ element_weights w es ++ weighed old xs)
      → ((xs : List Element) → weighed old (x ∷ xs) ≡ given ++ weighed new xs)
      → (xs : List Element) → element_weights w ((es ++ x ∷ []) ++ xs) ≡ element_weights w (es ++ x ∷ []) ++ weighed new xs
  passed_further old new es x given further next xs =
      ap (element_weights w) (append_assoc es (x ∷ []) xs) ∙ further (x ∷ xs) ∙ ap (λ (l : List ℕ). element_weights w es ++ l) (next xs)
      ∙ sym (append_assoc (element_weights w es) given (weighed new xs))
      ∙ ap (λ (l : List ℕ). l ++ weighed new xs) (sym (passed_one old new es x given further next))

  -- before the first element
  pub begun : (v : VariableWeighting) → ((es : List Element) → element_weights w es ≡ weighed v es) → (xs : List Element) → element_weights w ([] ++ xs) ≡ element_weights w [] ++ weighed v xs
  begun v is xs = is xs ∙ ap (λ (l : List ℕ). l ++ weighed v xs) (sym (is [] ∙ none_weighed w v))
