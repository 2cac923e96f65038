-- An element that stays, and what is read of the elements before and after it.
use Rattle.std.proofs.Common.{◌≡◌, ◌<◌, ℕ, Bool, true, false, ◌&&◌, ◌==◌, List, [], ◌∷◌, ◌++◌, if◌then◌else◌, refl, ap, ap₂, sym, ◌∙◌, Less}
use Rattle.std.proofs.lemmas.List.{append_cancel_left}
use Rattle.icu_options.specs.declared.settings.AlternateHandling.{AlternateHandling}
use Rattle.icu_table_entries.specs.Elements.{Element}
use Rattle.icu_order_levels.specs.ListOrder.{list_order}
use Rattle.icu_order_levels.proofs.Order.{same_front, less_head}
use Rattle.icu_order_texts.specs.weighting.Handled.{HandledElement, stayed, handled, handled_variable, is_variable, stayed_elements}
use Rattle.icu_order_texts.proofs.AppendLemmas.{ends_after, handled-append, stayed_elements-append}
use Rattle.icu_order_texts.proofs.HandledLemmas.{none_stayed}

module _ (handling : AlternateHandling) (last : ℕ) (x : Element) where
  stays_by : (v w : Bool) (us vs : List HandledElement)
      → stayed_elements (if v then handled_variable handling x.primary ++ [] else if w then [] else stayed x ∷ []) ≡ x ∷ []
      → (if v then handled_variable handling x.primary ++ us else if w then us else stayed x ∷ vs) ≡ stayed x ∷ vs
  stays_by true w us vs e = absurd (nothing (sym (none_stayed handling x.primary []) ∙ e))
    where
      nothing : [] ≡ x ∷ [] → ⊥
      nothing f = cc
  stays_by false true us vs e = cc
  stays_by false false us vs e = refl

  stays_here : (after : Bool) (rest : List Element) → stayed_elements (handled handling last after (x ∷ [])) ≡ x ∷ []
      → handled handling last after (x ∷ rest) ≡ stayed x ∷ handled handling last false rest
  unfolding handled
  stays_here after rest e = stays_by (is_variable last x) (after && x.primary == 0) _ _ e

  pub stays_between : (front rest : List Element)
      → stayed_elements (handled handling last false (front ++ x ∷ [])) ≡ stayed_elements (handled handling last false front) ++ x ∷ []
      → handled handling last false (front ++ x ∷ rest) ≡ handled handling last false front ++ stayed x ∷ handled handling last false rest
  stays_between front rest e =
      let after = ends_after last false front in
      let before = handled handling last false front in
      handled-append handling last false front (x ∷ rest)
      ∙ ap (λ hs. before ++ hs)
      (stays_here after rest (append_cancel_left (stayed_elements before) _ _
      (sym (stayed_elements-append before (handled handling last after (x ∷ [])))
      ∙ ap stayed_elements (sym (handled-append handling last false front (x ∷ []))) ∙ e)))

-- lists that part at a lesser number
pub parted_order : (fs gs xs ys us vs : List ℕ) (a b : ℕ) → fs ≡ gs → a < b → us ≡ fs ++ a ∷ xs → vs ≡ gs ++ b ∷ ys → list_order us vs ≡ Less
parted_order fs gs xs ys us vs a b e l f g =
    ap₂ list_order (f ∙ ap (λ hs. hs ++ a ∷ xs) e) g ∙ same_front gs (a ∷ xs) (b ∷ ys) ∙ less_head a b xs ys l
