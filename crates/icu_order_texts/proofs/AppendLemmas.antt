-- The levels of elements one after another.
use Rattle.std.proofs.Common.{◌≡◌, ◌⊎◌, ℕ, Bool, true, false, ◌&&◌, ◌||◌, ◌==◌, nat_lt, nat_le, List, [], ◌∷◌, ◌++◌, Option, Some, None, if◌then◌else◌, refl, ap, sym, ◌∙◌, arith, append_assoc, ⊎_elim}
use Rattle.std.proofs.lemmas.Bool.Decides.{nat_tests}
use Rattle.std.proofs.lemmas.Bool.{not-true}
use Rattle.icu_options.specs.declared.settings.AlternateHandling.{AlternateHandling}
use Rattle.icu_table_entries.specs.Elements.{Element}
use Rattle.icu_table_entries.specs.ElementConditions.{separator_primary, tertiary_of}
use Rattle.icu_order_levels.specs.declared.forms.CaseForm.{CaseForm}
use Rattle.icu_order_levels.specs.declared.forms.TertiaryForm.{TertiaryForm}
use Rattle.icu_order_levels.specs.declared.forms.SecondaryForm.{SecondaryForm}
use Rattle.icu_order_texts.specs.weighting.Handled.{HandledElement, stayed, shifted_primary, handled, handled_variable, is_variable, stayed_elements}
use Rattle.icu_order_texts.specs.TextCuts.{begins_with_primary}
use Rattle.icu_order_texts.specs.weighting.Levels.{weights, cases_in, case_reads, case_rank, tertiaries_in, masked_tertiary, tertiary_in, quaternaries, quaternary_weight}

-- a choice, and then more
chosen : {A : Type 0} (b : Bool) (xs ys zs us vs : List A) → xs ≡ us ++ zs → ys ≡ vs ++ zs → (if b then xs else ys) ≡ (if b then us else vs) ++ zs
chosen true xs ys zs us vs e f = e
chosen false xs ys zs us vs e f = f

-- ---- what a level has

pub weights-append : (reads has : Element → ℕ) (xs ys : List Element) → weights reads has (xs ++ ys) ≡ weights reads has xs ++ weights reads has ys
unfolding weights
weights-append reads has [] ys = refl
weights-append reads has (x ∷ xs) ys =
    let more = weights-append reads has xs ys in
    chosen (reads x == 0) _ _ _ _ _ more (ap (λ ws. has x ∷ ws) more)

pub cases_in-append : (before : Option SecondaryForm) (form : Option CaseForm) (xs ys : List Element)
    → cases_in before form (xs ++ ys) ≡ cases_in before form xs ++ cases_in before form ys
cases_in-append before None xs ys = refl
cases_in-append before (Some form) xs ys = weights-append (case_reads before) (case_rank form) xs ys

pub tertiaries_in-append : (form : Option TertiaryForm) (xs ys : List Element)
    → tertiaries_in form (xs ++ ys) ≡ tertiaries_in form xs ++ tertiaries_in form ys
tertiaries_in-append None xs ys = refl
tertiaries_in-append (Some form) xs ys = weights-append (masked_tertiary form) (tertiary_in form) xs ys

pub quaternaries-append : (reorder : ℕ → ℕ) (hs ks : List HandledElement) → quaternaries reorder (hs ++ ks) ≡ quaternaries reorder hs ++ quaternaries reorder ks
unfolding quaternaries
quaternaries-append reorder [] ks = refl
quaternaries-append reorder (stayed x ∷ hs) ks =
    let more = quaternaries-append reorder hs ks in
    chosen (tertiary_of x == 0) _ _ _ _ _ more (ap (λ ws. quaternary_weight x ∷ ws) more)
quaternaries-append reorder (shifted_primary p ∷ hs) ks = ap (λ ws. reorder p ∷ ws) (quaternaries-append reorder hs ks)

pub stayed_elements-append : (hs ks : List HandledElement) → stayed_elements (hs ++ ks) ≡ stayed_elements hs ++ stayed_elements ks
stayed_elements-append [] ks = refl
stayed_elements-append (stayed x ∷ hs) ks = ap (λ xs. x ∷ xs) (stayed_elements-append hs ks)
stayed_elements-append (shifted_primary p ∷ hs) ks = stayed_elements-append hs ks

-- ---- how elements are handled

-- whether a variable element came last, once elements are handled
unfoldable pub ends_after : ℕ → Bool → List Element → Bool
ends_after last after [] = after
ends_after last after (x ∷ xs) = if is_variable last x || (after && x.primary == 0) then ends_after last true xs else ends_after last false xs

-- what an element's handling gives before more
module _ (x : Element) (gone whole_after whole_not left_after left_not : List HandledElement) (more : Bool → List HandledElement) (at_after at_not : Bool) where
  one_more : (v w : Bool) → whole_after ≡ left_after ++ more at_after → whole_not ≡ left_not ++ more at_not
      → (if v then gone ++ whole_after else if w then whole_after else stayed x ∷ whole_not)
      ≡ (if v then gone ++ left_after else if w then left_after else stayed x ∷ left_not) ++ more (if v || w then at_after else at_not)
  one_more true w e f = ap (λ hs. gone ++ hs) e ∙ sym (append_assoc gone left_after (more at_after))
  one_more false true e f = e
  one_more false false e f = ap (λ hs. stayed x ∷ hs) f

pub handled-append : (handling : AlternateHandling) (last : ℕ) (after : Bool) (xs ys : List Element)
    → handled handling last after (xs ++ ys) ≡ handled handling last after xs ++ handled handling last (ends_after last after xs) ys
unfolding handled ends_after
handled-append handling last after [] ys = refl
handled-append handling last after (x ∷ xs) ys =
    one_more x (handled_variable handling x.primary) _ _ _ _ (λ b. handled handling last b ys) (ends_after last true xs) (ends_after last false xs)
    (is_variable last x) (after && x.primary == 0) (handled-append handling last true xs ys) (handled-append handling last false xs ys)

-- no element is variable where the last variable primary is 0
no_primary : (p : ℕ) → (nat_lt separator_primary p && nat_le p 0) ≡ false
no_primary p = grind (arith, nat_tests)

no_variable : (x : Element) → is_variable 0 x ≡ false
no_variable x = no_primary x.primary

none_after : (xs : List Element) → ends_after 0 false xs ≡ false
unfolding ends_after
none_after [] = refl
none_after (x ∷ xs) = ap (λ b. if b || (false && x.primary == 0) then ends_after 0 true xs else ends_after 0 false xs) (no_variable x) ∙ none_after xs

-- an element with a primary is handled alike, whatever came before
starts_anew : (handling : AlternateHandling) (last : ℕ) (ys : List Element) → begins_with_primary ys ≡ true
    → handled handling last true ys ≡ handled handling last false ys
unfolding handled
starts_anew handling last [] h = refl
starts_anew handling last (y ∷ ys) h =
    ap (λ b. if is_variable last y then handled_variable handling y.primary ++ handled handling last true ys
    else if b then handled handling last true ys else stayed y ∷ handled handling last false ys) (not-true (y.primary == 0) h)

apart_by : (handling : AlternateHandling) (last : ℕ) (ys : List Element) (after : Bool) → begins_with_primary ys ≡ true
    → handled handling last after ys ≡ handled handling last false ys
apart_by handling last ys true h = starts_anew handling last ys h
apart_by handling last ys false h = refl

-- what comes after a place where handling begins anew is handled by itself
pub handled-begun_anew : (handling : AlternateHandling) (last : ℕ) (xs ys : List Element) → (last ≡ 0) ⊎ (begins_with_primary ys ≡ true)
    → handled handling last false (xs ++ ys) ≡ handled handling last false xs ++ handled handling last false ys
handled-begun_anew handling last xs ys h =
    handled-append handling last false xs ys
    ∙ ap (λ hs. handled handling last false xs ++ hs)
    (⊎_elim
    (λ (none : last ≡ 0). ap (λ b. handled handling last b ys) (ap (λ n. ends_after n false xs) none ∙ none_after xs))
    (λ (anew : begins_with_primary ys ≡ true). apart_by handling last ys (ends_after last false xs) anew)
    h)
