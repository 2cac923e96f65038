-- The order of two lists of levels that first part at one level, by each strength.
use Rattle.std.proofs.Common.{◌≡◌, ◌≤◌, Option, Some, refl, ap, ◌∙◌, arith, Ordering, Less, Equal}
use Rattle.std.specs.Ordering.{ordering_then}
use Rattle.icu_options.specs.declared.settings.Strength.{Strength}
use Rattle.icu_options.specs.declared.settings.Strength.TheVariants.{Primary, Secondary, Tertiary, Quaternary, Identical}
use Rattle.icu_order_levels.specs.Primaries.{Compression}
use Rattle.icu_order_levels.specs.Keys.{LevelLists, levels_order, primaries_order, secondaries_order, cases_order, tertiaries_order, quaternaries_order, characters_order}
use Rattle.icu_order_levels.specs.declared.forms.CaseForm.{CaseForm}
use Rattle.icu_order_levels.specs.declared.forms.KeyForm.{KeyForm}
use Rattle.icu_order_levels.specs.declared.forms.QuaternaryForm.{QuaternaryForm}
use Rattle.icu_order_levels.specs.declared.forms.SecondaryForm.{SecondaryForm}
use Rattle.icu_order_levels.specs.declared.forms.TertiaryForm.{TertiaryForm}
use Rattle.icu_order_levels.proofs.Orderings.{then_equal}
use Rattle.icu_order_texts.specs.weighting.Forms.{secondary_form, tertiary_form, quaternary_form, is_identical}
use Rattle.icu_order_texts.specs.text_laws.OrderLaws.{strength_rank}
use Rattle.icu_rule_laws.specs.apart_elements.ApartElements.{said_at}

-- the first level decides
first_decides : (o x : Ordering) → o ≡ Less → ordering_then o x ≡ Less
first_decides o x e = ap (λ p. ordering_then p x) e

-- a level that ties hands on
tie_hands_on : (o x y : Ordering) → o ≡ Equal → x ≡ y → ordering_then o x ≡ y
tie_hands_on o x y e f = ap (λ p. ordering_then p x) e ∙ f

module _ (c : Compression) (secondary : SecondaryForm) (cases : Option CaseForm) (tertiary : TertiaryForm) (quaternary : QuaternaryForm) where
  -- the form by a strength
  abbrev pub form_at : Strength → KeyForm
  form_at s = record {
    secondary = secondary_form s secondary;
    cases = cases;
    tertiary = tertiary_form s tertiary;
    quaternary = quaternary_form s quaternary;
    identical = is_identical s;
  }

  module _ (t u : LevelLists) where
    abbrev after_cases : Strength → Ordering
    after_cases s =
        ordering_then (tertiaries_order (tertiary_form s tertiary) t u)
        (ordering_then (quaternaries_order (quaternary_form s quaternary) t u)
        (ordering_then (characters_order (is_identical s) t u) Equal))

    pub primary_decides : (s : Strength) → primaries_order c t u ≡ Less → levels_order c (form_at s) t u ≡ Less
    primary_decides s e = first_decides (primaries_order c t u) _ e

    second_decides : (s : Strength) (x : Ordering) → 1 ≤ strength_rank s → secondaries_order (Some secondary) t u ≡ Less
        → ordering_then (secondaries_order (secondary_form s secondary) t u) x ≡ Less
    second_decides Primary x l e = absurd (omega arith)
    second_decides Secondary x l e = first_decides _ x e
    second_decides Tertiary x l e = first_decides _ x e
    second_decides Quaternary x l e = first_decides _ x e
    second_decides Identical x l e = first_decides _ x e

    -- from the secondary strength on
    pub secondary_decides : (s : Strength) → 1 ≤ strength_rank s → primaries_order c t u ≡ Equal
        → secondaries_order (Some secondary) t u ≡ Less → levels_order c (form_at s) t u ≡ Less
    secondary_decides s l e f = tie_hands_on (primaries_order c t u) _ Less e (second_decides s _ l f)

    -- a tie of the secondaries, where they count
    second_ties : (s : Strength) → secondaries_order (Some secondary) t u ≡ Equal → secondaries_order (secondary_form s secondary) t u ≡ Equal
    second_ties Primary e = refl
    second_ties Secondary e = e
    second_ties Tertiary e = e
    second_ties Quaternary e = e
    second_ties Identical e = e

    third_ties : (s : Strength) → (2 ≤ strength_rank s → tertiaries_order (Some tertiary) t u ≡ Equal) → tertiaries_order (tertiary_form s tertiary) t u ≡ Equal
    third_ties Primary e = refl
    third_ties Secondary e = refl
    third_ties Tertiary e = e (omega arith)
    third_ties Quaternary e = e (omega arith)
    third_ties Identical e = e (omega arith)

    -- what is said where cases tie and no earlier level parts
    second_said : (s : Strength) → secondaries_order (Some secondary) t u ≡ Less → cases_order cases t u ≡ Equal
        → ordering_then (secondaries_order (secondary_form s secondary) t u) (ordering_then (cases_order cases t u) (after_cases s)) ≡ said_at s 2
    second_said Primary e f = tie_hands_on (cases_order cases t u) Equal Equal f refl
    second_said Secondary e f = first_decides _ _ e
    second_said Tertiary e f = first_decides _ _ e
    second_said Quaternary e f = first_decides _ _ e
    second_said Identical e f = first_decides _ _ e

    third_said : (s : Strength) → (2 ≤ strength_rank s → tertiaries_order (Some tertiary) t u ≡ Less) → after_cases s ≡ said_at s 3
    third_said Primary e = refl
    third_said Secondary e = refl
    third_said Tertiary e = first_decides _ _ (e (omega arith))
    third_said Quaternary e = first_decides _ _ (e (omega arith))
    third_said Identical e = first_decides _ _ (e (omega arith))

    fourth_said : (s : Strength) → quaternaries_order (Some quaternary) t u ≡ Less
        → ordering_then (quaternaries_order (quaternary_form s quaternary) t u) (ordering_then (characters_order (is_identical s) t u) Equal) ≡ said_at s 4
    fourth_said Primary e = refl
    fourth_said Secondary e = refl
    fourth_said Tertiary e = refl
    fourth_said Quaternary e = first_decides _ _ e
    fourth_said Identical e = first_decides _ _ e

    pub secondaries_said : (s : Strength) → primaries_order c t u ≡ Equal → secondaries_order (Some secondary) t u ≡ Less
        → cases_order cases t u ≡ Equal → levels_order c (form_at s) t u ≡ said_at s 2
    secondaries_said s e f g = tie_hands_on (primaries_order c t u) _ (said_at s 2) e (second_said s f g)

    -- where no level before them parts, cases come first
    pub primary_after : (s : Strength) → strength_rank s ≡ 0 → primaries_order c t u ≡ Equal
        → levels_order c (form_at s) t u ≡ ordering_then (cases_order cases t u) (said_at s 2)
    primary_after Primary r e = tie_hands_on (primaries_order c t u) _ _ e refl
    primary_after Secondary r e = absurd (omega (arith, r))
    primary_after Tertiary r e = absurd (omega (arith, r))
    primary_after Quaternary r e = absurd (omega (arith, r))
    primary_after Identical r e = absurd (omega (arith, r))

    pub tertiaries_after : (s : Strength) → primaries_order c t u ≡ Equal → secondaries_order (Some secondary) t u ≡ Equal
        → (2 ≤ strength_rank s → tertiaries_order (Some tertiary) t u ≡ Less)
        → levels_order c (form_at s) t u ≡ ordering_then (cases_order cases t u) (said_at s 3)
    tertiaries_after s e f h =
        tie_hands_on (primaries_order c t u) _ _ e (tie_hands_on _ _ _ (second_ties s f) (ap (ordering_then (cases_order cases t u)) (third_said s h)))

    pub tertiaries_said : (s : Strength) → primaries_order c t u ≡ Equal → secondaries_order (Some secondary) t u ≡ Equal
        → cases_order cases t u ≡ Equal → (2 ≤ strength_rank s → tertiaries_order (Some tertiary) t u ≡ Less) → levels_order c (form_at s) t u ≡ said_at s 3
    tertiaries_said s e f g h = tertiaries_after s e f h ∙ ap (λ o. ordering_then o (said_at s 3)) g

    pub quaternaries_after : (s : Strength) → primaries_order c t u ≡ Equal → secondaries_order (Some secondary) t u ≡ Equal
        → (2 ≤ strength_rank s → tertiaries_order (Some tertiary) t u ≡ Equal) → quaternaries_order (Some quaternary) t u ≡ Less
        → levels_order c (form_at s) t u ≡ ordering_then (cases_order cases t u) (said_at s 4)
    quaternaries_after s e f h i =
        tie_hands_on (primaries_order c t u) _ _ e
        (tie_hands_on _ _ _ (second_ties s f)
        (ap (ordering_then (cases_order cases t u)) (tie_hands_on _ _ (said_at s 4) (third_ties s h) (fourth_said s i))))

    fourth_ties : (s : Strength) → quaternaries_order (Some quaternary) t u ≡ Equal → quaternaries_order (quaternary_form s quaternary) t u ≡ Equal
    fourth_ties Primary e = refl
    fourth_ties Secondary e = refl
    fourth_ties Tertiary e = refl
    fourth_ties Quaternary e = e
    fourth_ties Identical e = e

    -- where all levels before the characters tie
    pub characters_said : (s : Strength) → primaries_order c t u ≡ Equal → secondaries_order (Some secondary) t u ≡ Equal
        → cases_order cases t u ≡ Equal → (2 ≤ strength_rank s → tertiaries_order (Some tertiary) t u ≡ Equal)
        → quaternaries_order (Some quaternary) t u ≡ Equal → levels_order c (form_at s) t u ≡ characters_order (is_identical s) t u
    characters_said s e f g h i =
        tie_hands_on (primaries_order c t u) _ (characters_order (is_identical s) t u) e
        (tie_hands_on _ _ (characters_order (is_identical s) t u) (second_ties s f)
        (tie_hands_on (cases_order cases t u) _ (characters_order (is_identical s) t u) g
        (tie_hands_on _ _ (characters_order (is_identical s) t u) (third_ties s h)
        (tie_hands_on _ _ (characters_order (is_identical s) t u) (fourth_ties s i) (then_equal (characters_order (is_identical s) t u))))))

    -- if each level of a strength up to the tertiary one ties
    pub levels_tie : (s : Strength) → strength_rank s ≤ 2 → primaries_order c t u ≡ Equal
        → (1 ≤ strength_rank s → secondaries_order (Some secondary) t u ≡ Equal) → cases_order cases t u ≡ Equal
        → (2 ≤ strength_rank s → tertiaries_order (Some tertiary) t u ≡ Equal) → levels_order c (form_at s) t u ≡ Equal
    levels_tie Primary l e f g h = tie_hands_on (primaries_order c t u) _ Equal e (tie_hands_on (cases_order cases t u) _ Equal g refl)
    levels_tie Secondary l e f g h =
        tie_hands_on (primaries_order c t u) _ Equal e
        (tie_hands_on _ _ Equal (f (omega arith)) (tie_hands_on (cases_order cases t u) _ Equal g refl))
    levels_tie Tertiary l e f g h =
        tie_hands_on (primaries_order c t u) _ Equal e
        (tie_hands_on _ _ Equal (f (omega arith))
        (tie_hands_on (cases_order cases t u) _ Equal g (tie_hands_on _ _ Equal (h (omega arith)) refl)))
    levels_tie Quaternary l e f g h = absurd (omega arith)
    levels_tie Identical l e f g h = absurd (omega arith)
