-- Texts order as their elements do.
use Rattle.std.proofs.Common.{◌≡◌, ◌≤◌, ◌+◌, ℕ, Bool, List, [], ◌∷◌, map, refl, ap, ap₂, sym, ◌∙◌, Ordering, Less}
use Rattle.std.specs.Ordering.{ordering_then}
use Rattle.unicode_normalization.specs.Forms.{nfd}
use Rattle.icu_options.specs.declared.settings.CollationCaseFirst.{CollationCaseFirst}
use Rattle.icu_table_entries.specs.Elements.{Element}
use Rattle.icu_table_provider.specs.CollatorTables.{reorder}
use Rattle.icu_order_levels.specs.ListOrder.{list_order, IsUnder}
use Rattle.icu_order_levels.specs.Keys.{characters_order}
use Rattle.icu_order_levels.specs.declared.forms.TertiaryForm.TheVariants.{WithoutCase}
use Rattle.icu_order_levels.proofs.Order.{less_head}
use Rattle.icu_order_texts.specs.weighting.Collations.{Collation}
use Rattle.icu_order_texts.specs.weighting.Forms.{case_form, cased_form, is_identical, last_variable_by}
use Rattle.icu_order_texts.specs.weighting.Handled.{handled}
use Rattle.icu_order_texts.specs.weighting.Levels.{weights, primaries, primary_of}
use Rattle.icu_order_texts.specs.TextOrder.{lists_by, text_order}
use Rattle.icu_order_texts.specs.text_laws.OrderLaws.{strength_rank}
use Rattle.icu_rule_laws.specs.apart_elements.UpperWeights.{upper_lists}
use Rattle.icu_rule_laws.specs.apart_elements.ApartElements.{AreOneApart, SettingsDecide, kept_elements, said_at, elements_by}
use Rattle.icu_rule_laws.specs.apart_elements.ApartElementLaws.{IsWithoutCase, HasFirstPrimary, case_order, ApartTextsAreLess, ApartTextsOrder, ApartTextsOrderAfterCase, AlikeTextsOrder, LesserPrimariesOrder}
use Rattle.icu_rule_laws.proofs.apart_elements.ApartLevelLemmas.{weights_between}
use Rattle.icu_rule_laws.proofs.apart_elements.ApartOrderLemmas.{left_by, right_by, form_of, order_of, cases_by, apart_is_less, apart_after_case, apart_is_said, alike_is_said, primaries_are_less}

module _ (c : Collation) (t u : List ℕ) where
  -- the order with a case level or without, and with a case first
  abbrev pub order_at : Bool → CollationCaseFirst → Ordering
  order_at level first =
      order_of c (elements_by c t) (elements_by c u) (nfd t) (nfd u) (case_form level first) (cased_form level first) c.settings.strength

  -- that of the characters
  abbrev characters_at : Bool → CollationCaseFirst → Ordering
  characters_at level first =
      characters_order (is_identical c.settings.strength)
      (left_by c (elements_by c t) (elements_by c u) (nfd t) (nfd u)
      (form_of c (elements_by c t) (elements_by c u) (nfd t) (nfd u) (case_form level first) (cased_form level first) c.settings.strength))
      (right_by c (elements_by c t) (elements_by c u) (nfd t) (nfd u)
      (form_of c (elements_by c t) (elements_by c u) (nfd t) (nfd u) (case_form level first) (cased_form level first) c.settings.strength))

  pub by_elements : text_order c t u ≡ order_at c.settings.case_level c.settings.case_first
  unfolding text_order lists_by
  by_elements = refl

  by_characters : characters_order (is_identical c.settings.strength) (lists_by c (nfd t)) (lists_by c (nfd u))
      ≡ characters_at c.settings.case_level c.settings.case_first
  unfolding lists_by
  by_characters = refl

  less_text : (n : ℕ) → 1 ≤ n → n ≤ 2 → n ≤ strength_rank c.settings.strength + 1
      → (a : AreOneApart n (elements_by c t) (elements_by c u)) → SettingsDecide c n a → text_order c t u ≡ Less
  less_text n l m r a d =
      by_elements
      ∙ apart_is_less c (elements_by c t) (elements_by c u) (nfd t) (nfd u) (case_form c.settings.case_level c.settings.case_first)
      (cased_form c.settings.case_level c.settings.case_first) c.settings.strength n l m r a d

  said_text : (n : ℕ) → 1 ≤ n → n ≤ 4 → IsWithoutCase c
      → (a : AreOneApart n (elements_by c t) (elements_by c u)) → SettingsDecide c n a → text_order c t u ≡ said_at c.settings.strength n
  said_text n l m w a d =
      by_elements ∙ ap₂ order_at w.case_level w.case_first
      ∙ apart_is_said c (elements_by c t) (elements_by c u) (nfd t) (nfd u) c.settings.strength n l m a d

  by_cases : case_order c t u
      ≡ cases_by c (elements_by c t) (elements_by c u) (nfd t) (nfd u) (case_form c.settings.case_level c.settings.case_first)
      (cased_form c.settings.case_level c.settings.case_first) c.settings.strength
  unfolding lists_by
  by_cases = refl

  after_case_text : (n : ℕ) → 2 ≤ n → n ≤ 4 → (n ≡ 2 → strength_rank c.settings.strength ≡ 0)
      → cased_form c.settings.case_level c.settings.case_first ≡ WithoutCase
      → (a : AreOneApart n (elements_by c t) (elements_by c u)) → SettingsDecide c n a
      → text_order c t u ≡ ordering_then (case_order c t u) (said_at c.settings.strength n)
  after_case_text n l m r w a d =
      let cases = case_form c.settings.case_level c.settings.case_first in
      by_elements ∙ ap (λ f. order_of c (elements_by c t) (elements_by c u) (nfd t) (nfd u) cases f c.settings.strength) w
      ∙ apart_after_case c (elements_by c t) (elements_by c u) (nfd t) (nfd u) cases c.settings.strength n l m r a d
      ∙ sym (ap (λ f. ordering_then (cases_by c (elements_by c t) (elements_by c u) (nfd t) (nfd u) cases f c.settings.strength) (said_at c.settings.strength n)) w)
      ∙ sym (ap (λ o. ordering_then o (said_at c.settings.strength n)) by_cases)

  alike_text : IsWithoutCase c → upper_lists 5 (elements_by c t) ≡ upper_lists 5 (elements_by c u)
      → text_order c t u ≡ characters_order (is_identical c.settings.strength) (lists_by c (nfd t)) (lists_by c (nfd u))
  alike_text w e =
      by_elements ∙ ap₂ order_at w.case_level w.case_first
      ∙ alike_is_said c (elements_by c t) (elements_by c u) (nfd t) (nfd u) c.settings.strength e
      ∙ sym (ap₂ characters_at w.case_level w.case_first) ∙ sym by_characters

  -- ---- texts up to a position

  under_less : (w : ℕ) (us vs : List ℕ) → IsUnder w us → list_order us (w ∷ vs) ≡ Less
  under_less w [] vs h = refl
  under_less w (x ∷ us) vs h = less_head x w us vs h

  first_primary : (first : Element) (b : HasFirstPrimary c u first)
      → primaries (kept_elements c (elements_by c u)) ≡ first.primary ∷ primaries (kept_elements c b.rest)
  unfolding handled weights
  first_primary first b =
      weights_between c.settings.alternate_handling (last_variable_by c) primary_of [] b.rest (elements_by c u) first b.elements b.stays b.counts

  lesser_text : (first : Element) → HasFirstPrimary c u first
      → IsUnder (reorder c.tables first.primary) (map (reorder c.tables) (primaries (kept_elements c (elements_by c t)))) → text_order c t u ≡ Less
  lesser_text first b h =
      by_elements
      ∙ primaries_are_less c (elements_by c t) (elements_by c u) (nfd t) (nfd u) (case_form c.settings.case_level c.settings.case_first)
      (cased_form c.settings.case_level c.settings.case_first) c.settings.strength
      (ap (λ ws. list_order (map (reorder c.tables) (primaries (kept_elements c (elements_by c t)))) (map (reorder c.tables) ws)) (first_primary first b)
      ∙ under_less (reorder c.tables first.primary) (map (reorder c.tables) (primaries (kept_elements c (elements_by c t)))) _ h)

pub texts_are_less : ApartTextsAreLess
texts_are_less c t u n l m r a d = less_text c t u n l m r a d

pub texts_are_said : ApartTextsOrder
texts_are_said c t u n l m w a d = said_text c t u n l m w a d

pub texts_after_case : ApartTextsOrderAfterCase
texts_after_case c t u n l m r w a d = after_case_text c t u n l m r w a d

pub alike_texts : AlikeTextsOrder
alike_texts c t u w e = alike_text c t u w e

pub lesser_texts : LesserPrimariesOrder
lesser_texts c t u first b h = lesser_text c t u first b h
