-- By plain settings the lists of a level are the weights of elements there, but for zeros.
use Rattle.std.proofs.Common.{◌≡◌, inl, inr, ◌≤◌, ◌+◌, ℕ, zero, suc, Bool, true, false, ◌&&◌, ◌||◌, ◌==◌, not, cond, nat_lt, nat_le, List, [], ◌∷◌, ◌++◌, Option, Some, None, map, filter, if◌then◌else◌, refl, ap, ap₂, sym, ◌∙◌, arith, Ordering, Less, Equal}
use Rattle.std.specs.List.{list_any}
use Rattle.std.proofs.lemmas.Bool.{cases_Bool}
use Rattle.std.proofs.lemmas.Bool.Decides.{nat_tests}
use Rattle.unicode_normalization.specs.Forms.{nfd}
use Rattle.icu_options.specs.Metadata.{is_backward}
use Rattle.icu_options.specs.declared.settings.AlternateHandling.{AlternateHandling}
use Rattle.icu_options.specs.declared.settings.CollationCaseFirst.{CollationCaseFirst}
use Rattle.icu_options.specs.declared.settings.Strength.{Strength}
use Rattle.icu_options.specs.declared.settings.Strength.TheVariants.{Primary, Secondary, Tertiary, Quaternary, Identical}
use Rattle.icu_table_entries.specs.Elements.{Element}
use Rattle.icu_table_entries.specs.ElementConditions.{separator_primary, tertiary_of}
use Rattle.icu_table_provider.specs.CollatorTables.{reorder, reorder_by}
use Rattle.icu_table_provider.specs.Reorderings.{Reordering}
use Rattle.icu_order_levels.specs.ListOrder.{list_order}
use Rattle.icu_order_levels.specs.Keys.{primaries_order, secondaries_order, tertiaries_order}
use Rattle.icu_order_levels.specs.declared.forms.CaseForm.{CaseForm}
use Rattle.icu_order_levels.specs.declared.forms.KeyForm.{KeyForm}
use Rattle.icu_order_levels.specs.declared.forms.TertiaryForm.{TertiaryForm}
use Rattle.icu_order_levels.specs.declared.forms.TertiaryForm.TheVariants.{WithoutCase}
use Rattle.icu_order_levels.proofs.Order.{same_lists_order}
use Rattle.icu_element_reading.specs.TextElements.{Reading, non_numeric_reading, elements_of}
use Rattle.icu_element_reading.specs.ReachableTexts.{collator_reading}
use Rattle.icu_order_texts.specs.weighting.Collations.{Collation}
use Rattle.icu_order_texts.specs.weighting.Forms.{case_form, cased_form, compression_of, direction, handling_form, last_variable, last_variable_by}
use Rattle.icu_order_texts.specs.weighting.Handled.{stayed, handled, handled_variable, is_variable, stayed_elements}
use Rattle.icu_order_texts.specs.weighting.Levels.{weights, primaries, primary_of, secondaries, secondary_of, tertiaries}
use Rattle.icu_order_texts.specs.TextOrder.{reading_by, text_order}
use Rattle.icu_order_texts.specs.text_laws.OrderLaws.{strength_rank}
use Rattle.icu_rule_weights.specs.tailoring_numbers.NumberedElements.{element_numbers}
use Rattle.icu_rule_laws.specs.apart_elements.ApartElements.{kept_elements, said_at, elements_by}
use Rattle.icu_rule_laws.specs.apart_elements.ApartElementLaws.{IsWithoutCase}
use Rattle.icu_rule_laws.specs.RelatedTexts.{AreLessElements}
use Rattle.icu_rule_laws.specs.related_texts.PlainOrders.{HasNoVariable, HasPlainSettings, NoTextHasVariable, ReadsPlainly, RelatedTextsOrder, SameTextsTie, plain_elements}
use Rattle.icu_rule_laws.proofs.apart_elements.SaidLemmas.{secondary_decides, secondaries_said, tertiaries_said, levels_tie}
use Rattle.icu_rule_laws.proofs.apart_elements.ApartOrderLemmas.{said_at_first, left_by, right_by, form_of, order_of, primaries_are_less}
use Rattle.icu_rule_laws.proofs.apart_elements.ApartTextLemmas.{by_elements}

-- ---- all elements stay

pub left_false : (b c : Bool) → (b || c) ≡ false → b ≡ false
left_false true c e = cc
left_false false c e = refl

pub right_false : (b c : Bool) → (b || c) ≡ false → c ≡ false
right_false true c e = cc
right_false false c e = e

all_stay : (handling : AlternateHandling) (last : ℕ) (es : List Element) → list_any (is_variable last) es ≡ false
    → stayed_elements (handled handling last false es) ≡ es
unfolding handled
all_stay handling last [] none = refl
all_stay handling last (x ∷ xs) none =
    ap (λ b. stayed_elements (if b then handled_variable handling x.primary ++ handled handling last true xs
    else if false && x.primary == 0 then handled handling last true xs else stayed x ∷ handled handling last false xs))
    (left_false (is_variable last x) (list_any (is_variable last) xs) none)
    ∙ ap (λ es. x ∷ es) (all_stay handling last xs (right_false (is_variable last x) (list_any (is_variable last) xs) none))

-- by nothing that is variable no element is
none_between : (p : ℕ) → (nat_lt separator_primary p && nat_le p 0) ≡ false
none_between p = grind (arith, nat_tests)

none_of_all : (es : List Element) → list_any (is_variable 0) es ≡ false
none_of_all [] = refl
none_of_all (x ∷ xs) = ap (λ b. b || list_any (is_variable 0) xs) (none_between x.primary) ∙ none_of_all xs

pub no_text_has_variable : NoTextHasVariable
no_text_has_variable c t e =
    ap (λ h. list_any (is_variable (last_variable c.tables.special h c.settings.max_variable)) (plain_elements c t)) e
    ∙ none_of_all (plain_elements c t)

-- what a level reads, as it stands
one_read : (b : Bool) (w : ℕ) (ws vs : List ℕ) → ws ≡ vs → (if b then ws else w ∷ ws) ≡ cond (not b) (w ∷ vs) vs
one_read true w ws vs e = e
one_read false w ws vs e = ap (λ us. w ∷ us) e

weights_are : (reads : Element → ℕ) (es : List Element) → weights reads reads es ≡ filter (λ w. not (w == 0)) (map reads es)
unfolding weights
weights_are reads [] = refl
weights_are reads (x ∷ xs) = one_read (reads x == 0) (reads x) _ _ (weights_are reads xs)

as_they_are : (ws : List ℕ) → map (λ p. reorder_by None p) ws ≡ ws
as_they_are [] = refl
as_they_are (w ∷ ws) = ap (λ vs. w ∷ vs) (as_they_are ws)

-- ---- levels

module _ (c : Collation) where
  abbrev AreKept : List Element → Type 0
  AreKept es = list_any (is_variable (last_variable_by c)) es ≡ false

  pub kept_all : (es : List Element) → AreKept es → kept_elements c es ≡ es
  kept_all es none = all_stay c.settings.alternate_handling (last_variable_by c) es none

  primaries_are : (es : List Element) → AreKept es → primaries (kept_elements c es) ≡ element_numbers 1 es
  primaries_are es none = ap primaries (kept_all es none) ∙ weights_are primary_of es

  secondaries_are : (es : List Element) → AreKept es → secondaries (kept_elements c es) ≡ element_numbers 2 es
  secondaries_are es none = ap secondaries (kept_all es none) ∙ weights_are secondary_of es

  tertiaries_are : (es : List Element) → AreKept es → tertiaries WithoutCase (kept_elements c es) ≡ element_numbers 3 es
  tertiaries_are es none = ap (tertiaries WithoutCase) (kept_all es none) ∙ weights_are tertiary_of es

  module _ (xs ys : List Element) (keeps_xs : AreKept xs) (keeps_ys : AreKept ys) (t u : List ℕ) where
    first_less : c.tables.reordering ≡ None → list_order (element_numbers 1 xs) (element_numbers 1 ys) ≡ Less
        → list_order (map (reorder c.tables) (primaries (kept_elements c xs))) (map (reorder c.tables) (primaries (kept_elements c ys))) ≡ Less
    first_less none l =
        ap₂ (λ us vs. list_order (map (reorder c.tables) us) (map (reorder c.tables) vs)) (primaries_are xs keeps_xs) (primaries_are ys keeps_ys)
        ∙ ap (λ (r : Option Reordering). list_order (map (λ p. reorder_by r p) (element_numbers 1 xs)) (map (λ p. reorder_by r p) (element_numbers 1 ys))) none
        ∙ ap₂ list_order (as_they_are (element_numbers 1 xs)) (as_they_are (element_numbers 1 ys)) ∙ l

    first_ties : (f : KeyForm) → element_numbers 1 xs ≡ element_numbers 1 ys
        → primaries_order (compression_of c.tables) (left_by c xs ys t u f) (right_by c xs ys t u f) ≡ Equal
    first_ties f e = same_lists_order _ _ (ap (map (reorder c.tables)) (primaries_are xs keeps_xs ∙ e ∙ sym (primaries_are ys keeps_ys)))

    second_less : (f : KeyForm) (b : Bool) → b ≡ false → list_order (element_numbers 2 xs) (element_numbers 2 ys) ≡ Less
        → secondaries_order (Some (direction b)) (left_by c xs ys t u f) (right_by c xs ys t u f) ≡ Less
    second_less f true w l = cc
    second_less f false w l = ap₂ list_order (secondaries_are xs keeps_xs) (secondaries_are ys keeps_ys) ∙ l

    second_ties : (f : KeyForm) (b : Bool) → b ≡ false → element_numbers 2 xs ≡ element_numbers 2 ys
        → secondaries_order (Some (direction b)) (left_by c xs ys t u f) (right_by c xs ys t u f) ≡ Equal
    second_ties f true w e = cc
    second_ties f false w e = same_lists_order _ _ (secondaries_are xs keeps_xs ∙ e ∙ sym (secondaries_are ys keeps_ys))

    -- the form without case
    abbrev plain_form : Strength → KeyForm
    plain_form s = form_of c xs ys t u None WithoutCase s

    third_less : (s : Strength) → list_order (element_numbers 3 xs) (element_numbers 3 ys) ≡ Less → 2 ≤ strength_rank s
        → tertiaries_order (Some WithoutCase) (left_by c xs ys t u (plain_form s)) (right_by c xs ys t u (plain_form s)) ≡ Less
    third_less Primary l r = absurd (omega arith)
    third_less Secondary l r = absurd (omega arith)
    third_less Tertiary l r = ap₂ list_order (tertiaries_are xs keeps_xs) (tertiaries_are ys keeps_ys) ∙ l
    third_less Quaternary l r = ap₂ list_order (tertiaries_are xs keeps_xs) (tertiaries_are ys keeps_ys) ∙ l
    third_less Identical l r = ap₂ list_order (tertiaries_are xs keeps_xs) (tertiaries_are ys keeps_ys) ∙ l

    third_ties : (s : Strength) → element_numbers 3 xs ≡ element_numbers 3 ys → 2 ≤ strength_rank s
        → tertiaries_order (Some WithoutCase) (left_by c xs ys t u (plain_form s)) (right_by c xs ys t u (plain_form s)) ≡ Equal
    third_ties Primary e r = absurd (omega arith)
    third_ties Secondary e r = absurd (omega arith)
    third_ties Tertiary e r = same_lists_order _ _ (tertiaries_are xs keeps_xs ∙ e ∙ sym (tertiaries_are ys keeps_ys))
    third_ties Quaternary e r = same_lists_order _ _ (tertiaries_are xs keeps_xs ∙ e ∙ sym (tertiaries_are ys keeps_ys))
    third_ties Identical e r = same_lists_order _ _ (tertiaries_are xs keeps_xs ∙ e ∙ sym (tertiaries_are ys keeps_ys))

    -- ---- the order without case

    second_said : (s : Strength) → is_backward c.tables.bits ≡ false → AreLessElements 2 xs ys
        → order_of c xs ys t u None WithoutCase s ≡ said_at s 2
    second_said s w a =
        secondaries_said (compression_of c.tables) (direction (is_backward c.tables.bits)) None WithoutCase (handling_form c.settings.alternate_handling)
        (left_by c xs ys t u (plain_form s)) (right_by c xs ys t u (plain_form s)) s
        (first_ties (plain_form s) (a.same 1 (omega arith) (omega arith)))
        (second_less (plain_form s) (is_backward c.tables.bits) w a.less) refl

    -- whatever case is
    second_decides : (cases : Option CaseForm) (tertiary : TertiaryForm) (s : Strength) → 1 ≤ strength_rank s → is_backward c.tables.bits ≡ false
        → AreLessElements 2 xs ys → order_of c xs ys t u cases tertiary s ≡ Less
    second_decides cases tertiary s r w a =
        secondary_decides (compression_of c.tables) (direction (is_backward c.tables.bits)) cases tertiary (handling_form c.settings.alternate_handling)
        (left_by c xs ys t u (form_of c xs ys t u cases tertiary s)) (right_by c xs ys t u (form_of c xs ys t u cases tertiary s)) s r
        (first_ties (form_of c xs ys t u cases tertiary s) (a.same 1 (omega arith) (omega arith)))
        (second_less (form_of c xs ys t u cases tertiary s) (is_backward c.tables.bits) w a.less)

    third_said : (s : Strength) → is_backward c.tables.bits ≡ false → AreLessElements 3 xs ys
        → order_of c xs ys t u None WithoutCase s ≡ said_at s 3
    third_said s w a =
        tertiaries_said (compression_of c.tables) (direction (is_backward c.tables.bits)) None WithoutCase (handling_form c.settings.alternate_handling)
        (left_by c xs ys t u (plain_form s)) (right_by c xs ys t u (plain_form s)) s
        (first_ties (plain_form s) (a.same 1 (omega arith) (omega arith)))
        (second_ties (plain_form s) (is_backward c.tables.bits) w (a.same 2 (omega arith) (omega arith))) refl
        (third_less s a.less)

    all_tie : (s : Strength) → strength_rank s ≤ 2 → is_backward c.tables.bits ≡ false
        → ((level : ℕ) → 1 ≤ level → level ≤ strength_rank s + 1 → element_numbers level xs ≡ element_numbers level ys)
        → order_of c xs ys t u None WithoutCase s ≡ Equal
    all_tie s l w same =
        levels_tie (compression_of c.tables) (direction (is_backward c.tables.bits)) None WithoutCase (handling_form c.settings.alternate_handling)
        (left_by c xs ys t u (plain_form s)) (right_by c xs ys t u (plain_form s)) s l
        (first_ties (plain_form s) (same 1 (omega arith) (omega arith)))
        (λ r. second_ties (plain_form s) (is_backward c.tables.bits) w (same 2 (omega arith) (omega arith))) refl
        (λ r. third_ties s (same 3 (omega arith) (omega arith)) r)

-- ---- texts

has_rank : (s : Strength) → nat_le 1 (strength_rank s) ≡ true → 1 ≤ strength_rank s
has_rank s e = grind (arith, nat_tests)

has_none : (s : Strength) → nat_le 1 (strength_rank s) ≡ false → strength_rank s ≡ 0
has_none s e = grind (arith, nat_tests)

less_at_second : (s : Strength) → nat_le 1 (strength_rank s) ≡ true → Less ≡ said_at s 2
less_at_second Primary e = cc
less_at_second Secondary e = refl
less_at_second Tertiary e = refl
less_at_second Quaternary e = refl
less_at_second Identical e = refl

reads_plainly : (c : Collation) → ReadsPlainly c → reading_by c ≡ non_numeric_reading c.tables.tables
reads_plainly c plain =
    ap₂ (λ (b l : Bool). collator_reading c.tables (if b then Some c.tables.special.numeric else None) l) plain.digits plain.dots

pub has_plain_elements : (c : Collation) → ReadsPlainly c → (text : List ℕ) → elements_by c text ≡ plain_elements c text
has_plain_elements c plain text = ap (λ (r : Reading). elements_of r (nfd text)) (reads_plainly c plain)

module _ (c : Collation) (t u : List ℕ) (n : ℕ) (plain : HasPlainSettings c n) (keeps_t : HasNoVariable c t) (keeps_u : HasNoVariable c u) where
  -- the order with a case level or without, and with a case first
  abbrev plain_order : Bool → CollationCaseFirst → Ordering
  plain_order level first =
      order_of c (plain_elements c t) (plain_elements c u) (nfd t) (nfd u) (case_form level first) (cased_form level first) c.settings.strength

  by_plain : text_order c t u ≡ plain_order c.settings.case_level c.settings.case_first
  by_plain =
      by_elements c t u
      ∙ ap₂ (λ es fs. order_of c es fs (nfd t) (nfd u) (case_form c.settings.case_level c.settings.case_first)
      (cased_form c.settings.case_level c.settings.case_first) c.settings.strength) (has_plain_elements c plain.reading t) (has_plain_elements c plain.reading u)

  without_case : IsWithoutCase c
      → text_order c t u ≡ order_of c (plain_elements c t) (plain_elements c u) (nfd t) (nfd u) None WithoutCase c.settings.strength
  without_case w = by_plain ∙ ap₂ plain_order w.case_level w.case_first

  far : 3 ≤ n → IsWithoutCase c
  far l = plain.case (omega arith) (λ two. absurd (omega (arith, two)))

  first_text : n ≡ 1 → AreLessElements 1 (plain_elements c t) (plain_elements c u) → text_order c t u ≡ said_at c.settings.strength 1
  first_text one a =
      by_plain
      ∙ primaries_are_less c (plain_elements c t) (plain_elements c u) (nfd t) (nfd u) (case_form c.settings.case_level c.settings.case_first)
      (cased_form c.settings.case_level c.settings.case_first) c.settings.strength
      (first_less c (plain_elements c t) (plain_elements c u) keeps_t keeps_u (nfd t) (nfd u) (plain.scripts one) a.less)
      ∙ sym (said_at_first c.settings.strength)

  second_text : n ≡ 2 → AreLessElements 2 (plain_elements c t) (plain_elements c u) → text_order c t u ≡ said_at c.settings.strength 2
  second_text two a = elim (cases_Bool (nat_le 1 (strength_rank c.settings.strength))) [
    | inl e ↦ by_plain
        ∙ second_decides c (plain_elements c t) (plain_elements c u) keeps_t keeps_u (nfd t) (nfd u) (case_form c.settings.case_level c.settings.case_first)
        (cased_form c.settings.case_level c.settings.case_first) c.settings.strength (has_rank c.settings.strength e)
        (plain.forward (omega (arith, two))) a
        ∙ less_at_second c.settings.strength e
    | inr e ↦ without_case (plain.case (omega (arith, two)) (λ _. has_none c.settings.strength e))
        ∙ second_said c (plain_elements c t) (plain_elements c u) keeps_t keeps_u (nfd t) (nfd u) c.settings.strength (plain.forward (omega (arith, two))) a
  ]

  third_text : 3 ≤ n → AreLessElements 3 (plain_elements c t) (plain_elements c u) → text_order c t u ≡ said_at c.settings.strength 3
  third_text l a =
      without_case (far l)
      ∙ third_said c (plain_elements c t) (plain_elements c u) keeps_t keeps_u (nfd t) (nfd u) c.settings.strength (plain.forward (omega arith)) a

  tied_text : 3 ≤ n → strength_rank c.settings.strength ≤ 2
      → ((level : ℕ) → 1 ≤ level → level ≤ strength_rank c.settings.strength + 1
      → element_numbers level (plain_elements c t) ≡ element_numbers level (plain_elements c u))
      → text_order c t u ≡ Equal
  tied_text l r same =
      without_case (far l)
      ∙ all_tie c (plain_elements c t) (plain_elements c u) keeps_t keeps_u (nfd t) (nfd u) c.settings.strength r (plain.forward (omega arith)) same

pub related_order : RelatedTextsOrder
related_order c t u zero l m plain v w a = absurd (omega arith)
related_order c t u (suc zero) l m plain v w a = first_text c t u 1 plain v w refl a
related_order c t u (suc (suc zero)) l m plain v w a = second_text c t u 2 plain v w refl a
related_order c t u (suc (suc (suc zero))) l m plain v w a = third_text c t u 3 plain v w (omega arith) a
related_order c t u (suc (suc (suc (suc n)))) l m plain v w a = absurd (omega arith)

pub same_tie : SameTextsTie
same_tie c t u n l plain v w r same = tied_text c t u n plain v w l r same
