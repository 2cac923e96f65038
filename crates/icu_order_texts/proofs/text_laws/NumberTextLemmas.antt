-- Texts that are read as one number are ordered by its value.
use Rattle.std.proofs.Common.{◌≡◌, ◌≢◌, ◌⊎◌, ◌<◌, ℕ, Bool, true, false, List, [], ◌++◌, map, Some, None, if◌then◌else◌, Ordering, Equal, refl, sym, ap, ap₂, ◌∙◌, subst, inl, inr, append-nil}
use Rattle.std.proofs.lemmas.Bool.{cases_eq}
use Rattle.std.proofs.lemmas.List.{length-map}
use Rattle.std.proofs.lemmas.Map.Lookups.{exact_unsigned}
use Rattle.std.specs.Ordering.{nat_cmp}
use Rattle.icu_order_levels.specs.ListOrder.{list_order}
use Rattle.unicode_normalization.specs.Forms.{nfd}
use Rattle.icu_options.specs.declared.settings.Strength.{Strength}
use Rattle.icu_options.specs.declared.settings.Strength.TheVariants.{Identical}
use Rattle.icu_order_levels.specs.Keys.{LevelLists, levels_order, primaries_order}
use Rattle.icu_order_levels.specs.NumberLaws.{IsShortRun}
use Rattle.icu_order_levels.specs.Numbers.{number_weights, value_of, run_weights}
use Rattle.icu_order_levels.proofs.DigitRuns.{one_number}
use Rattle.icu_order_levels.proofs.Order.{same_number}
use Rattle.icu_order_levels.proofs.ReorderedNumbers.{moved_runs_by_value}
use Rattle.icu_table_entries.specs.Elements.{Element, of_primary}
use Rattle.icu_table_provider.specs.CollatorTables.{reorder}
use Rattle.icu_table_provider.specs.well_formed.WellFormedTables.{IsWellFormedTables}
use Rattle.icu_element_reading.specs.TextElements.{digit_of_char, elements_of, number_elements}
use Rattle.icu_element_reading.specs.TextElementLaws.{IsText}
use Rattle.icu_element_reading.proofs.DecomposedLemmas.{IsDecomposedText-nfd}
use Rattle.icu_element_reading.proofs.ReadableLemmas.{well_formed_readable}
use Rattle.icu_order_texts.specs.weighting.Collations.{Collation}
use Rattle.icu_order_texts.specs.weighting.Forms.{compression_of, form_by, is_identical}
use Rattle.icu_order_texts.specs.weighting.Handled.{handled, stayed_elements}
use Rattle.icu_order_texts.specs.weighting.Levels.{weights, primaries, level_lists}
use Rattle.icu_order_texts.specs.ReachableWeights.{IsReachablePrimary}
use Rattle.icu_order_texts.specs.TextOrder.{reading_by, handled_elements, lists_by, text_order}
use Rattle.icu_order_texts.proofs.NumberLists.{number_all, run_leads}
use Rattle.icu_order_texts.proofs.PrimaryWeights.{reachable_primaries}
use Rattle.icu_order_texts.proofs.SpecialBounds.{numeric_low}
use Rattle.icu_order_texts.specs.text_laws.NumberTexts.{IsNumberText, IsDigitText, digits_in}
use Rattle.icu_order_texts.proofs.text_laws.DigitTextLemmas.{some_digit, digits_give, digits_decimal}
use Rattle.icu_order_texts.proofs.text_laws.EquivalentLemmas.{uncounted_tie}
use Rattle.icu_order_texts.proofs.text_laws.StrengthLemmas.{stays}

not_identical : (s : Strength) → s ≢ Identical → is_identical s ≡ false
not_identical Identical n = absurd (n refl)
not_identical _ n = refl

different_order : (v w : ℕ) → v ≢ w → nat_cmp v w ≢ Equal
different_order v w n = λ e. n (exact_unsigned v w e)

numbers_on : (b : Bool) (lead : ℕ) → b ≡ true → (if b then Some lead else None) ≡ Some lead
numbers_on true lead on = refl
numbers_on false lead on = cc

module _ (collation : Collation) (well_formed : IsWellFormedTables collation.tables) where
  open collation use {tables as all, settings}

  abbrev numeric : ℕ
  numeric = all.special.numeric

  -- ---- the primaries of a number

  abbrev primaries_of : List Element → List ℕ
  primaries_of es = primaries (stayed_elements (handled_elements collation false es))

  nothing : primaries_of [] ≡ []
  unfolding handled weights
  nothing = refl

  number_primaries : (ds : List ℕ) → IsShortRun ds → primaries_of (number_elements numeric ds) ≡ run_weights numeric ds
  number_primaries ds short =
      let ws = run_weights numeric ds in
      ap primaries_of (sym (append-nil (map of_primary ws)))
      ∙ (number_all collation well_formed ws (run_leads numeric (numeric_low all well_formed) ds short.digits) []
      ∙ (ap (λ (l : List ℕ). ws ++ l) nothing ∙ append-nil ws))

  -- numbers of one value have the same elements
  same_elements : (ds es : List ℕ) → IsShortRun ds → IsShortRun es → value_of ds ≡ value_of es → number_elements numeric ds ≡ number_elements numeric es
  same_elements ds es p q e =
      ap (map of_primary)
      (one_number numeric ds p.some p.short ∙ (ap (number_weights numeric) e ∙ sym (one_number numeric es q.some q.short)))

  -- ---- the order of two texts by their elements

  abbrev lists : List Element → List ℕ → LevelLists
  lists es text = level_lists (reorder all) (form_by collation) (handled_elements collation false es) text

  abbrev order_of : List Element → List Element → List ℕ → List ℕ → Ordering
  order_of es fs t u = levels_order (compression_of all) (form_by collation) (lists es t) (lists fs u)

  by_elements : (t u : List ℕ) → text_order collation t u
      ≡ order_of (elements_of (reading_by collation) (nfd t)) (elements_of (reading_by collation) (nfd u)) (nfd t) (nfd u)
  unfolding text_order lists_by
  by_elements t u = refl

  module _ (t u ds es : List ℕ) (p : IsNumberText collation t ds) (q : IsNumberText collation u es) where
    as_numbers : text_order collation t u ≡ order_of (number_elements numeric ds) (number_elements numeric es) (nfd t) (nfd u)
    as_numbers = by_elements t u ∙ ap₂ (λ (a b : List Element). order_of a b (nfd t) (nfd u)) p.elements q.elements

    first_level : primaries_order (compression_of all) (lists (number_elements numeric ds) (nfd t)) (lists (number_elements numeric es) (nfd u))
        ≡ nat_cmp (value_of ds) (value_of es)
    first_level =
        ap₂ (λ (a b : List ℕ). list_order (map (reorder all) a) (map (reorder all) b)) (number_primaries ds p.short) (number_primaries es q.short)
        ∙ moved_runs_by_value (compression_of all) numeric (IsReachablePrimary all) (reachable_primaries all well_formed) (numeric_low all well_formed) ds es p.short q.short

    pub different_values : value_of ds ≢ value_of es → text_order collation t u ≡ nat_cmp (value_of ds) (value_of es)
    different_values n =
        as_numbers
        ∙ (stays (primaries_order (compression_of all) (lists (number_elements numeric ds) (nfd t)) (lists (number_elements numeric es) (nfd u))) _
        (λ e. different_order (value_of ds) (value_of es) n (sym first_level ∙ e))
        ∙ first_level)

    same_values : settings.strength ≢ Identical → value_of ds ≡ value_of es → text_order collation t u ≡ nat_cmp (value_of ds) (value_of es)
    same_values below e =
        as_numbers
        ∙ (ap (λ (a : List Element). order_of a (number_elements numeric es) (nfd t) (nfd u)) (same_elements ds es p.short q.short e)
        ∙ (uncounted_tie (compression_of all) (form_by collation) (lists (number_elements numeric es) (nfd t)) (nfd u)
        (not_identical settings.strength below)
        ∙ (sym (same_number (value_of es)) ∙ ap (λ v. nat_cmp v (value_of es)) (sym e))))

    pub order_by_value : settings.strength ≢ Identical → text_order collation t u ≡ nat_cmp (value_of ds) (value_of es)
    order_by_value below = by (cases_eq (value_of ds) (value_of es))
      where
        by : (value_of ds ≡ value_of es) ⊎ (value_of ds ≢ value_of es) → text_order collation t u ≡ nat_cmp (value_of ds) (value_of es)
        by (inl e) = same_values below e
        by (inr n) = different_values n

  -- ---- texts of digits

  pub digits_are_number : settings.numeric ≡ true → (t : List ℕ) → IsText t → IsDigitText all t → IsNumberText collation t (digits_in all t)
  digits_are_number on t text is = record {
    elements = digits_give (reading_by collation) numeric (numbers_on settings.numeric numeric on) (nfd t) is.first is.characters;
    short = record {
      digits = digits_decimal all.tables (well_formed_readable all well_formed) (nfd t) (IsDecomposedText-nfd t text) is.characters;
      some = subst (λ n. 0 < n) (sym (length-map (nfd t) (digit_of_char all.tables))) (some_digit all.tables (nfd t) is.first);
      short = is.short;
    };
  }
