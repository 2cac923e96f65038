-- Keys keep the order of texts.
use Rattle.std.proofs.Common.{◌≡◌, ◌↔◌, ℕ, ◌<◌, Bool, true, false, not, List, Some, None, Equal, refl, sym, ◌∙◌, arith}
use Rattle.std.proofs.lemmas.Bool.Decides.{nat_tests}
use Rattle.std.specs.Char.{IsScalar}
use Rattle.std.specs.List.{AllByRecursion}
use Rattle.unicode_normalization.specs.Forms.{nfd}
use Rattle.icu_options.specs.Metadata.{is_backward}
use Rattle.icu_options.specs.declared.settings.Strength.{Strength}
use Rattle.icu_options.specs.declared.settings.Strength.TheVariants.{Primary, Secondary, Tertiary, Quaternary, Identical}
use Rattle.icu_options.specs.declared.settings.AlternateHandling.{AlternateHandling}
use Rattle.icu_options.specs.declared.settings.AlternateHandling.TheVariants.{NonIgnorable, Shifted, Blanked}
use Rattle.icu_options.specs.declared.settings.MaxVariable.{MaxVariable}
use Rattle.icu_order_levels.specs.ListOrder.{list_order}
use Rattle.icu_order_levels.specs.KeyLaws.{HaveSameLists}
use Rattle.icu_order_levels.specs.KeyPremises.{AreWeights, AreLists, AreParallel}
use Rattle.icu_order_levels.specs.declared.forms.QuaternaryForm.{QuaternaryForm}
use Rattle.icu_order_levels.specs.declared.forms.QuaternaryForm.TheVariants.{MayShift, Unshifted}
use Rattle.icu_order_levels.specs.declared.forms.SecondaryForm.TheVariants.{Backward}
use Rattle.icu_order_levels.specs.declared.forms.TertiaryForm.{TertiaryForm}
use Rattle.icu_order_levels.proofs.Order.{same_lists_order, tied_lists}
use Rattle.icu_order_levels.proofs.KeyOrder.{keys_order}
use Rattle.icu_order_levels.proofs.SameKeys.{same_levels, same_keys}
use Rattle.icu_table_entries.specs.Elements.{Element}
use Rattle.icu_table_data.proofs.CharLemmas.{scalar_below}
use Rattle.icu_table_data.proofs.ListLemmas.{weaker}
use Rattle.icu_table_provider.specs.well_formed.WellFormedTables.{IsWellFormedTables}
use Rattle.icu_element_reading.specs.TextElements.{elements_of}
use Rattle.icu_element_reading.specs.TextParts.{IsDecomposed}
use Rattle.icu_element_reading.proofs.DecomposedLemmas.{IsDecomposedText-nfd}
use Rattle.icu_order_texts.specs.weighting.Collations.{Collation}
use Rattle.icu_order_texts.specs.weighting.Handled.{is_variable, handled}
use Rattle.icu_order_texts.specs.weighting.Forms.{compression_of, direction, secondary_form, tertiary_form, quaternary_form, handling_form, form_by, last_variable, last_variable_by}
use Rattle.icu_order_texts.specs.TextOrder.{reading_by, handled_by, lists_by, text_order, text_key}
use Rattle.icu_order_texts.specs.ReachableWeights.{IsReachablePrimary, reachable_weights}
use Rattle.icu_order_texts.specs.TextOrderLaws.{LevelsKeep}
use Rattle.icu_order_texts.proofs.HandledLemmas.{HoldsOf, handled_hold}
use Rattle.icu_order_texts.proofs.FormWeights.{weights_reachable}
use Rattle.icu_order_texts.proofs.SpecialBounds.{under}
use Rattle.icu_order_texts.proofs.TextSources.{IsSource, text_sources, text_stands}
use Rattle.icu_order_texts.proofs.ElementHalves.{variable_reachable}
use Rattle.icu_order_texts.proofs.TextMembers.{AreHandled, lists_reachable}
use Rattle.icu_order_texts.proofs.TextTies.{texts_parallel}
use Rattle.icu_order_texts.proofs.EachLevel.{levels_keep}

-- ---- forms that settings name

backward_named : (s : Strength) (b : Bool) → secondary_form s (direction b) ≡ Some Backward → not b ≡ false
backward_named s true e = refl
backward_named Primary false e = cc
backward_named Secondary false e = cc
backward_named Tertiary false e = cc
backward_named Quaternary false e = cc
backward_named Identical false e = cc

never_unshifted : (s : Strength) → quaternary_form s MayShift ≡ Some Unshifted → ⊥
never_unshifted Primary e = cc
never_unshifted Secondary e = cc
never_unshifted Tertiary e = cc
never_unshifted Quaternary e = cc
never_unshifted Identical e = cc

-- a key with quaternaries has tertiaries
tertiaries_before : (s : Strength) (form : TertiaryForm) (q : QuaternaryForm) → tertiary_form s form ≡ None → quaternary_form s q ≡ Some Unshifted → ⊥
tertiaries_before Primary form q e i = cc
tertiaries_before Secondary form q e i = cc
tertiaries_before Tertiary form q e i = cc
tertiaries_before Quaternary form q e i = cc
tertiaries_before Identical form q e i = cc

none_variable : (x : Element) → is_variable 0 x ≡ true → ⊥
none_variable x v = grind (arith, nat_tests)

module _ (collation : Collation) (well_formed : IsWellFormedTables collation.tables) where
  open collation use {tables as all, settings}

  -- ---- what the theorem on keys asks of texts

  none_shifted : (handling : AlternateHandling) (s : Strength) (group : MaxVariable) (es : List Element) → AllByRecursion (IsSource all) es
      → quaternary_form s (handling_form handling) ≡ Some Unshifted
      → AllByRecursion (HoldsOf (IsSource all) (λ p. ⊥)) (handled handling (last_variable all.special handling group) false es)
  none_shifted NonIgnorable s group es h e = handled_hold (IsSource all) (λ p. ⊥) NonIgnorable 0 (λ x _ v. none_variable x v) false es h
  none_shifted Shifted s group es h e = absurd (never_unshifted s e)
  none_shifted Blanked s group es h e = absurd (never_unshifted s e)

  text_handled : (cs : List ℕ) → AllByRecursion IsScalar cs → AreHandled all well_formed (form_by collation).quaternary (handled_by collation (nfd cs))
  text_handled cs scalars =
      let es = elements_of (reading_by collation) (nfd cs) in
      let sources = text_sources collation well_formed cs scalars in
      record {
        primaries = text_stands collation well_formed cs scalars false;
        members = handled_hold (IsSource all) (IsReachablePrimary all) settings.alternate_handling (last_variable_by collation)
            (variable_reachable all well_formed (last_variable_by collation) (under collation well_formed)) false es sources;
        none_shifted = none_shifted settings.alternate_handling settings.strength settings.max_variable es sources;
      }

  characters : (cs : List ℕ) → AllByRecursion IsScalar cs → AllByRecursion (λ c. c < 0x110000) (nfd cs)
  characters cs scalars = weaker IsDecomposed (λ c. c < 0x110000) (λ c d. scalar_below c d.scalar) (nfd cs) (IsDecomposedText-nfd cs scalars)

  pub weights_well_formed : AreWeights (compression_of all) (form_by collation) (reachable_weights all (form_by collation))
  weights_well_formed = weights_reachable all well_formed (form_by collation) (backward_named settings.strength (is_backward all.bits))

  pub lists_well_formed : (cs : List ℕ) → AllByRecursion IsScalar cs
      → AreLists (form_by collation) (reachable_weights all (form_by collation)) (lists_by collation (nfd cs))
  unfolding lists_by
  lists_well_formed cs scalars =
      lists_reachable all well_formed (form_by collation) (handled_by collation (nfd cs)) (nfd cs) (text_handled cs scalars) (characters cs scalars)

  pub lists_parallel : (t u : List ℕ) → AllByRecursion IsScalar t → AllByRecursion IsScalar u
      → AreParallel (compression_of all) (form_by collation) (lists_by collation (nfd t)) (lists_by collation (nfd u))
  unfolding lists_by
  lists_parallel t u p q =
      texts_parallel all well_formed (form_by collation) (handled_by collation (nfd t)) (handled_by collation (nfd u)) (nfd t) (nfd u)
      (text_handled t p) (text_handled u q) (tertiaries_before settings.strength _ _)

  -- ---- the theorem

  module _ (t u : List ℕ) (p : AllByRecursion IsScalar t) (q : AllByRecursion IsScalar u) where
    pub keys_keep : list_order (text_key collation t) (text_key collation u) ≡ text_order collation t u
    unfolding text_order text_key
    keys_keep =
        keys_order (compression_of all) (form_by collation) (reachable_weights all (form_by collation)) (lists_by collation (nfd t))
        (lists_by collation (nfd u)) weights_well_formed (lists_well_formed t p) (lists_well_formed u q) (lists_parallel t u p q)

    pub equal_keys : (text_order collation t u ≡ Equal) ↔ (text_key collation t ≡ text_key collation u)
    equal_keys = (
      λ e. tied_lists (text_key collation t) (text_key collation u) (keys_keep ∙ e),
      λ e. sym keys_keep ∙ same_lists_order (text_key collation t) (text_key collation u) e,
    )

    pub each_level : LevelsKeep (compression_of all) (form_by collation) (lists_by collation (nfd t)) (lists_by collation (nfd u))
    each_level =
        levels_keep (compression_of all) (form_by collation) (reachable_weights all (form_by collation)) (lists_by collation (nfd t))
        (lists_by collation (nfd u)) weights_well_formed (lists_well_formed t p) (lists_well_formed u q) (lists_parallel t u p q)

    pub keys_determine : (text_key collation t ≡ text_key collation u)
        ↔ HaveSameLists (compression_of all) (form_by collation) (lists_by collation (nfd t)) (lists_by collation (nfd u))
    unfolding text_key
    keys_determine = (
      same_levels (compression_of all) (form_by collation) (reachable_weights all (form_by collation)) (lists_by collation (nfd t))
          (lists_by collation (nfd u)) weights_well_formed (lists_well_formed t p) (lists_well_formed u q) (lists_parallel t u p q),
      same_keys (compression_of all) (form_by collation) (reachable_weights all (form_by collation)) (lists_by collation (nfd t))
          (lists_by collation (nfd u)) weights_well_formed (lists_well_formed t p) (lists_well_formed u q) (lists_parallel t u p q),
    )
