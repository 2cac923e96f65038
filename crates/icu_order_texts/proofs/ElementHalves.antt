-- What the elements of texts have on each level, by tables that meet the conditions.
use Rattle.std.proofs.Common.{◌≡◌, ◌≢◌, ◌⊎◌, ℕ, ◌*◌, ◌/◌, ◌^◌, ◌<◌, true, false, not, ◌&&◌, ◌||◌, ◌==◌, nat_lt, refl, sym, ap, ◌∙◌, subst, arith, inl, inr, lit<}
use Rattle.std.specs.Prelude.{bit_and}
use Rattle.std.proofs.lemmas.Nat.{and_le_r}
use Rattle.std.proofs.lemmas.Bool.{and_parts, cases_Bool, eqb-false}
use Rattle.std.proofs.lemmas.Bool.Decides.{nat_tests}
use Rattle.icu_order_levels.specs.Tertiaries.{tertiary_runs}
use Rattle.icu_order_levels.specs.Premises.{IsRank, IsUnshifted}
use Rattle.icu_order_levels.specs.declared.forms.CaseForm.{CaseForm}
use Rattle.icu_order_levels.specs.declared.forms.CaseForm.TheVariants as cases
use Rattle.icu_order_levels.specs.declared.forms.TertiaryForm.{TertiaryForm}
use Rattle.icu_order_levels.specs.declared.forms.TertiaryForm.TheVariants.{WithoutCase, LowerFirst, UpperFirst}
use Rattle.icu_table_entries.specs.Elements.{Element, of_primary, case_mask, tertiary_mask, quaternary_mask}
use Rattle.icu_table_entries.specs.ElementConditions.{separator_primary, tertiary_of, has_shape, has_whole_weights, has_weights_below, has_lower_half, has_primary_lead}
use Rattle.icu_table_provider.specs.CollatorTables.{CollatorTables}
use Rattle.icu_table_provider.specs.declared.well_formed.condition.Condition.TheVariants as conditions
use Rattle.icu_table_provider.specs.declared.well_formed.condition.ReachableElementCondition.TheVariants.{Width}
use Rattle.icu_table_provider.specs.well_formed.WellFormedTables.{IsWellFormedTables}
use Rattle.icu_element_reading.specs.ReachableTexts.{IsReachableElement}
use Rattle.icu_order_texts.specs.weighting.Handled.{is_variable}
use Rattle.icu_order_texts.specs.weighting.Levels.{secondary_of, case_rank, cased_mask, masked_tertiary, tertiary_in, quaternary_weight}
use Rattle.icu_order_texts.specs.ReachableWeights.{IsReachablePrimary, IsReachableSecondary, IsReachableTertiary}
use Rattle.icu_order_texts.proofs.ReachableElementLemmas.{reachable-shape, reachable-primary_lead, other_part}
use Rattle.icu_order_texts.proofs.TertiaryWeights.{case_bits, cased_low}
use Rattle.icu_order_texts.proofs.CountLemmas.{ReadAlike, PartsWithSecondary}
use Rattle.icu_order_texts.proofs.NumberLists.{not_variable}
use Rattle.icu_order_texts.proofs.TextSources.{IsSource, reachable_primary}

-- ---- lower halves

-- case bits that aren't 11
rank_below : (l : ℕ) → l < 2 ^ 16 → not (bit_and l case_mask == case_mask) ≡ true → l / 0x4000 < 3
rank_below l small h =
    let other : bit_and l case_mask ≢ case_mask = grind (arith, nat_tests) in
    omega (arith, other, case_bits l small)

empty_half : (l : ℕ) → (not (bit_and l tertiary_mask == 0) || l == 0) ≡ true → (bit_and l tertiary_mask == 0) ≡ true → l ≡ 0
empty_half l h none =
    let empty : (l == 0) ≡ true = other_part (not (bit_and l tertiary_mask == 0)) (l == 0) h (ap not none) in
    grind (arith, nat_tests)

cased_alike : (l : ℕ) → (not (bit_and l tertiary_mask == 0) || l == 0) ≡ true → (bit_and l cased_mask == 0) ≡ (bit_and l tertiary_mask == 0)
cased_alike l h = by (cases_Bool (bit_and l tertiary_mask == 0))
  where
    by : ((bit_and l tertiary_mask == 0) ≡ true) ⊎ ((bit_and l tertiary_mask == 0) ≡ false) → (bit_and l cased_mask == 0) ≡ (bit_and l tertiary_mask == 0)
    by (inl none) = rw (empty_half l h none) refl
    by (inr some) =
        let other : bit_and l tertiary_mask ≢ 0 = eqb-false (bit_and l tertiary_mask) 0 some in
        let low = cased_low l in
        let cased : bit_and l cased_mask ≢ 0 = λ z. other (omega (arith, low, z)) in
        grind (arith, nat_tests)

number_tertiary : (form : TertiaryForm) (w : ℕ) → tertiary_in form (of_primary w) ≡ (tertiary_runs form).common
number_tertiary WithoutCase w = refl
number_tertiary LowerFirst w = refl
number_tertiary UpperFirst w = refl

separator_from : (x : Element) → has_primary_lead x ≡ true → x.primary ≡ separator_primary → secondary_of x ≢ 0
unfolding has_primary_lead
separator_from x h e = λ z. grind (arith, nat_tests)

-- the common quaternary weight, or quaternary bits above it
pub bits_unshifted : (x : Element) → IsUnshifted (quaternary_weight x)
bits_unshifted x = (omega arith, omega (arith, and_le_r x.lower quaternary_mask))

module _ (all : CollatorTables) (well_formed : IsWellFormedTables all) where
  -- what the lower half of a reachable element or of a number is
  record HasHalf (x : Element) : Type 0 where
    pub small : x.lower < 2 ^ 16
    pub empty : (not (bit_and x.lower tertiary_mask == 0) || x.lower == 0) ≡ true
    pub case : not (bit_and x.lower case_mask == case_mask) ≡ true

  reachable_half : (x : Element) → IsReachableElement all.tables x → HasHalf x
  unfolding has_shape
  reachable_half x reachable =
      let widths = and_parts (nat_lt x.primary (2 ^ 32) && nat_lt x.secondary (2 ^ 16)) (nat_lt x.lower (2 ^ 16))
      (well_formed.each (conditions.Element Width) reachable.table x reachable.reachable) in
      let shape = and_parts (has_whole_weights x && has_weights_below x) (has_lower_half x) (reachable-shape all well_formed reachable.table x reachable.reachable) in
      let half = and_parts (not (tertiary_of x == 0) || x.lower == 0) (not (bit_and x.lower case_mask == case_mask)) shape.1 in
      record { small = grind (arith, nat_tests); empty = half.0; case = half.1 }

  half : (x : Element) → IsSource all x → HasHalf x
  half x (inl reachable) = reachable_half x reachable
  half x (inr (w, l, is)) = subst HasHalf (sym is) (record { small = lit< tt; empty = refl; case = refl })

  -- ---- what each level has for an element

  -- a variable element is reachable
  pub variable_reachable : (last : ℕ) → last < all.special.numeric * 256 ^ 3 → (x : Element) → IsSource all x → is_variable last x ≡ true → IsReachablePrimary all x.primary
  variable_reachable last low x (inl reachable) v = reachable_primary all x reachable (λ z. grind (arith, nat_tests))
  variable_reachable last low x (inr (w, l, is)) v =
      absurd (wrong (sym (not_variable all.special.numeric last w low l) ∙ ap (is_variable last) (sym is) ∙ v))
    where
      wrong : false ≡ true → ⊥
      wrong e = cc

  pub secondary_reachable : (x : Element) → IsSource all x → secondary_of x ≢ 0 → IsReachableSecondary all (secondary_of x)
  secondary_reachable x (inl reachable) some = inr (record { table = reachable.table; element = x; reachable = reachable.reachable; some = some; is = refl })
  secondary_reachable x (inr (w, l, is)) some = inl (ap secondary_of is)

  pub tertiary_reachable : (form : TertiaryForm) (x : Element) → IsSource all x → masked_tertiary form x ≢ 0 → IsReachableTertiary all form (tertiary_in form x)
  tertiary_reachable form x (inl reachable) some = inr (record { table = reachable.table; element = x; reachable = reachable.reachable; some = some; is = refl })
  tertiary_reachable form x (inr (w, l, is)) some = inl (ap (tertiary_in form) is ∙ number_tertiary form w)

  pub has_rank : (form : CaseForm) (x : Element) → IsSource all x → IsRank (case_rank form x)
  has_rank cases.LowerFirst x s = let h = half x s in rank_below x.lower h.small h.case
  has_rank cases.UpperFirst x s = omega arith

  -- ---- which levels read something

  -- with case bits and without, a tertiary is read of the same elements
  pub reads_alike : (form : TertiaryForm) (x : Element) → IsSource all x → ReadAlike (masked_tertiary form) tertiary_of x
  reads_alike WithoutCase x s = refl
  reads_alike LowerFirst x s = cased_alike x.lower (half x s).empty
  reads_alike UpperFirst x s = cased_alike x.lower (half x s).empty

  -- a merge separator has a secondary
  pub parts_with : (x : Element) → IsSource all x → PartsWithSecondary x
  parts_with x (inl reachable) e = separator_from x (reachable-primary_lead all well_formed reachable.table x reachable.reachable) e
  parts_with x (inr (w, l, is)) e = λ z. omega (arith, ap secondary_of is, z)
