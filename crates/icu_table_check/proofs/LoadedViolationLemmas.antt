-- The violations of all that is reachable by one table, as tables are returned.
use Rattle.std.proofs.Common.{◌≡◌, ◌⊎◌, ℕ, ◌+◌, ◌-◌, ◌<◌, false, true, Option, Some, None, Result, Ok, Err, IfOk, IfSome, IsTrue, slice_index, length, refl, sym, ap, ◌∙◌, subst, arith, inl, inr, option_map}
use Rattle.std.proofs.lemmas.Bool.Decides.{nat_tests}
use Rattle.icu_table_weights.proofs.PageLemmas.{below_last}
use Rattle.std.specs.List.{AllByRecursion}
use Rattle.icu_table_data.specs.declared.data.CollationData.{CollationData}
use Rattle.icu_table_entries.specs.declared.error.DataTable.TheVariants.{Root, Jamo, Tailoring, Diacritics}
use Rattle.icu_table_provider.specs.Tables.{is_jamo}
use Rattle.icu_table_data.specs.Reachable.{reachable_from, EachReachable}
use Rattle.icu_table_provider.specs.Diacritics.{is_replaced_index}
use Rattle.icu_table_entries.specs.Elements.{Element, of_secondary}
use Rattle.icu_table_data.specs.StoredData.{data_of}
use Rattle.icu_table_provider.specs.StoredTables.{jamo_of, diacritics_of}
use Rattle.icu_table_data.specs.Violations.{IsFreeOf, IsViolationAmong, IsReachableViolation}
use Rattle.icu_table_data.proofs.ViolationLemmas.{weaker_some, not_before, earlier-none}
use Rattle.icu_table_provider.specs.declared.well_formed.condition.ReachableElementCondition.{ReachableElementCondition}
use Rattle.icu_table_check.specs.declared.violation.Violation.{Violation}
use Rattle.icu_table_provider.specs.declared.table_set.TableSet.{TableSet}
use Rattle.icu_table_provider.specs.TableSets.{tables_in}
use Rattle.icu_table_data.specs.Violations.{earlier}
use Rattle.icu_table_check.specs.inner.Violations.{violation_rank, IsTrueViolation}
use Rattle.icu_table_provider.specs.well_formed.ElementConditions.{reachable_element_meets}
use Rattle.icu_table_check.specs.inner.EntryViolations.{of_element, element_violation, entry_violation, JamoPasses, DiacriticMeets, MeetsIn}
use Rattle.icu_table_check.specs.inner.PairViolations.{IsOutcome}
use Rattle.icu_table_check.proofs.EntryViolationLemmas.{passes_element, element_true}
use Rattle.icu_table_check.proofs.ReachableViolationLemmas.{root_meets, jamo_meets, tailoring_meets, no_tailoring_meets, root_true, jamo_true, tailoring_true}

module _ (s : TableSet) where
  loaded_root : EachReachable (λ c e. entry_violation (tables_in s) Root (data_of s.root) c e ≡ None) false (data_of s.root) → MeetsIn Root (tables_in s)
  unfolding tables_in
  loaded_root each = root_meets (tables_in s) each

  loaded_root_true : (o : Option Violation) → IfSome o (IsReachableViolation (entry_violation (tables_in s) Root) false (data_of s.root)) → IfSome o (IsTrueViolation (tables_in s))
  unfolding tables_in
  loaded_root_true o h = weaker_some _ (IsTrueViolation (tables_in s)) (λ f found. root_true (tables_in s) f found) o h

  loaded_tailoring : (t : CollationData) → s.tailoring ≡ Some t → EachReachable (λ c e. entry_violation (tables_in s) Tailoring (data_of t) c e ≡ None) true (data_of t) → MeetsIn Tailoring (tables_in s)
  unfolding tables_in
  loaded_tailoring t is each = tailoring_meets (tables_in s) (data_of t) (subst (λ o. option_map data_of o ≡ Some (data_of t)) (sym is) refl) each

  pub loaded_no_tailoring : s.tailoring ≡ None → MeetsIn Tailoring (tables_in s)
  unfolding tables_in
  loaded_no_tailoring is = no_tailoring_meets (tables_in s) (subst (λ o. option_map data_of o ≡ None) (sym is) refl)

  loaded_tailoring_true : (t : CollationData) → s.tailoring ≡ Some t → (o : Option Violation) → IfSome o (IsReachableViolation (entry_violation (tables_in s) Tailoring) true (data_of t)) → IfSome o (IsTrueViolation (tables_in s))
  unfolding tables_in
  loaded_tailoring_true t is o h =
      weaker_some _ (IsTrueViolation (tables_in s)) (λ f found. tailoring_true (tables_in s) (data_of t) (subst (λ o. option_map data_of o ≡ Some (data_of t)) (sym is) refl) f found) o h

  pub loaded_jamo : ((c : ℕ) → IsTrue (is_jamo c) → AllByRecursion (λ e. entry_violation (tables_in s) Jamo (data_of s.root) c e ≡ None) (reachable_from (data_of s.root) (slice_index (jamo_of s.jamo) (c - 0x1100)))) → MeetsIn Jamo (tables_in s)
  unfolding tables_in
  loaded_jamo each = jamo_meets (tables_in s) each

  pub loaded_jamo_true : (c : ℕ) → IsTrue (is_jamo c) → (o : Option Violation)
      → IfSome o (λ f. (None ≡ Some f) ⊎ IsViolationAmong (entry_violation (tables_in s) Jamo) (data_of s.root) c (reachable_from (data_of s.root) (slice_index (jamo_of s.jamo) (c - 0x1100))) f) → IfSome o (IsTrueViolation (tables_in s))
  unfolding tables_in
  loaded_jamo_true c is o h = weaker_some _ (IsTrueViolation (tables_in s)) (λ f found. jamo_true (tables_in s) c is f (not_before f _ found)) o h

  place_back : (c : ℕ) → IsTrue (is_jamo c) → 0x1100 + (c - 0x1100) ≡ c
  place_back c is = grind (arith, nat_tests)

  place_inside : (c : ℕ) → IsTrue (is_jamo c) → c - 0x1100 < 256
  place_inside c is = grind (arith, nat_tests)

  pub loaded_places : ((i : ℕ) → i < 256 → JamoPasses (tables_in s) i) → MeetsIn Jamo (tables_in s)
  unfolding tables_in
  loaded_places each = loaded_jamo (λ c is.
      subst (λ d. AllByRecursion (λ e. entry_violation (tables_in s) Jamo (data_of s.root) d e ≡ None) (reachable_from (data_of s.root) (slice_index (jamo_of s.jamo) (c - 0x1100)))) (place_back c is)
      (each (c - 0x1100) (place_inside c is)))

  pub loaded_place : (i e c : ℕ) → e ≡ slice_index (jamo_of s.jamo) i → c ≡ 0x1100 + i → AllByRecursion (λ e. entry_violation (tables_in s) Jamo (data_of s.root) c e ≡ None) (reachable_from (data_of s.root) e) → JamoPasses (tables_in s) i
  unfolding tables_in
  loaded_place i e c is at each =
      subst (λ e. AllByRecursion (λ e. entry_violation (tables_in s) Jamo (data_of s.root) (0x1100 + i) e ≡ None) (reachable_from (data_of s.root) e)) is
      (subst (λ d. AllByRecursion (λ e. entry_violation (tables_in s) Jamo (data_of s.root) d e ≡ None) (reachable_from (data_of s.root) e)) at each)

  char_jamo : (i : ℕ) → i < 256 → IsTrue (is_jamo (0x1100 + i))
  char_jamo i inside = grind (arith, nat_tests)

  char_place : (i : ℕ) → 0x1100 + i - 0x1100 ≡ i
  char_place i = omega arith

  pub loaded_place_true : (i e c : ℕ) → i < 256 → e ≡ slice_index (jamo_of s.jamo) i → c ≡ 0x1100 + i → (o : Option Violation)
      → IfSome o (λ f. (None ≡ Some f) ⊎ IsViolationAmong (entry_violation (tables_in s) Jamo) (data_of s.root) c (reachable_from (data_of s.root) e) f) → IfSome o (IsTrueViolation (tables_in s))
  loaded_place_true i e c inside is at o h =
      let there : slice_index (jamo_of s.jamo) (0x1100 + i - 0x1100) ≡ slice_index (jamo_of s.jamo) i = ap (slice_index (jamo_of s.jamo)) (char_place i) in
      loaded_jamo_true (0x1100 + i) (char_jamo i inside) o
      (subst (λ d. IfSome o (λ f. (None ≡ Some f) ⊎ IsViolationAmong (entry_violation (tables_in s) Jamo) (data_of s.root) d (reachable_from (data_of s.root) (slice_index (jamo_of s.jamo) (0x1100 + i - 0x1100))) f)) at
      (subst (λ e. IfSome o (λ f. (None ≡ Some f) ⊎ IsViolationAmong (entry_violation (tables_in s) Jamo) (data_of s.root) c (reachable_from (data_of s.root) e) f)) (is ∙ sym there) h))

  -- what a walk that may fail finds of the root, and of a tailoring
  pub root_outcome : {E : Type 0} (r : Result (Option Violation) E) → IfOk r (λ found. found ≡ None → IsFreeOf (entry_violation (tables_in s) Root) false (data_of s.root))
      → IfOk r (λ found. IfSome found (IsReachableViolation (entry_violation (tables_in s) Root) false (data_of s.root))) → IfOk r (IsOutcome (tables_in s) (MeetsIn Root (tables_in s)))
  root_outcome (Ok found) none some = record { none = λ h. loaded_root (none h); some = loaded_root_true found some }
  root_outcome (Err e) none some = tt

  pub tailoring_outcome : {E : Type 0} (t : CollationData) → s.tailoring ≡ Some t → (r : Result (Option Violation) E) → IfOk r (λ found. found ≡ None → IsFreeOf (entry_violation (tables_in s) Tailoring) true (data_of t))
      → IfOk r (λ found. IfSome found (IsReachableViolation (entry_violation (tables_in s) Tailoring) true (data_of t))) → IfOk r (IsOutcome (tables_in s) (MeetsIn Tailoring (tables_in s)))
  tailoring_outcome t is (Ok found) none some = record { none = λ h. loaded_tailoring t is (none h); some = loaded_tailoring_true t is found some }
  tailoring_outcome t is (Err e) none some = tt

-- ---- the elements of diacritics

module _ (s : TableSet) where
  abbrev diacritic_at : ℕ → Element
  diacritic_at i = of_secondary (slice_index (diacritics_of s.diacritics) i)

  no_violation : (o : Option ReachableElementCondition) → option_map (of_element Diacritics) o ≡ None → o ≡ None
  no_violation None h = refl
  no_violation (Some x) h = cc

  pub loaded_diacritic : (i : ℕ) (x : Element) → x ≡ diacritic_at i → element_violation (tables_in s) Diacritics x ≡ None → DiacriticMeets (tables_in s) i
  unfolding tables_in
  loaded_diacritic i x is none = λ kept. subst (λ x. (condition : ReachableElementCondition) → IsTrue (reachable_element_meets condition (tables_in s) x)) is (passes_element (tables_in s) x (no_violation _ none))

  pub loaded_diacritics : ((i : ℕ) → i < length (diacritics_of s.diacritics) → DiacriticMeets (tables_in s) i) → MeetsIn Diacritics (tables_in s)
  unfolding tables_in
  loaded_diacritics each = record {
    entries = λ condition home c e is. absurd is;
    mappings = λ home c e is. absurd is;
    elements = λ condition x is. subst (λ x. IsTrue (reachable_element_meets condition (tables_in s) x)) (sym is.is) (each is.place is.inside is.kept condition);
  }

  pub loaded_diacritic_true : (i : ℕ) → i < length (diacritics_of s.diacritics) → is_replaced_index i ≡ false → (x : Element) → x ≡ of_secondary (slice_index (diacritics_of s.diacritics) i) → IfSome (element_violation (tables_in s) Diacritics x) (IsTrueViolation (tables_in s))
  unfolding tables_in
  loaded_diacritic_true i inside kept x is = element_true (tables_in s) Diacritics x (record { place = i; inside = inside; kept = kept; is = is })

-- ---- one more place

pub none_step : (P : ℕ → Type 0) (a b found : Option Violation) (n : ℕ) → found ≡ earlier violation_rank a b → (a ≡ None → (i : ℕ) → i < n → P i) → (b ≡ None → P n) → found ≡ None → (i : ℕ) → i < n + 1 → P i
none_step P a b found n is before now none i inside =
    let both = earlier-none violation_rank a b (sym is ∙ none) in
    elim (below_last i n inside) [
      | inl earlier_place ↦ before both.0 i earlier_place
      | inr last ↦ subst P (sym last) (now both.1)
    ]
