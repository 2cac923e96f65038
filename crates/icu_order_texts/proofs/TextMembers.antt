-- The lists of a text have only weights that its tables can give.
use Rattle.std.proofs.Common.{◌≡◌, ◌≢◌, ℕ, ◌<◌, false, ◌==◌, List, [], ◌∷◌, length, map, reverse, Option, Some, None, refl, sym, ap, subst, arith, inl, inr}
use Rattle.std.proofs.lemmas.Bool.{eqb-false}
use Rattle.std.proofs.lemmas.List.{reverse-append}
use Rattle.std.specs.List.{AllByRecursion}
use Rattle.icu_order_levels.specs.Premises.{IsRank, IsUnshifted, IsQuaternary, IsPrimaryList}
use Rattle.icu_order_levels.specs.Keys.{LevelLists}
use Rattle.icu_order_levels.specs.KeyPremises.{SecondaryMembers, TertiaryMembers, QuaternaryMembers, AreLists}
use Rattle.icu_order_levels.specs.declared.forms.CaseForm.{CaseForm}
use Rattle.icu_order_levels.specs.declared.forms.KeyForm.{KeyForm}
use Rattle.icu_order_levels.specs.declared.forms.QuaternaryForm.{QuaternaryForm}
use Rattle.icu_order_levels.specs.declared.forms.QuaternaryForm.TheVariants.{MayShift, Unshifted}
use Rattle.icu_order_levels.specs.declared.forms.SecondaryForm.{SecondaryForm}
use Rattle.icu_order_levels.specs.declared.forms.SecondaryForm.TheVariants.{Forward, Backward}
use Rattle.icu_order_levels.specs.declared.forms.TertiaryForm.{TertiaryForm}
use Rattle.icu_table_entries.specs.Elements.{Element}
use Rattle.icu_table_entries.specs.ElementConditions.{separator_primary, tertiary_of}
use Rattle.icu_table_data.proofs.ListLemmas.{all_append}
use Rattle.icu_table_provider.specs.CollatorTables.{CollatorTables, reorder}
use Rattle.icu_table_provider.specs.well_formed.WellFormedTables.{IsWellFormedTables}
use Rattle.icu_order_texts.specs.weighting.Handled.{HandledElement, stayed, shifted_primary, stayed_elements}
use Rattle.icu_order_texts.specs.weighting.Levels.{primaries, secondary_of, parted, segments, case_reads, case_rank, cases_in, masked_tertiary, tertiary_in, tertiaries_in, quaternaries, level_lists}
use Rattle.icu_order_texts.specs.ReachableWeights.{IsReachablePrimary, IsShiftedPrimary, IsReachableSecondary, IsReachableTertiary, IsTertiaryOf, reachable_weights}
use Rattle.icu_order_texts.proofs.HandledLemmas.{by_test, HoldsOf, stayed_hold, weights_hold}
use Rattle.icu_order_texts.proofs.TextSources.{IsSource}
use Rattle.icu_order_texts.proofs.ElementHalves.{bits_unshifted, secondary_reachable, tertiary_reachable, has_rank}

-- ---- segments

abbrev HasSegments : (ℕ → Type 0) → List (List ℕ) → Type 0
HasSegments P xss = (0 < length xss) × AllByRecursion (AllByRecursion P) xss

abbrev HoldInParts : (ℕ → Type 0) → List ℕ × List (List ℕ) → Type 0
HoldInParts P p = AllByRecursion P p.0 × AllByRecursion (AllByRecursion P) p.1

module _ (IsElement : Element → Type 0) (P : ℕ → Type 0) (has : (x : Element) → IsElement x → secondary_of x ≢ 0 → P (secondary_of x)) where
  parts_hold : (es : List Element) → AllByRecursion IsElement es → HoldInParts P (parted es)
  unfolding parted
  parts_hold [] h = (tt, tt)
  parts_hold (x ∷ xs) h =
      let more : HoldInParts P (parted xs) = parts_hold xs h.1 in
      by_test (HoldInParts P) (x.primary == separator_primary) _ _ (λ _. (tt, (more.0, more.1)))
      (λ _. by_test (HoldInParts P) (x.secondary == 0) _ _ (λ _. more) (λ n. ((has x h.0 (eqb-false x.secondary 0 n), more.0), more.1)))

  all_reversed : (xs : List ℕ) → AllByRecursion P xs → AllByRecursion P (reverse xs)
  all_reversed [] h = tt
  all_reversed (x ∷ xs) h = subst (AllByRecursion P) (sym (reverse-append (x ∷ []) xs)) (all_append P (reverse xs) (x ∷ []) (all_reversed xs h.1) (h.0, tt))

  each_reversed : (xss : List (List ℕ)) → AllByRecursion (AllByRecursion P) xss → AllByRecursion (AllByRecursion P) (map reverse xss)
  each_reversed [] h = tt
  each_reversed (xs ∷ xss) h = (all_reversed xs h.0, each_reversed xss h.1)

  segments_hold : (es : List Element) → AllByRecursion IsElement es → HasSegments P (segments es)
  segments_hold es h =
      let p = parted es in
      let held = parts_hold es h in
      (omega arith, each_reversed (p.0 ∷ p.1) (held.0, held.1))

module _ (all : CollatorTables) (well_formed : IsWellFormedTables all) where
  -- ---- quaternaries

  quaternaries_hold : (hs : List HandledElement) → AllByRecursion (HoldsOf (IsSource all) (IsReachablePrimary all)) hs
      → AllByRecursion (IsQuaternary (IsShiftedPrimary all)) (quaternaries (reorder all) hs)
  unfolding quaternaries
  quaternaries_hold [] h = tt
  quaternaries_hold (stayed x ∷ hs) h =
      by_test (AllByRecursion (IsQuaternary (IsShiftedPrimary all))) (tertiary_of x == 0) _ _ (λ _. quaternaries_hold hs h.1)
      (λ _. (inr (bits_unshifted x), quaternaries_hold hs h.1))
  quaternaries_hold (shifted_primary p ∷ hs) h =
      (inl (record { table = h.0.table; element = h.0.element; reachable = h.0.reachable; some = h.0.some; is = ap (reorder all) h.0.is }), quaternaries_hold hs h.1)

  unshifted_hold : (hs : List HandledElement) → AllByRecursion (HoldsOf (IsSource all) (λ p. ⊥)) hs
      → AllByRecursion IsUnshifted (quaternaries (reorder all) hs)
  unfolding quaternaries
  unshifted_hold [] h = tt
  unshifted_hold (stayed x ∷ hs) h =
      by_test (AllByRecursion IsUnshifted) (tertiary_of x == 0) _ _ (λ _. unshifted_hold hs h.1) (λ _. (bits_unshifted x, unshifted_hold hs h.1))
  unshifted_hold (shifted_primary p ∷ hs) h = absurd h.0

  -- ---- the lists of a text, by its form

  -- what the elements of a text are, as they were handled
  pub record AreHandled (f : Option QuaternaryForm) (hs : List HandledElement) : Type 0 where
    pub primaries : IsPrimaryList all.special.numeric (IsReachablePrimary all) false (primaries (stayed_elements hs))
    pub members : AllByRecursion (HoldsOf (IsSource all) (IsReachablePrimary all)) hs
    pub none_shifted : f ≡ Some Unshifted → AllByRecursion (HoldsOf (IsSource all) (λ p. ⊥)) hs

  secondary_members : (form : Option SecondaryForm) (t : LevelLists) → AllByRecursion (IsReachableSecondary all) t.secondaries
      → HasSegments (IsReachableSecondary all) t.segments → SecondaryMembers form (IsReachableSecondary all) t
  secondary_members None t p q = tt
  secondary_members (Some Forward) t p q = p
  secondary_members (Some Backward) t p q = q

  case_members : (before : Option SecondaryForm) (form : Option CaseForm) (es : List Element) → AllByRecursion (IsSource all) es
      → AllByRecursion IsRank (cases_in before form es)
  case_members before None es h = tt
  case_members before (Some form) es h = weights_hold (IsSource all) IsRank (case_reads before) (case_rank form) (λ x s _. has_rank all well_formed form x s) es h

  tertiary_members : (form : Option TertiaryForm) (t : LevelLists) (es : List Element) → t.tertiaries ≡ tertiaries_in form es
      → AllByRecursion (IsSource all) es → TertiaryMembers form (IsTertiaryOf all form) t
  tertiary_members None t es is h = tt
  tertiary_members (Some form) t es is h =
      subst (AllByRecursion (IsReachableTertiary all form)) (sym is)
      (weights_hold (IsSource all) (IsReachableTertiary all form) (masked_tertiary form) (tertiary_in form) (tertiary_reachable all well_formed form) es h)

  quaternary_members : (form : Option QuaternaryForm) (t : LevelLists) (hs : List HandledElement) → t.quaternaries ≡ quaternaries (reorder all) hs
      → AreHandled form hs → QuaternaryMembers form (IsShiftedPrimary all) t
  quaternary_members None t hs is h = tt
  quaternary_members (Some MayShift) t hs is h = subst (AllByRecursion (IsQuaternary (IsShiftedPrimary all))) (sym is) (quaternaries_hold hs h.members)
  quaternary_members (Some Unshifted) t hs is h = subst (AllByRecursion IsUnshifted) (sym is) (unshifted_hold hs (h.none_shifted refl))

  pub lists_reachable : (f : KeyForm) (hs : List HandledElement) (text : List ℕ) → AreHandled f.quaternary hs → AllByRecursion (λ c. c < 0x110000) text
      → AreLists f (reachable_weights all f) (level_lists (reorder all) f hs text)
  lists_reachable f hs text h small =
      let es = stayed_elements hs in
      let sources = stayed_hold (IsSource all) (IsReachablePrimary all) hs h.members in
      let t = level_lists (reorder all) f hs text in
      record {
        primaries = h.primaries;
        secondaries =
            secondary_members f.secondary t
            (weights_hold (IsSource all) (IsReachableSecondary all) secondary_of secondary_of (secondary_reachable all well_formed) es sources)
            (segments_hold (IsSource all) (IsReachableSecondary all) (secondary_reachable all well_formed) es sources);
        cases = case_members f.secondary f.cases es sources;
        tertiaries = tertiary_members f.tertiary t es refl sources;
        quaternaries = quaternary_members f.quaternary t hs refl h;
        characters = small;
      }
