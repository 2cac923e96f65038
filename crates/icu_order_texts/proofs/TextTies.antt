-- What equal earlier lists give of two texts: as many cases, and where no element is shifted as many quaternaries.
use Rattle.std.proofs.Common.{◌≡◌, ℕ, List, map, length, Equal, Option, Some, None, refl, sym, ap, ◌∙◌, arith}
use Rattle.std.proofs.lemmas.List.{length-map}
use Rattle.std.specs.List.{AllByRecursion}
use Rattle.icu_order_levels.specs.ListOrder.{list_order}
use Rattle.icu_order_levels.specs.Keys.{LevelLists, primaries_order, secondaries_order, tertiaries_order}
use Rattle.icu_order_levels.specs.KeyPremises.{AreParallel}
use Rattle.icu_order_levels.specs.declared.forms.CaseForm.{CaseForm}
use Rattle.icu_order_levels.specs.declared.forms.KeyForm.{KeyForm}
use Rattle.icu_order_levels.specs.declared.forms.QuaternaryForm.TheVariants.{Unshifted}
use Rattle.icu_order_levels.specs.declared.forms.SecondaryForm.{SecondaryForm}
use Rattle.icu_order_levels.specs.declared.forms.SecondaryForm.TheVariants.{Forward, Backward}
use Rattle.icu_order_levels.specs.declared.forms.TertiaryForm.{TertiaryForm}
use Rattle.icu_order_levels.proofs.Order.{tied_lists}
use Rattle.icu_order_levels.proofs.KeepLemmas.{tied_segments}
use Rattle.icu_table_entries.specs.Elements.{Element}
use Rattle.icu_table_entries.specs.ElementConditions.{tertiary_of}
use Rattle.icu_table_data.proofs.ListLemmas.{weaker}
use Rattle.icu_table_provider.specs.CollatorTables.{CollatorTables, reorder}
use Rattle.icu_table_provider.specs.well_formed.WellFormedTables.{IsWellFormedTables}
use Rattle.icu_order_texts.specs.weighting.Handled.{HandledElement, stayed_elements}
use Rattle.icu_order_texts.specs.weighting.Levels.{weights, primary_of, primaries, secondary_of, secondaries, segments, case_reads, case_rank, cases_in, masked_tertiary, tertiary_in, tertiaries, tertiaries_in, quaternaries, level_lists}
use Rattle.icu_order_texts.specs.weighting.Forms.{compression_of}
use Rattle.icu_order_texts.specs.ReachableWeights.{IsReachablePrimary}
use Rattle.icu_order_texts.proofs.HandledLemmas.{HoldsOf, stayed_hold}
use Rattle.icu_order_texts.proofs.CountLemmas.{as_many, alike_many, ReadAlike, PartsWithSecondary, total, segments_count, quaternaries_many}
use Rattle.icu_order_texts.proofs.TextSources.{IsSource}
use Rattle.icu_order_texts.proofs.ElementHalves.{reads_alike, parts_with}
use Rattle.icu_order_texts.proofs.TextMembers.{AreHandled}

-- two lists that tie after reordering are as long
mapped_many : (f : ℕ → ℕ) (ps qs : List ℕ) → list_order (map f ps) (map f qs) ≡ Equal → length ps ≡ length qs
mapped_many f ps qs e = sym (length-map ps f) ∙ (ap length (tied_lists (map f ps) (map f qs) e) ∙ length-map qs f)

tied_many : (xs ys : List ℕ) → list_order xs ys ≡ Equal → length xs ≡ length ys
tied_many xs ys e = ap length (tied_lists xs ys e)

-- a level has as many weights in two texts, whatever it has for each element
through : (reads has other : Element → ℕ) (xs ys : List Element) → length (weights reads other xs) ≡ length (weights reads other ys)
    → length (weights reads has xs) ≡ length (weights reads has ys)
through reads has other xs ys e = as_many reads has other xs ∙ (e ∙ as_many reads other has ys)

backward_many : (has : Element → ℕ) (xs ys : List Element) → AllByRecursion PartsWithSecondary xs → AllByRecursion PartsWithSecondary ys
    → segments xs ≡ segments ys → length (weights secondary_of has xs) ≡ length (weights secondary_of has ys)
backward_many has xs ys p q e =
    let a = segments_count has xs p in
    let b = segments_count has ys q in
    let c : total (segments xs) ≡ total (segments ys) = ap total e in
    let d : length (segments xs) ≡ length (segments ys) = ap length e in
    omega (arith, a, b, c, d)

module _ (all : CollatorTables) (well_formed : IsWellFormedTables all) where
  -- ---- cases

  separators_part : (es : List Element) → AllByRecursion (IsSource all) es → AllByRecursion PartsWithSecondary es
  separators_part es h = weaker (IsSource all) PartsWithSecondary (parts_with all well_formed) es h

  ranks_many : (before : Option SecondaryForm) (case : CaseForm) (t u : LevelLists) (xs ys : List Element)
      → AllByRecursion (IsSource all) xs → AllByRecursion (IsSource all) ys
      → t.primaries ≡ primaries xs → u.primaries ≡ primaries ys → t.secondaries ≡ secondaries xs → u.secondaries ≡ secondaries ys
      → t.segments ≡ segments xs → u.segments ≡ segments ys
      → primaries_order (compression_of all) t u ≡ Equal → secondaries_order before t u ≡ Equal
      → length (weights (case_reads before) (case_rank case) xs) ≡ length (weights (case_reads before) (case_rank case) ys)
  ranks_many None case t u xs ys sx sy p q r s v w e f =
      through primary_of (case_rank case) primary_of xs ys (ap length (sym p) ∙ (mapped_many (reorder all) t.primaries u.primaries e ∙ ap length q))
  ranks_many (Some Forward) case t u xs ys sx sy p q r s v w e f =
      through secondary_of (case_rank case) secondary_of xs ys (ap length (sym r) ∙ (tied_many t.secondaries u.secondaries f ∙ ap length s))
  ranks_many (Some Backward) case t u xs ys sx sy p q r s v w e f =
      backward_many (case_rank case) xs ys (separators_part xs sx) (separators_part ys sy) (sym v ∙ (tied_segments t.segments u.segments f ∙ w))

  cases_many : (f : KeyForm) (case : Option CaseForm) (hs ks : List HandledElement) (t u : List ℕ)
      → AllByRecursion (IsSource all) (stayed_elements hs) → AllByRecursion (IsSource all) (stayed_elements ks)
      → primaries_order (compression_of all) (level_lists (reorder all) f hs t) (level_lists (reorder all) f ks u) ≡ Equal
      → secondaries_order f.secondary (level_lists (reorder all) f hs t) (level_lists (reorder all) f ks u) ≡ Equal
      → length (cases_in f.secondary case (stayed_elements hs)) ≡ length (cases_in f.secondary case (stayed_elements ks))
  cases_many f None hs ks t u sx sy e0 e1 = refl
  cases_many f (Some case) hs ks t u sx sy e0 e1 =
      ranks_many f.secondary case (level_lists (reorder all) f hs t) (level_lists (reorder all) f ks u) (stayed_elements hs) (stayed_elements ks)
      sx sy refl refl refl refl refl refl e0 e1

  -- ---- quaternaries

  abbrev NoneShifted : List HandledElement → Type 0
  NoneShifted = AllByRecursion (HoldsOf (IsSource all) (λ p. ⊥))

  -- of a text: as many quaternaries as tertiaries
  one_each : (form : TertiaryForm) (hs : List HandledElement) → NoneShifted hs
      → length (quaternaries (reorder all) hs) ≡ length (tertiaries form (stayed_elements hs))
  one_each form hs h =
      let es = stayed_elements hs in
      let sources = stayed_hold (IsSource all) (λ p. ⊥) hs h in
      quaternaries_many (IsSource all) (reorder all) tertiary_of hs h
      ∙ (sym (alike_many (masked_tertiary form) tertiary_of tertiary_of es
      (weaker (IsSource all) (ReadAlike (masked_tertiary form) tertiary_of) (reads_alike all well_formed form) es sources))
      ∙ as_many (masked_tertiary form) tertiary_of (tertiary_in form) es)

  unshifted_many : (form : Option TertiaryForm) (t u : LevelLists) (hs ks : List HandledElement) → (form ≡ None → ⊥)
      → NoneShifted hs → NoneShifted ks
      → t.tertiaries ≡ tertiaries_in form (stayed_elements hs) → u.tertiaries ≡ tertiaries_in form (stayed_elements ks)
      → tertiaries_order form t u ≡ Equal → length (quaternaries (reorder all) hs) ≡ length (quaternaries (reorder all) ks)
  unshifted_many None t u hs ks n h k p q e = absurd (n refl)
  unshifted_many (Some form) t u hs ks n h k p q e =
      one_each form hs h ∙ (ap length (sym p) ∙ (tied_many t.tertiaries u.tertiaries e ∙ (ap length q ∙ sym (one_each form ks k))))

  pub texts_parallel : (f : KeyForm) (hs ks : List HandledElement) (t u : List ℕ) → AreHandled all well_formed f.quaternary hs → AreHandled all well_formed f.quaternary ks
      → (f.tertiary ≡ None → f.quaternary ≡ Some Unshifted → ⊥)
      → AreParallel (compression_of all) f (level_lists (reorder all) f hs t) (level_lists (reorder all) f ks u)
  texts_parallel f hs ks t u h k n =
      let sx = stayed_hold (IsSource all) (IsReachablePrimary all) hs h.members in
      let sy = stayed_hold (IsSource all) (IsReachablePrimary all) ks k.members in
      let v = level_lists (reorder all) f hs t in
      let w = level_lists (reorder all) f ks u in
      record {
        cases = λ _ e0 e1. cases_many f f.cases hs ks t u sx sy e0 e1;
        quaternaries = λ is e0 e1 e2 e3. unshifted_many f.tertiary v w hs ks (λ z. n z is) (h.none_shifted is) (k.none_shifted is) refl refl e3;
      }
