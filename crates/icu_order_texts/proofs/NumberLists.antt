-- The primaries of a text may stand where they are: numbers stay whole, since none of their elements is variable.
use Rattle.std.proofs.Common.{◌≡◌, ◌≢◌, ℕ, ◌*◌, ◌^◌, ◌<◌, ◌≤◌, Bool, true, false, ◌&&◌, ◌==◌, List, [], ◌∷◌, ◌++◌, map, refl, sym, ap, ◌∙◌, subst, arith, inl, inr, ne_eqb}
use Rattle.std.proofs.lemmas.Bool.{eqb-false}
use Rattle.std.proofs.lemmas.Bool.Decides.{nat_tests}
use Rattle.std.specs.List.{AllByRecursion}
use Rattle.icu_order_levels.specs.Primaries.{lead}
use Rattle.icu_order_levels.specs.Premises.{MayStand, IsPrimaryList, goes_on}
use Rattle.icu_order_levels.specs.Numbers.{run_weights}
use Rattle.icu_order_levels.proofs.DigitRuns.{run_stands}
use Rattle.icu_order_levels.proofs.ReorderedNumbers.{reachable_stands}
use Rattle.icu_table_entries.specs.Elements.{Element, of_primary}
use Rattle.icu_table_provider.specs.well_formed.WellFormedTables.{IsWellFormedTables}
use Rattle.icu_element_reading.specs.TextParts.{AreDigits}
use Rattle.icu_order_texts.specs.weighting.Collations.{Collation}
use Rattle.icu_order_texts.specs.weighting.Handled.{HandledElement, is_variable, handled, stayed_elements}
use Rattle.icu_order_texts.specs.weighting.Levels.{weights, primaries}
use Rattle.icu_order_texts.specs.weighting.Forms.{compression_of, last_variable_by}
use Rattle.icu_order_texts.specs.TextOrder.{handled_elements}
use Rattle.icu_order_texts.specs.ReachableWeights.{IsReachablePrimary}
use Rattle.icu_order_texts.proofs.HandledLemmas.{by_test, none_stayed}
use Rattle.icu_order_texts.proofs.PrimaryWeights.{reachable_primaries}
use Rattle.icu_order_texts.proofs.SpecialBounds.{numeric_high, numeric_low, under}

-- ---- weights of numbers

lead_of_piece : (numeric : ℕ) (inside : Bool) (w : ℕ) → MayStand numeric (λ _. ⊥) inside w → lead w ≡ numeric
lead_of_piece numeric false w (inl h) = absurd h
lead_of_piece numeric false w (inr p) = p.leads
lead_of_piece numeric true w p = p.leads

pieces_lead : (numeric : ℕ) (inside : Bool) (ws rest : List ℕ) → IsPrimaryList numeric (λ _. ⊥) inside (ws ++ rest)
    → AllByRecursion (λ w. lead w ≡ numeric) ws
pieces_lead numeric inside [] rest h = tt
pieces_lead numeric inside (w ∷ ws) rest h = (lead_of_piece numeric inside w h.0, pieces_lead numeric (goes_on numeric inside w) ws rest h.1)

-- each weight of a run of digits has the numeric lead
pub run_leads : (numeric : ℕ) → numeric < 256 → (ds : List ℕ) → AreDigits ds → AllByRecursion (λ w. lead w ≡ numeric) (run_weights numeric ds)
run_leads numeric n ds digits = pieces_lead numeric false (run_weights numeric ds) [] (run_stands numeric n (λ _. ⊥) [] tt ds digits)

some_from_lead : (numeric w : ℕ) → 3 ≤ numeric → lead w ≡ numeric → w ≢ 0
some_from_lead numeric w high e = λ z. omega (arith, e, z)

-- the variable groups end below the numeric lead
pub not_variable : (numeric last w : ℕ) → last < numeric * 256 ^ 3 → lead w ≡ numeric → is_variable last (of_primary w) ≡ false
not_variable numeric last w under e =
    let high : last < w = omega (arith, under, e) in
    grind (arith, nat_tests)

module _ (collation : Collation) (well_formed : IsWellFormedTables collation.tables) where
  open collation use {tables as all, settings}

  abbrev primaries_after : Bool → List Element → List ℕ
  primaries_after after es = primaries (stayed_elements (handled_elements collation after es))

  abbrev MayFollow : List ℕ → Type 0
  MayFollow = IsPrimaryList all.special.numeric (IsReachablePrimary all) false

  -- the primaries of elements may stand, whether a variable element came last before them or not
  abbrev pub Stands : List Element → Type 0
  Stands es = (after : Bool) → MayFollow (primaries_after after es)

  pub nothing_stands : Stands []
  unfolding handled weights
  nothing_stands after = tt

  -- ---- reachable elements

  reachable_stand : (x : Element) → (x.primary ≢ 0 → IsReachablePrimary all x.primary) → (es : List Element) → Stands es → Stands (x ∷ es)
  unfolding handled weights
  reachable_stand x reachable es h after =
      let C : List HandledElement → Type 0 = λ hs. MayFollow (primaries (stayed_elements hs)) in
      by_test C (is_variable (last_variable_by collation) x) _ _
      (λ _. subst (λ xs. MayFollow (primaries xs)) (sym (none_stayed settings.alternate_handling x.primary (handled_elements collation true es))) (h true))
      (λ _. by_test C (after && x.primary == 0) _ _ (λ _. h true)
      (λ _. by_test MayFollow (x.primary == 0) _ _ (λ _. h false)
      (λ n. reachable_stands (compression_of all) all.special.numeric (IsReachablePrimary all) (reachable_primaries all well_formed) x.primary _
      (reachable (eqb-false x.primary 0 n)) (h false))))

  pub all_stand : (xs : List Element) → AllByRecursion (λ x. x.primary ≢ 0 → IsReachablePrimary all x.primary) xs → (es : List Element) → Stands es
      → Stands (xs ++ es)
  all_stand [] reachable es h = h
  all_stand (x ∷ xs) reachable es h = reachable_stand x reachable.0 (xs ++ es) (all_stand xs reachable.1 es h)

  -- ---- numbers

  abbrev AreNumeric : List ℕ → Type 0
  AreNumeric = AllByRecursion (λ w. lead w ≡ all.special.numeric)

  number_head : (w : ℕ) → lead w ≡ all.special.numeric → (es : List Element) (after : Bool)
      → primaries_after after (of_primary w ∷ es) ≡ w ∷ primaries_after false es
  unfolding handled weights
  number_head w e es true =
      let some : (w == 0) ≡ false = ne_eqb w 0 (some_from_lead all.special.numeric w (numeric_high all well_formed) e) in
      rw (not_variable all.special.numeric (last_variable_by collation) w (under collation well_formed) e) (rw some (rw some refl))
  number_head w e es false =
      let some : (w == 0) ≡ false = ne_eqb w 0 (some_from_lead all.special.numeric w (numeric_high all well_formed) e) in
      rw (not_variable all.special.numeric (last_variable_by collation) w (under collation well_formed) e) (rw some refl)

  pub number_all : (ws : List ℕ) → AreNumeric ws → (es : List Element)
      → primaries_after false (map of_primary ws ++ es) ≡ ws ++ primaries_after false es
  number_all [] h es = refl
  number_all (w ∷ ws) h es = number_head w h.0 (map of_primary ws ++ es) false ∙ ap (λ l. w ∷ l) (number_all ws h.1 es)

  number_stands : (ws : List ℕ) → AreNumeric ws → (es : List Element) → Stands es → MayFollow (ws ++ primaries_after false es)
      → Stands (map of_primary ws ++ es)
  number_stands [] h es rest stands after = rest after
  number_stands (w ∷ ws) h es rest stands after =
      subst MayFollow (sym (number_head w h.0 (map of_primary ws ++ es) after ∙ ap (λ l. w ∷ l) (number_all ws h.1 es))) stands

  pub run_stand : (ds : List ℕ) → AreDigits ds → (es : List Element) → Stands es → Stands (map of_primary (run_weights all.special.numeric ds) ++ es)
  run_stand ds digits es h =
      let numeric = all.special.numeric in
      number_stands (run_weights numeric ds) (run_leads numeric (numeric_low all well_formed) ds digits) es h
      (run_stands numeric (numeric_low all well_formed) (IsReachablePrimary all) (primaries_after false es) (h false) ds digits)
