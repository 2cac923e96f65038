-- Elements that are one apart are the same before their level, and less at it.
use Rattle.std.proofs.Common.{◌≡◌, ◌≢◌, ◌<◌, ℕ, Bool, true, false, ◌==◌, cond, List, [], ◌∷◌, ◌++◌, map, if◌then◌else◌, refl, ap, ap₂, sym, subst₂, ◌∙◌, Less, arith}
use Rattle.std.proofs.lemmas.List.{map-append}
use Rattle.std.proofs.lemmas.Bool.{ne_eqb}
use Rattle.icu_options.specs.declared.settings.AlternateHandling.{AlternateHandling}
use Rattle.icu_table_entries.specs.Elements.{Element}
use Rattle.icu_table_entries.specs.ElementConditions.{tertiary_of}
use Rattle.icu_order_levels.specs.ListOrder.{list_order}
use Rattle.icu_order_levels.specs.declared.forms.TertiaryForm.TheVariants.{WithoutCase}
use Rattle.icu_order_texts.specs.weighting.Handled.{stayed, handled, stayed_elements}
use Rattle.icu_order_texts.specs.weighting.Levels.{weights, primaries, secondaries, tertiaries, quaternaries, quaternary_weight}
use Rattle.icu_order_texts.proofs.AppendLemmas.{stayed_elements-append, weights-append, quaternaries-append}
use Rattle.icu_rule_laws.specs.apart_elements.UpperWeights.{has_nonzero, upper_lists}
use Rattle.icu_rule_laws.specs.apart_elements.ApartElements.{AreOneApart}
use Rattle.icu_rule_laws.proofs.apart_elements.KeyedReadings.{first_same, rest_same}
use Rattle.icu_rule_laws.proofs.apart_elements.UpperLemmas.{upper-append}
use Rattle.icu_rule_laws.proofs.apart_elements.ReadLevels.{primaries_same, secondaries_same, tertiaries_same, quaternaries_same}
use Rattle.icu_rule_laws.proofs.apart_elements.StayingLemmas.{stays_between, parted_order}

-- what counts before the level of all the elements
pub upper_whole : (n : ℕ) (xs ys : List Element) (a : AreOneApart n xs ys) → upper_lists n a.front ≡ upper_lists n a.other_front
    → upper_lists n xs ≡ upper_lists n ys
upper_whole n xs ys a fronts =
    ap (upper_lists n) a.left ∙ upper-append n a.front (a.e ∷ a.rest)
    ∙ ap₂ (λ us vs. us ++ vs) fronts
    (ap₂ (λ ws wss. cond (has_nonzero ws) (ws ∷ wss) wss) a.above a.rests)
    ∙ sym (upper-append n a.other_front (a.other ∷ a.other_rest)) ∙ sym (ap (upper_lists n) a.right)

-- the weight of an element that has one
pub one_weight : (b : Bool) (w : ℕ) (ws : List ℕ) → b ≡ false → (if b then ws else w ∷ ws) ≡ w ∷ ws
one_weight b w ws e = ap (λ c. if c then ws else w ∷ ws) e

quaternary_counts : (b : Bool) (q : ℕ) → (if b then 0 else q) ≢ 0 → b ≡ false
quaternary_counts true q n = absurd (n refl)
quaternary_counts false q n = refl

quaternary_there : (b : Bool) (q : ℕ) → b ≡ false → (if b then 0 else q) ≡ q
quaternary_there b q e = ap (λ c. if c then 0 else q) e

pub not_zero : (v w : ℕ) → v < w → w ≢ 0
not_zero v w l e = omega arith

module _ (handling : AlternateHandling) (last : ℕ) where
  abbrev pub kept : List Element → List Element
  kept es = stayed_elements (handled handling last false es)

  -- an element stays after others
  abbrev pub Stays : List Element → Element → Type 0
  Stays front x = kept (front ++ x ∷ []) ≡ kept front ++ x ∷ []

  pub kept_between : (front rest whole : List Element) (x : Element) → whole ≡ front ++ x ∷ rest → Stays front x
      → kept whole ≡ kept front ++ x ∷ kept rest
  kept_between front rest whole x e s =
      ap kept e ∙ ap stayed_elements (stays_between handling last x front rest s)
      ∙ stayed_elements-append (handled handling last false front) (stayed x ∷ handled handling last false rest)

  -- the weights of a level before the element and after it
  pub weights_between : (reads : Element → ℕ) (front rest whole : List Element) (x : Element) → whole ≡ front ++ x ∷ rest → Stays front x
      → reads x ≢ 0
      → weights reads reads (kept whole) ≡ weights reads reads (kept front) ++ reads x ∷ weights reads reads (kept rest)
  unfolding weights
  weights_between reads front rest whole x e s n =
      ap (weights reads reads) (kept_between front rest whole x e s) ∙ weights-append reads reads (kept front) (x ∷ kept rest)
      ∙ ap (λ ws. weights reads reads (kept front) ++ ws)
      (one_weight (reads x == 0) (reads x) (weights reads reads (kept rest)) (ne_eqb (reads x) 0 n))

  quaternaries_between : (reorder : ℕ → ℕ) (front rest whole : List Element) (x : Element) → whole ≡ front ++ x ∷ rest → Stays front x
      → (tertiary_of x == 0) ≡ false
      → quaternaries reorder (handled handling last false whole)
      ≡ quaternaries reorder (handled handling last false front) ++ quaternary_weight x ∷ quaternaries reorder (handled handling last false rest)
  unfolding quaternaries
  quaternaries_between reorder front rest whole x e s n =
      let before = handled handling last false front in
      let after = handled handling last false rest in
      ap (λ es. quaternaries reorder (handled handling last false es)) e
      ∙ ap (quaternaries reorder) (stays_between handling last x front rest s)
      ∙ quaternaries-append reorder before (stayed x ∷ after)
      ∙ ap (λ ws. quaternaries reorder before ++ ws)
      (one_weight (tertiary_of x == 0) (quaternary_weight x) (quaternaries reorder after) n)

  pub primaries_less : (reorder : ℕ → ℕ) (xs ys : List Element) (a : AreOneApart 1 xs ys) → Stays a.front a.e → Stays a.other_front a.other
      → reorder a.e.primary < reorder a.other.primary
      → list_order (map reorder (primaries (kept xs))) (map reorder (primaries (kept ys))) ≡ Less
  primaries_less reorder xs ys a s t l =
      parted_order (map reorder (primaries (kept a.front))) (map reorder (primaries (kept a.other_front)))
      (map reorder (primaries (kept a.rest))) (map reorder (primaries (kept a.other_rest))) _ _
      (reorder a.e.primary) (reorder a.other.primary)
      (ap (map reorder) (primaries_same handling last a.front a.other_front a.fronts))
      l
      (ap (map reorder) (weights_between _ a.front a.rest xs a.e a.left s a.counts)
      ∙ map-append reorder (primaries (kept a.front)) (a.e.primary ∷ primaries (kept a.rest)))
      (ap (map reorder) (weights_between _ a.other_front a.other_rest ys a.other a.right t (not_zero a.e.primary a.other.primary a.less))
      ∙ map-append reorder (primaries (kept a.other_front)) (a.other.primary ∷ primaries (kept a.other_rest)))

  pub secondaries_less : (xs ys : List Element) (a : AreOneApart 2 xs ys) → Stays a.front a.e → Stays a.other_front a.other
      → list_order (secondaries (kept xs)) (secondaries (kept ys)) ≡ Less
  secondaries_less xs ys a s t =
      parted_order (secondaries (kept a.front)) (secondaries (kept a.other_front))
      (secondaries (kept a.rest)) (secondaries (kept a.other_rest)) _ _ a.e.secondary a.other.secondary
      (secondaries_same handling last a.front a.other_front a.fronts) a.less
      (weights_between _ a.front a.rest xs a.e a.left s a.counts)
      (weights_between _ a.other_front a.other_rest ys a.other a.right t (not_zero a.e.secondary a.other.secondary a.less))

  pub tertiaries_less : (xs ys : List Element) (a : AreOneApart 3 xs ys) → Stays a.front a.e → Stays a.other_front a.other
      → list_order (tertiaries WithoutCase (kept xs)) (tertiaries WithoutCase (kept ys)) ≡ Less
  tertiaries_less xs ys a s t =
      parted_order (tertiaries WithoutCase (kept a.front)) (tertiaries WithoutCase (kept a.other_front))
      (tertiaries WithoutCase (kept a.rest)) (tertiaries WithoutCase (kept a.other_rest)) _ _ (tertiary_of a.e) (tertiary_of a.other)
      (tertiaries_same handling last a.front a.other_front a.fronts) a.less
      (weights_between tertiary_of a.front a.rest xs a.e a.left s a.counts)
      (weights_between tertiary_of a.other_front a.other_rest ys a.other a.right t (not_zero (tertiary_of a.e) (tertiary_of a.other) a.less))

  pub quaternaries_less : (reorder : ℕ → ℕ) (xs ys : List Element) (a : AreOneApart 4 xs ys) → Stays a.front a.e → Stays a.other_front a.other
      → list_order (quaternaries reorder (handled handling last false xs)) (quaternaries reorder (handled handling last false ys)) ≡ Less
  quaternaries_less reorder xs ys a s t =
      let here : (tertiary_of a.e == 0) ≡ false = quaternary_counts (tertiary_of a.e == 0) (quaternary_weight a.e) a.counts in
      let there : (tertiary_of a.other == 0) ≡ false =
      ap (λ w. w == 0) (sym (first_same (rest_same (rest_same a.above)))) ∙ here in
      parted_order (quaternaries reorder (handled handling last false a.front)) (quaternaries reorder (handled handling last false a.other_front))
      (quaternaries reorder (handled handling last false a.rest)) (quaternaries reorder (handled handling last false a.other_rest)) _ _
      (quaternary_weight a.e) (quaternary_weight a.other)
      (quaternaries_same handling last reorder a.front a.other_front a.fronts)
      (subst₂ (λ v w. v < w) (quaternary_there (tertiary_of a.e == 0) (quaternary_weight a.e) here)
      (quaternary_there (tertiary_of a.other == 0) (quaternary_weight a.other) there) a.less)
      (quaternaries_between reorder a.front a.rest xs a.e a.left s here)
      (quaternaries_between reorder a.other_front a.other_rest ys a.other a.right t there)
