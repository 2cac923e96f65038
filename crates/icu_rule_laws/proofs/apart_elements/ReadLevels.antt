-- What a level reads of elements is determined by their weights up to it.
use Rattle.std.proofs.Common.{◌≡◌, ℕ, Bool, true, false, ◌&&◌, ◌==◌, not, cond, List, [], ◌∷◌, if◌then◌else◌, refl, ap, ap₂, sym, ◌∙◌, arith}
use Rattle.std.proofs.lemmas.Bool.Decides.{nat_tests}
use Rattle.icu_options.specs.declared.settings.AlternateHandling.{AlternateHandling}
use Rattle.icu_table_entries.specs.Elements.{Element}
use Rattle.icu_table_entries.specs.ElementConditions.{separator_primary, tertiary_of}
use Rattle.icu_order_levels.specs.declared.forms.TertiaryForm.TheVariants.{WithoutCase}
use Rattle.icu_order_texts.specs.weighting.Handled.{HandledElement, stayed, shifted_primary, handled, stayed_elements}
use Rattle.icu_order_texts.specs.weighting.Levels.{weights, primaries, primary_of, secondaries, secondary_of, parted, tertiaries, quaternaries, quaternary_weight}
use Rattle.icu_rule_laws.specs.apart_elements.UpperWeights.{compared_quaternary, has_nonzero, upper_weights, upper_lists}
use Rattle.icu_rule_laws.proofs.apart_elements.KeyedReadings.{ReadsByKey, read_alike, first_same, rest_same}

-- ---- weights that are all 0

zero_and_more : (b c : Bool) → not (b && c) ≡ false → (b ≡ true) × (c ≡ true)
zero_and_more true true e = (refl, refl)
zero_and_more true false e = cc
zero_and_more false c e = cc

is_zero : (n : ℕ) → (n == 0) ≡ true → n ≡ 0
is_zero n e = grind (arith, nat_tests)

pub no_separator : (p : ℕ) → p ≡ 0 → (p == separator_primary) ≡ false
no_separator p e = grind (arith, nat_tests)

-- the first of weights that are all 0, and those after it
first_zero : (w : ℕ) (ws : List ℕ) → has_nonzero (w ∷ ws) ≡ false → (w == 0) ≡ true
first_zero w ws e = (zero_and_more (w == 0) _ e).0

rest_zero : (w : ℕ) (ws : List ℕ) → has_nonzero (w ∷ ws) ≡ false → has_nonzero ws ≡ false
rest_zero w ws e = ap not (zero_and_more (w == 0) _ e).1

-- the weights before a level are 0
none_at_first : (x : Element) → has_nonzero (upper_weights 2 x) ≡ false → x.primary ≡ 0
none_at_first x z = is_zero x.primary (first_zero x.primary [] z)

module _ (x : Element) (z : has_nonzero (upper_weights 3 x) ≡ false) where
  pub primary_none : x.primary ≡ 0
  primary_none = is_zero x.primary (first_zero x.primary (x.secondary ∷ []) z)

  pub secondary_none : (x.secondary == 0) ≡ true
  secondary_none = first_zero x.secondary [] (rest_zero x.primary (x.secondary ∷ []) z)

module _ (x : Element) (ws : List ℕ) (z : has_nonzero (x.primary ∷ x.secondary ∷ tertiary_of x ∷ ws) ≡ false) where
  first_none : x.primary ≡ 0
  first_none = is_zero x.primary (first_zero x.primary (x.secondary ∷ tertiary_of x ∷ ws) z)

  tertiary_none : (tertiary_of x == 0) ≡ true
  tertiary_none =
      first_zero (tertiary_of x) ws (rest_zero x.secondary (tertiary_of x ∷ ws) (rest_zero x.primary (x.secondary ∷ tertiary_of x ∷ ws) z))

-- ---- a level of weights

abbrev weight_step : (reads has : Element → ℕ) → HandledElement → List ℕ → List ℕ
weight_step reads has (stayed x) ws = if reads x == 0 then ws else has x ∷ ws
weight_step reads has (shifted_primary p) ws = ws

weight_turn : (reads has : Element → ℕ) (h : HandledElement) (hs : List HandledElement)
    → weights reads has (stayed_elements (h ∷ hs)) ≡ weight_step reads has h (weights reads has (stayed_elements hs))
unfolding weights
weight_turn reads has (stayed x) hs = refl
weight_turn reads has (shifted_primary p) hs = refl

chosen : (b : Bool) (w : ℕ) (ws : List ℕ) → b ≡ true → (if b then ws else w ∷ ws) ≡ ws
chosen b w ws e = ap (λ c. if c then ws else w ∷ ws) e

reads_weights : (reads : Element → ℕ) (key : Element → List ℕ)
    → ((x y : Element) → key x ≡ key y → reads x ≡ reads y)
    → ((x y : Element) → key x ≡ key y → x.primary ≡ y.primary)
    → ((x : Element) → has_nonzero (key x) ≡ false → (reads x == 0) ≡ true)
    → ((x : Element) → has_nonzero (key x) ≡ false → x.primary ≡ 0)
    → ReadsByKey (λ hs. weights reads reads (stayed_elements hs)) (weight_step reads reads) key has_nonzero
reads_weights reads key same primary zero none = record {
  turn = weight_turn reads reads;
  alike = λ x y e r. ap (λ w. if w == 0 then r else w ∷ r) (same x y e);
  alike_primary = primary;
  quiet = λ x e r. chosen (reads x == 0) (reads x) r (zero x e);
  quiet_primary = none;
}

-- ---- each level

module _ (handling : AlternateHandling) (last : ℕ) where
  -- elements that stayed
  abbrev kept : List Element → List Element
  kept es = stayed_elements (handled handling last false es)

  pub primaries_same : (xs ys : List Element) → upper_lists 2 xs ≡ upper_lists 2 ys → primaries (kept xs) ≡ primaries (kept ys)
  primaries_same xs ys e =
      read_alike _ _ (upper_weights 2) has_nonzero
      (reads_weights primary_of (upper_weights 2) (λ x y s. first_same s) (λ x y s. first_same s)
      (λ x z. first_zero x.primary [] z) none_at_first)
      handling last false xs ys e

  pub secondaries_same : (xs ys : List Element) → upper_lists 3 xs ≡ upper_lists 3 ys → secondaries (kept xs) ≡ secondaries (kept ys)
  secondaries_same xs ys e =
      read_alike _ _ (upper_weights 3) has_nonzero
      (reads_weights secondary_of (upper_weights 3) (λ x y s. first_same (rest_same s)) (λ x y s. first_same s)
      secondary_none primary_none)
      handling last false xs ys e

  pub tertiaries_same : (xs ys : List Element) → upper_lists 4 xs ≡ upper_lists 4 ys
      → tertiaries WithoutCase (kept xs) ≡ tertiaries WithoutCase (kept ys)
  tertiaries_same xs ys e =
      read_alike _ _ (upper_weights 4) has_nonzero
      (reads_weights tertiary_of (upper_weights 4) (λ x y s. first_same (rest_same (rest_same s))) (λ x y s. first_same s)
      (λ x z. tertiary_none x [] z) (λ x z. first_none x [] z))
      handling last false xs ys e

  -- ---- segments of secondaries

  abbrev Parts : Type 0
  Parts = List ℕ × List (List ℕ)

  abbrev part_step : HandledElement → List ℕ × List (List ℕ) → List ℕ × List (List ℕ)
  part_step (stayed x) r =
      if x.primary == separator_primary then ([], r.0 ∷ r.1) else if x.secondary == 0 then r else (x.secondary ∷ r.0, r.1)
  part_step (shifted_primary p) r = r

  part_turn : (h : HandledElement) (hs : List HandledElement) → parted (stayed_elements (h ∷ hs)) ≡ part_step h (parted (stayed_elements hs))
  unfolding parted
  part_turn (stayed x) hs = refl
  part_turn (shifted_primary p) hs = refl

  part_alike : (p q s t : ℕ) → p ≡ q → s ≡ t → (r : List ℕ × List (List ℕ))
      → part_step (stayed (record { primary = p; secondary = s; lower = 0 })) r
      ≡ part_step (stayed (record { primary = q; secondary = t; lower = 0 })) r
  part_alike p q s t e f r = ap₂ (λ a b. part_step (stayed (record { primary = a; secondary = b; lower = 0 })) r) e f

  part_quiet : (p s : ℕ) → (p == separator_primary) ≡ false → (s == 0) ≡ true → (r : List ℕ × List (List ℕ))
      → part_step (stayed (record { primary = p; secondary = s; lower = 0 })) r ≡ r
  part_quiet p s e f r =
      ap₂ (λ b c. if b then ([], r.0 ∷ r.1) else if c then r else (s ∷ r.0, r.1)) e f

  reads_parts : ReadsByKey (λ hs. parted (stayed_elements hs)) part_step (upper_weights 3) has_nonzero
  reads_parts = record {
    turn = part_turn;
    alike = λ x y e r. part_alike x.primary y.primary x.secondary y.secondary (first_same e) (first_same (rest_same e)) r;
    alike_primary = λ x y e. first_same e;
    quiet = λ x z r. part_quiet x.primary x.secondary (no_separator x.primary (primary_none x z)) (secondary_none x z) r;
    quiet_primary = primary_none;
  }

  pub parts_same : (xs ys : List Element) → upper_lists 3 xs ≡ upper_lists 3 ys → parted (kept xs) ≡ parted (kept ys)
  parts_same xs ys e = read_alike _ _ (upper_weights 3) has_nonzero reads_parts handling last false xs ys e

  -- ---- quaternaries

  module _ (reorder : ℕ → ℕ) where
    abbrev quaternary_step : HandledElement → List ℕ → List ℕ
    quaternary_step (stayed x) r = if tertiary_of x == 0 then r else quaternary_weight x ∷ r
    quaternary_step (shifted_primary p) r = reorder p ∷ r

    quaternary_turn : (h : HandledElement) (hs : List HandledElement) → quaternaries reorder (h ∷ hs) ≡ quaternary_step h (quaternaries reorder hs)
    unfolding quaternaries
    quaternary_turn (stayed x) hs = refl
    quaternary_turn (shifted_primary p) hs = refl

    compared_alike : (b : Bool) (v w : ℕ) (r : List ℕ) → (if b then 0 else v) ≡ (if b then 0 else w) → (if b then r else v ∷ r) ≡ (if b then r else w ∷ r)
    compared_alike true v w r e = refl
    compared_alike false v w r e = ap (λ z. z ∷ r) e

    quaternary_alike : (x y : Element) → upper_weights 5 x ≡ upper_weights 5 y → (r : List ℕ) → quaternary_step (stayed x) r ≡ quaternary_step (stayed y) r
    quaternary_alike x y e r =
        let t : tertiary_of x ≡ tertiary_of y = first_same (rest_same (rest_same e)) in
        ap (λ w. if w == 0 then r else quaternary_weight x ∷ r) t
        ∙ compared_alike (tertiary_of y == 0) (quaternary_weight x) (quaternary_weight y) r
        (sym (ap (λ w. if w == 0 then 0 else quaternary_weight x) t) ∙ first_same (rest_same (rest_same (rest_same e))))

    reads_quaternaries : ReadsByKey (quaternaries reorder) quaternary_step (upper_weights 5) has_nonzero
    reads_quaternaries = record {
      turn = quaternary_turn;
      alike = quaternary_alike;
      alike_primary = λ x y e. first_same e;
      quiet = λ x z r. chosen (tertiary_of x == 0) (quaternary_weight x) r (tertiary_none x (compared_quaternary x ∷ []) z);
      quiet_primary = λ x z. first_none x (compared_quaternary x ∷ []) z;
    }

    pub quaternaries_same : (xs ys : List Element) → upper_lists 5 xs ≡ upper_lists 5 ys
        → quaternaries reorder (handled handling last false xs) ≡ quaternaries reorder (handled handling last false ys)
    quaternaries_same xs ys e = read_alike _ _ (upper_weights 5) has_nonzero reads_quaternaries handling last false xs ys e

  -- ---- what counts at the first two levels of elements that stayed

  abbrev upper_step : HandledElement → List (List ℕ) → List (List ℕ)
  upper_step (stayed x) r = cond (has_nonzero (upper_weights 3 x)) (upper_weights 3 x ∷ r) r
  upper_step (shifted_primary p) r = r

  upper_turn : (h : HandledElement) (hs : List HandledElement)
      → upper_lists 3 (stayed_elements (h ∷ hs)) ≡ upper_step h (upper_lists 3 (stayed_elements hs))
  upper_turn (stayed x) hs = refl
  upper_turn (shifted_primary p) hs = refl

  reads_upper : ReadsByKey (λ hs. upper_lists 3 (stayed_elements hs)) upper_step (upper_weights 3) has_nonzero
  reads_upper = record {
    turn = upper_turn;
    alike = λ x y e r. ap (λ ws. cond (has_nonzero ws) (ws ∷ r) r) e;
    alike_primary = λ x y e. first_same e;
    quiet = λ x z r. ap (λ b. cond b (upper_weights 3 x ∷ r) r) z;
    quiet_primary = primary_none;
  }

  pub upper_same : (xs ys : List Element) → upper_lists 3 xs ≡ upper_lists 3 ys → upper_lists 3 (kept xs) ≡ upper_lists 3 (kept ys)
  upper_same xs ys e = read_alike _ _ (upper_weights 3) has_nonzero reads_upper handling last false xs ys e
