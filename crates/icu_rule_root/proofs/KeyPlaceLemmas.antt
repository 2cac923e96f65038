-- What stands at a place among ascending keys is the next weight of a window.
use Rattle.std.proofs.Common.{◌≡◌, ℕ, zero, suc, ◌+◌, ◌-◌, ◌<◌, ◌≤◌, ◌⊎◌, inl, inr, Bool, true, false, ◌==◌, ◌&&◌, nat_lt, nat_le, List, [], ◌∷◌, length, get_or, slice_index, Option, Some, None, if◌then◌else◌, unwrap_or, min, max, refl, sym, ap, ◌∙◌, subst, arith}
use Rattle.std.proofs.lemmas.Bool.{cases_lt, lt-ltb, le-ltb, le-leb, lt-leb, eqb-true}
use Rattle.std.proofs.lemmas.List.{get_or_default}
use Rattle.std.proofs.lemmas.List.Elements.{recursion_from_All, All-from_get_or}
use Rattle.std.proofs.lemmas.List.Sorted.{IsNonDecreasingBy-from_all_adjacent}
use Rattle.std.specs.List.{AllByRecursion}
use Rattle.std.specs.List.Sorted.{IsStrictlyIncreasing, IsNonDecreasingBy}
use Rattle.icu_table_data.proofs.ListLemmas.{weaker, all_of}
use Rattle.icu_rule_meaning.specs.TailoredRoots.{first_above, last_below}
use Rattle.icu_rule_meaning.specs.RootPositions.{first_number, last_number}
use Rattle.icu_rule_root.specs.declared.key_window.KeyLevel.{KeyLevel}
use Rattle.icu_rule_root.specs.declared.key_window.KeyLevel.TheVariants.{Primary, Secondary, Tertiary}
use Rattle.icu_rule_root.specs.declared.key_window.KeyWindow.{KeyWindow}
use Rattle.icu_rule_root.specs.inner.KeyWindows.{key_to, window_weight, begins_with_number, with_front, weights_in_window}
use Rattle.icu_rule_root.specs.inner.KeyPlaces.{IsWindow, IsKeyCount}

-- ---- ascending keys

key_mono : (level : KeyLevel) (k j : ℕ) → k ≤ j → key_to level k ≤ key_to level j
key_mono Primary k j h = omega (arith, h)
key_mono Secondary k j h = omega (arith, h)
key_mono Tertiary k j h = h

pub keys_rise : (level : KeyLevel) (keys : List ℕ) → IsStrictlyIncreasing keys → IsNonDecreasingBy (key_to level) keys
keys_rise level keys up =
    IsNonDecreasingBy-from_all_adjacent (key_to level) keys (λ k d inside.
    let next : get_or keys k 0 < get_or keys (k + 1) 0 = up k inside in
    rw (get_or_default keys k d 0 (omega (arith, inside)), get_or_default keys (k + 1) d 0 inside) (key_mono level (get_or keys k 0) (get_or keys (k + 1) 0) (omega (arith, next))))

abbrev pub ClimbFrom : ℕ → List ℕ → Type 0
ClimbFrom a [] = Unit {0}
ClimbFrom a (k ∷ keys) = (a < k) × ClimbFrom k keys

pub after_next : (i : ℕ) → suc i + 1 ≡ suc (i + 1)
after_next i = omega arith

climb : (k : ℕ) (keys : List ℕ) → IsStrictlyIncreasing (k ∷ keys) → ClimbFrom k keys
climb k [] up = tt
climb k (j ∷ keys) up = (
  up zero (omega arith),
  climb j keys (λ i h. subst (λ n. slice_index (j ∷ keys) i < slice_index (k ∷ j ∷ keys) n) (after_next i) (up (suc i) (omega (arith, h)))),
)

module _ (level : KeyLevel) where
  -- each key comes to no more than those behind it
  abbrev pub Steps : List ℕ → Type 0
  Steps [] = Unit {0}
  Steps (k ∷ keys) = AllByRecursion (λ j. key_to level k ≤ key_to level j) keys × Steps keys

  from_least : (a k : ℕ) (keys : List ℕ) → a ≤ k → ClimbFrom k keys → AllByRecursion (λ j. key_to level a ≤ key_to level j) keys
  from_least a k [] h up = tt
  from_least a k (j ∷ keys) h up =
      (key_mono level a j (omega (arith, h, up.0)), from_least a j keys (omega (arith, h, up.0)) up.1)

  steps_from : (k : ℕ) (keys : List ℕ) → ClimbFrom k keys → Steps (k ∷ keys)
  steps_from k [] up = (tt, tt)
  steps_from k (j ∷ keys) up = (from_least k k (j ∷ keys) (omega arith) up, steps_from j keys up.1)

  pub steps : (keys : List ℕ) → IsStrictlyIncreasing keys → Steps keys
  steps [] up = tt
  steps (k ∷ keys) up = steps_from k keys (climb k keys up)

  -- so many keys come to no more than a number, and all others to more
  abbrev pub Parts : ℕ → List ℕ → ℕ → Type 0
  Parts m [] zero = Unit {0}
  Parts m [] (suc i) = ⊥
  Parts m (k ∷ keys) zero = AllByRecursion (λ j. m < key_to level j) (k ∷ keys)
  Parts m (k ∷ keys) (suc i) = (key_to level k ≤ m) × Parts m keys i

  pub parts : (m : ℕ) (keys : List ℕ) (i : ℕ) → IsKeyCount level keys m i → Parts m keys i
  parts m [] zero h = tt
  parts m [] (suc i) h = absurd (omega (arith, h.inside))
  parts m (k ∷ keys) zero h =
      recursion_from_All (λ j. m < key_to level j) (k ∷ keys)
      (All-from_get_or (λ j. m < key_to level j) (k ∷ keys) 0 (λ i inside. h.behind i (omega arith) inside))
  parts m (k ∷ keys) (suc i) h = (
    h.before zero (omega arith),
    parts m keys i (record {
      inside = omega (arith, h.inside);
      before = λ j below. h.before (suc j) (omega (arith, below));
      behind = λ j from inside. h.behind (suc j) (omega (arith, from)) (omega (arith, inside));
    }),
  )

-- ---- the weight of a key

in_window : (low v last base : ℕ) → low < v → v ≤ last → (if nat_lt low v && nat_le v last then Some (v - base) else None) ≡ Some (v - base)
in_window low v last base above below = rw (lt-ltb low v above, le-leb v last below) refl

below_window : (low v last base : ℕ) → v ≤ low → (if nat_lt low v && nat_le v last then Some (v - base) else None) ≡ None
below_window low v last base below = rw (le-ltb low v below) refl

above_by : (b : Bool) (v base : ℕ) → (if b && false then Some (v - base) else None) ≡ None
above_by true v base = refl
above_by false v base = refl

above_window : (low v last base : ℕ) → last < v → (if nat_lt low v && nat_le v last then Some (v - base) else None) ≡ None
above_window low v last base above = rw (lt-leb v last above) (above_by (nat_lt low v) v base)

module _ (window : KeyWindow) where
  abbrev pub to : ℕ → ℕ
  to = key_to window.level

  pub weight_inside : (k : ℕ) → window.low < to k → to k ≤ window.last → window_weight window k ≡ Some (to k - window.base)
  weight_inside k above below = in_window window.low (to k) window.last window.base above below

  pub weight_below : (k : ℕ) → to k ≤ window.low → window_weight window k ≡ None
  weight_below k below = below_window window.low (to k) window.last window.base below

  pub weight_above : (k : ℕ) → window.last < to k → window_weight window k ≡ None
  weight_above k above = above_window window.low (to k) window.last window.base above

  -- a key lies in the window, or has no weight there
  pub record IsInside (k : ℕ) : Type 0 where
    pub low : window.low < to k
    pub last : to k ≤ window.last
    pub is : window_weight window k ≡ Some (to k - window.base)

  below_or_inside : (k : ℕ) → (window.low < to k) ⊎ (to k ≤ window.low) → (window.last < to k) ⊎ (to k ≤ window.last) → IsInside k ⊎ (window_weight window k ≡ None)
  below_or_inside k (inr below) h = inr (weight_below k below)
  below_or_inside k (inl above) (inr within) = inl (record { low = above; last = within; is = weight_inside k above within })
  below_or_inside k (inl above) (inl past) = inr (weight_above k past)

  pub weight_cases : (k : ℕ) → IsInside k ⊎ (window_weight window k ≡ None)
  weight_cases k = below_or_inside k (cases_lt window.low (to k)) (cases_lt window.last (to k))

-- ---- looking for a weight among others

above_found : (v w : ℕ) (vs : List ℕ) → w < v → first_above (v ∷ vs) w ≡ Some v
unfolding first_above
above_found v w vs less = rw (lt-ltb w v less) refl

above_more : (v w : ℕ) (vs : List ℕ) → v ≤ w → first_above (v ∷ vs) w ≡ first_above vs w
unfolding first_above
above_more v w vs most = rw (le-ltb w v most) refl

pub above_none : (w : ℕ) → first_above [] w ≡ None
unfolding first_above
above_none w = refl

below_more : (found : Option ℕ) (v w : ℕ) (vs : List ℕ) → v < w → last_below found (v ∷ vs) w ≡ last_below (Some v) vs w
unfolding last_below
below_more found v w vs less = rw (lt-ltb v w less) refl

below_ended : (found : Option ℕ) (v w : ℕ) (vs : List ℕ) → w ≤ v → last_below found (v ∷ vs) w ≡ found
unfolding last_below
below_ended found v w vs most = rw (le-ltb v w most) refl

pub below_none : (found : Option ℕ) (w : ℕ) → last_below found [] w ≡ found
unfolding last_below
below_none found w = refl

-- nothing is less than 0
pub below_zero : (found : Option ℕ) (ws : List ℕ) → last_below found ws 0 ≡ found
below_zero found [] = below_none found 0
below_zero found (v ∷ ws) = below_ended found v 0 ws (omega arith)

-- ---- a weight before others

first_by : (b : Bool) (x y w : ℕ) (ys : List ℕ) → (y == x) ≡ b → w < x → first_above (if b then y ∷ ys else x ∷ y ∷ ys) w ≡ Some x
first_by true x y w ys same less = above_found y w ys (subst (λ v. w < v) (sym (eqb-true y x same)) less) ∙ ap Some (eqb-true y x same)
first_by false x y w ys same less = above_found x w (y ∷ ys) less

first_front : (x w : ℕ) (ws : List ℕ) → w < x → first_above (with_front (Some x) ws) w ≡ Some x
first_front x w [] less = above_found x w [] less
first_front x w (y ∷ ys) less = first_by (y == x) x y w ys refl less

skip_by : (b : Bool) (x w : ℕ) (ws : List ℕ) → x ≤ w → first_above (if b then ws else x ∷ ws) w ≡ first_above ws w
skip_by true x w ws most = refl
skip_by false x w ws most = above_more x w ws most

skip_front : (x w : ℕ) (ws : List ℕ) → x ≤ w → first_above (with_front (Some x) ws) w ≡ first_above ws w
skip_front x w ws most = skip_by (begins_with_number x ws) x w ws most

ended_by : (b : Bool) (found : Option ℕ) (x w : ℕ) (ws : List ℕ) → w ≤ x → last_below found ws w ≡ found → last_below found (if b then ws else x ∷ ws) w ≡ found
ended_by true found x w ws most is = is
ended_by false found x w ws most is = below_ended found x w ws most

more_by : (b : Bool) (found : Option ℕ) (x y w : ℕ) (ys : List ℕ) → (y == x) ≡ b → x < w → last_below found (if b then y ∷ ys else x ∷ y ∷ ys) w ≡ last_below (Some x) (y ∷ ys) w
more_by true found x y w ys same less =
    let small : y < w = subst (λ v. v < w) (sym (eqb-true y x same)) less in
    below_more found y w ys small ∙ sym (below_more (Some x) y w ys small)
more_by false found x y w ys same less = below_more found x w (y ∷ ys) less

more_front : (found : Option ℕ) (x w : ℕ) (ws : List ℕ) → x < w → last_below found (with_front (Some x) ws) w ≡ last_below (Some x) ws w
more_front found x w [] less = below_more found x w [] less
more_front found x w (y ∷ ys) less = more_by (y == x) found x y w ys refl less

front_by : (P : ℕ → Type 0) (b : Bool) (x : ℕ) (ws : List ℕ) → P x → AllByRecursion P ws → AllByRecursion P (if b then ws else x ∷ ws)
front_by P true x ws p all = all
front_by P false x ws p all = (p, all)

pub all_front : (P : ℕ → Type 0) (x : ℕ) (ws : List ℕ) → P x → AllByRecursion P ws → AllByRecursion P (with_front (Some x) ws)
all_front P x ws p all = front_by P (begins_with_number x ws) x ws p all

-- ---- the weights of keys in a window

module _ (window : KeyWindow) (is : IsWindow window) where
  abbrev pub In : ℕ → Type 0
  In = IsInside window

  abbrev pub weights : List ℕ → List ℕ
  weights = weights_in_window window

  pub weights_none : weights [] ≡ []
  unfolding weights_in_window
  weights_none = refl

  pub weights_front : (k : ℕ) (keys : List ℕ) → weights (k ∷ keys) ≡ with_front (window_weight window k) (weights keys)
  unfolding weights_in_window
  weights_front k keys = refl

  pub with_inside : (k : ℕ) (keys : List ℕ) → In k → weights (k ∷ keys) ≡ with_front (Some (to window k - window.base)) (weights keys)
  with_inside k keys h = weights_front k keys ∙ ap (λ o. with_front o (weights keys)) h.is

  pub with_none : (k : ℕ) (keys : List ℕ) → window_weight window k ≡ None → weights (k ∷ keys) ≡ weights keys
  with_none k keys h = weights_front k keys ∙ ap (λ o. with_front o (weights keys)) h

  nothing_above : (keys : List ℕ) → AllByRecursion (λ j. window.last < to window j) keys → weights keys ≡ []
  nothing_above [] all = weights_none
  nothing_above (k ∷ keys) all = with_none k keys (weight_above window k all.0) ∙ nothing_above keys all.1

  -- what holds of each weight
  pub all_weights : (P : ℕ → Type 0) (keys : List ℕ) → AllByRecursion (λ k. In k → P (to window k - window.base)) keys → AllByRecursion P (weights keys)
  all_weights P [] all = subst (AllByRecursion P) (sym weights_none) tt
  all_weights P (k ∷ keys) all =
      elim (weight_cases window k) [
        | inl here ↦ subst (AllByRecursion P) (sym (with_inside k keys here)) (all_front P (to window k - window.base) (weights keys) (all.0 here) (all_weights P keys all.1))
        | inr none ↦ subst (AllByRecursion P) (sym (with_none k keys none)) (all_weights P keys all.1)
      ]

  -- ---- the weight of the key at a place

  abbrev pub found_at : List ℕ → ℕ → Option ℕ
  found_at [] i = None
  found_at (k ∷ keys) zero = window_weight window k
  found_at (k ∷ keys) (suc i) = found_at keys i

  pub found_none : (keys : List ℕ) (i : ℕ) → length keys ≤ i → found_at keys i ≡ None
  found_none [] i h = refl
  found_none (k ∷ keys) zero h = absurd (omega (arith, h))
  found_none (k ∷ keys) (suc i) h = found_none keys i (omega (arith, h))

  pub found_is : (keys : List ℕ) (i d : ℕ) → i < length keys → found_at keys i ≡ window_weight window (get_or keys i d)
  found_is [] i d h = absurd (omega (arith, h))
  found_is (k ∷ keys) zero d h = refl
  found_is (k ∷ keys) (suc i) d h = found_is keys i d (omega (arith, h))

  -- ---- the least that is greater

  module _ (m w : ℕ) (low : window.low ≤ m) (base : window.base + w ≤ m) (above : (v : ℕ) → window.low < v → v ≤ m → v ≤ window.base + w) where
    least_behind : (k : ℕ) (keys : List ℕ) → m < to window k → AllByRecursion (λ j. to window k ≤ to window j) keys → first_above (weights (k ∷ keys)) w ≡ window_weight window k
    least_behind k keys more rest =
        elim (cases_lt window.last (to window k)) [
          | inl past ↦
              ap (λ ws. first_above ws w) (nothing_above (k ∷ keys) (past, weaker (λ j. to window k ≤ to window j) (λ j. window.last < to window j) (λ j h. omega (arith, h, past)) keys rest))
              ∙ above_none w ∙ sym (weight_above window k past)
          | inr within ↦
              let here : window.low < to window k = omega (arith, low, more) in
              let inside = weight_inside window k here within in
              ap (λ ws. first_above ws w) (weights_front k keys ∙ ap (λ o. with_front o (weights keys)) inside)
              ∙ first_front (to window k - window.base) w (weights keys) (omega (arith, base, more)) ∙ sym inside
        ]

    skipped : (k : ℕ) (keys : List ℕ) → to window k ≤ m → first_above (weights (k ∷ keys)) w ≡ first_above (weights keys) w
    skipped k keys most =
        elim (weight_cases window k) [
          | inl here ↦
              let small : to window k ≤ window.base + w = above (to window k) here.low most in
              ap (λ ws. first_above ws w) (with_inside k keys here) ∙ skip_front (to window k - window.base) w (weights keys) (omega (arith, small))
          | inr none ↦ ap (λ ws. first_above ws w) (with_none k keys none)
        ]

    pub least : (keys : List ℕ) (i : ℕ) → Steps window.level keys → Parts window.level m keys i → first_above (weights keys) w ≡ found_at keys i
    least [] zero up at = ap (λ ws. first_above ws w) weights_none ∙ above_none w
    least [] (suc i) up at = absurd at
    least (k ∷ keys) zero up at = least_behind k keys at.0 up.0
    least (k ∷ keys) (suc i) up at = skipped k keys at.0 ∙ least keys i up.1 at.1

  -- ---- the greatest that isn't greater

  abbrev or_found : Option ℕ → Option ℕ → Option ℕ
  or_found None found = found
  or_found (Some x) found = Some x

  abbrev latest : Option ℕ → List ℕ → ℕ → Option ℕ
  latest found [] i = found
  latest found (k ∷ keys) zero = found
  latest found (k ∷ keys) (suc i) = latest (or_found (window_weight window k) found) keys i

  pub latest_zero : (found : Option ℕ) (keys : List ℕ) → latest found keys zero ≡ found
  latest_zero found [] = refl
  latest_zero found (k ∷ keys) = refl

  or_none : (o : Option ℕ) → or_found o None ≡ o
  or_none None = refl
  or_none (Some x) = refl

  module _ (m w : ℕ) (last : m ≤ window.last) (most : m ≤ window.base + w) (above : (v : ℕ) → m < v → v ≤ window.last → window.base + w < v) where
    none_below : (found : Option ℕ) (keys : List ℕ) → AllByRecursion (λ j. m < to window j) keys → last_below found (weights keys) (w + 1) ≡ found
    none_below found [] all = ap (λ ws. last_below found ws (w + 1)) weights_none ∙ below_none found (w + 1)
    none_below found (k ∷ keys) all =
        elim (weight_cases window k) [
          | inl here ↦
              let great : window.base + w < to window k = above (to window k) all.0 here.last in
              ap (λ ws. last_below found ws (w + 1)) (with_inside k keys here)
              ∙ ended_by (begins_with_number (to window k - window.base) (weights keys)) found (to window k - window.base) (w + 1) (weights keys) (omega (arith, great)) (none_below found keys all.1)
          | inr none ↦ ap (λ ws. last_below found ws (w + 1)) (with_none k keys none) ∙ none_below found keys all.1
        ]

    pub greatest : (found : Option ℕ) (keys : List ℕ) (i : ℕ) → Parts window.level m keys i → last_below found (weights keys) (w + 1) ≡ latest found keys i
    greatest found [] zero at = ap (λ ws. last_below found ws (w + 1)) weights_none ∙ below_none found (w + 1)
    greatest found [] (suc i) at = absurd at
    greatest found (k ∷ keys) zero at = none_below found (k ∷ keys) at
    greatest found (k ∷ keys) (suc i) at =
        elim (weight_cases window k) [
          | inl here ↦
              let small : to window k - window.base < w + 1 = omega (arith, at.0, most) in
              ap (λ ws. last_below found ws (w + 1)) (with_inside k keys here) ∙ more_front found (to window k - window.base) (w + 1) (weights keys) small
              ∙ greatest (Some (to window k - window.base)) keys i at.1 ∙ ap (λ o. latest (or_found o found) keys i) (sym here.is)
          | inr none ↦
              ap (λ ws. last_below found ws (w + 1)) (with_none k keys none) ∙ greatest found keys i at.1 ∙ ap (λ o. latest (or_found o found) keys i) (sym none)
        ]

    latest_behind : (x : ℕ) (keys : List ℕ) (i : ℕ) → AllByRecursion (λ j. window.low < to window j) keys → Parts window.level m keys (suc i) → latest (Some x) keys (suc i) ≡ found_at keys i
    latest_behind x [] i low at = absurd at
    latest_behind x (k ∷ keys) zero low at =
        latest_zero (or_found (window_weight window k) (Some x)) keys
        ∙ (let inside = weight_inside window k low.0 (omega (arith, at.0, last)) in ap (λ o. or_found o (Some x)) inside ∙ sym inside)
    latest_behind x (k ∷ keys) (suc i) low at =
        ap (λ o. latest (or_found o (Some x)) keys (suc i)) (weight_inside window k low.0 (omega (arith, at.0, last)))
        ∙ latest_behind (to window k - window.base) keys i low.1 at.1

    pub latest_found : (keys : List ℕ) (i : ℕ) → Steps window.level keys → Parts window.level m keys (suc i) → latest None keys (suc i) ≡ found_at keys i
    latest_found [] i up at = absurd at
    latest_found (k ∷ keys) zero up at = latest_zero (or_found (window_weight window k) None) keys ∙ or_none (window_weight window k)
    latest_found (k ∷ keys) (suc i) up at =
        elim (weight_cases window k) [
          | inl here ↦
              ap (λ o. latest (or_found o None) keys (suc i)) here.is
              ∙ latest_behind (to window k - window.base) keys i (weaker (λ j. to window k ≤ to window j) (λ j. window.low < to window j) (λ j h. let low = here.low in omega (arith, h, low)) keys up.0) at.1
          | inr none ↦ ap (λ o. latest (or_found o None) keys (suc i)) none ∙ latest_found keys i up.1 at.1
        ]

  -- ---- the first and the last

  pub positive : (keys : List ℕ) → AllByRecursion (λ x. 0 < x) (weights keys)
  positive keys =
      all_weights (λ x. 0 < x) keys
      (all_of (λ k. In k → 0 < to window k - window.base) (λ k here. let low = here.low in let base = is.base in omega (arith, low, base)) keys)

  pub bounded : (keys : List ℕ) → AllByRecursion (λ x. x < window.last - window.base + 1) (weights keys)
  bounded keys =
      all_weights (λ x. x < window.last - window.base + 1) keys
      (all_of (λ k. In k → to window k - window.base < window.last - window.base + 1) (λ k here. let last = here.last in omega (arith, last)) keys)

pub first_is : (ws : List ℕ) → AllByRecursion (λ x. 0 < x) ws → unwrap_or (first_above ws 0) 0 ≡ first_number ws
first_is [] all = ap (λ o. unwrap_or o 0) (above_none 0)
first_is (x ∷ ws) all = ap (λ o. unwrap_or o 0) (above_found x 0 ws all.0)

last_from : (b found : ℕ) (ws : List ℕ) → AllByRecursion (λ x. x < b) ws → unwrap_or (last_below (Some found) ws b) 0 ≡ last_number found ws
last_from b found [] all = ap (λ o. unwrap_or o 0) (below_none (Some found) b)
last_from b found (x ∷ ws) all = ap (λ o. unwrap_or o 0) (below_more (Some found) x b ws all.0) ∙ last_from b x ws all.1

pub last_is : (b : ℕ) (ws : List ℕ) → AllByRecursion (λ x. x < b) ws → unwrap_or (last_below None ws b) 0 ≡ last_number 0 ws
last_is b [] all = ap (λ o. unwrap_or o 0) (below_none None b)
last_is b (x ∷ ws) all = ap (λ o. unwrap_or o 0) (below_more None x b ws all.0) ∙ last_from b x ws all.1

-- nothing is greater
none_above : (w : ℕ) (ws : List ℕ) → AllByRecursion (λ x. x ≤ w) ws → first_above ws w ≡ None
none_above w [] all = above_none w
none_above w (x ∷ ws) all = above_more x w ws all.0 ∙ none_above w ws all.1

-- ---- as look-ups find them

module _ (window : KeyWindow) (is : IsWindow window) (keys : List ℕ) (up : IsStrictlyIncreasing keys) (w place : ℕ) where
  pub past_window : window.last - window.base ≤ w → None ≡ first_above (weights_in_window window keys) w
  past_window past =
      sym (none_above w (weights_in_window window keys) (weaker (λ x. x < window.last - window.base + 1) (λ x. x ≤ w) (λ x h. omega (arith, h, past)) (weights_in_window window keys) (bounded window is keys)))

  least_at : IsKeyCount window.level keys (max window.low (window.base + w)) place → first_above (weights_in_window window keys) w ≡ found_at window is keys place
  least_at at =
      least window is (max window.low (window.base + w)) w (omega arith) (omega arith) (λ v low most. omega (arith, low, most)) keys place
      (steps window.level keys up) (parts window.level (max window.low (window.base + w)) keys place at)

  pub least_found : IsKeyCount window.level keys (max window.low (window.base + w)) place → (key : ℕ) → place < length keys → key ≡ get_or keys place key
      → window_weight window key ≡ first_above (weights_in_window window keys) w
  least_found at key inside same = ap (window_weight window) same ∙ sym (least_at at ∙ found_is window is keys place key inside)

  pub least_none : IsKeyCount window.level keys (max window.low (window.base + w)) place → length keys ≤ place → None ≡ first_above (weights_in_window window keys) w
  least_none at past = sym (least_at at ∙ found_none window is keys place past)

  abbrev up_to_most : ℕ
  up_to_most = window.base + min w (window.last - window.base)

  greatest_at : IsKeyCount window.level keys up_to_most place → last_below None (weights_in_window window keys) (w + 1) ≡ latest window is None keys place
  greatest_at at =
      let base = is.base in
      let low = is.low in
      greatest window is up_to_most w (omega (arith, base, low)) (omega arith) (λ v more within. omega (arith, more, within, base, low)) None keys place
      (parts window.level up_to_most keys place at)

  pub up_to_none : IsKeyCount window.level keys up_to_most place → place ≡ 0 → None ≡ last_below None (weights_in_window window keys) (w + 1)
  up_to_none at none = sym (greatest_at at ∙ ap (latest window is None keys) none ∙ latest_zero window is None keys)

  pub up_to_found : IsKeyCount window.level keys up_to_most place → 0 < place → (d : ℕ)
      → window_weight window (get_or keys (place - 1) d) ≡ last_below None (weights_in_window window keys) (w + 1)
  up_to_found at some d =
      let base = is.base in
      let low = is.low in
      let inside = at.inside in
      let next : place ≡ suc (place - 1) = omega (arith, some) in
      let counted : Parts window.level up_to_most keys (suc (place - 1)) = subst (Parts window.level up_to_most keys) next (parts window.level up_to_most keys place at) in
      sym (greatest_at at ∙ ap (latest window is None keys) next
      ∙ latest_found window is up_to_most w (omega (arith, base, low)) (omega arith) (λ v more within. omega (arith, more, within, base, low)) keys (place - 1) (steps window.level keys up) counted
      ∙ found_is window is keys (place - 1) d (omega (arith, some, inside)))
