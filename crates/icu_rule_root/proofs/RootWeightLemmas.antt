-- The weights that keys have in a window ascend, and are those of the root's elements.
use Rattle.std.proofs.Common.{◌≡◌, ◌≢◌, ℕ, zero, suc, ◌+◌, ◌-◌, ◌*◌, ◌/◌, ◌^◌, ◌<◌, ◌≤◌, inl, inr, Bool, true, false, ◌&&◌, ◌==◌, nat_lt, List, [], ◌∷◌, slice_index, Option, Some, None, if◌then◌else◌, refl, sym, ap, subst, arith, IsTrue, ◌↔◌, not, filter, map, ◌%◌}
use Rattle.std.proofs.lemmas.Bool.{and_parts, lt-ltb, cases_lt, le-ltb, eqb-true}
use Rattle.std.proofs.lemmas.Bool.Decides.{nat_tests}
use Rattle.std.proofs.lemmas.Nat.{and_le_r}
use Rattle.std.specs.List.{AllByRecursion, Contains}
use Rattle.std.specs.List.Sorted.{IsStrictlyIncreasing}
use Rattle.icu_table_entries.specs.declared.error.DataTable.TheVariants.{Root, Jamo, Diacritics}
use Rattle.icu_table_entries.specs.Elements.{Element}
use Rattle.icu_table_entries.specs.ElementConditions.{separator_primary}
use Rattle.icu_table_data.proofs.ListLemmas.{weaker, all_where, of_member, nothing_in, in_first, at_first, at_rest}
use Rattle.icu_table_provider.specs.CollatorTables.{CollatorTables}
use Rattle.icu_table_provider.specs.declared.well_formed.condition.Condition.TheVariants as conditions
use Rattle.icu_table_provider.specs.declared.well_formed.condition.ReachableElementCondition.TheVariants.{Width}
use Rattle.icu_table_provider.specs.well_formed.WellFormedTables.{IsWellFormedTables}
use Rattle.icu_rule_meaning.specs.SymbolicElements.{tertiary_of}
use Rattle.icu_rule_meaning.specs.TailoredRoots as roots
use Rattle.icu_rule_root.specs.declared.key_window.KeyLevel.TheVariants.{Primary, Secondary, Tertiary}
use Rattle.icu_rule_root.specs.declared.key_window.KeyWindow.{KeyWindow}
use Rattle.icu_rule_root.specs.CheckedRoots.{IsSecondaryOfRoot, IsTertiaryOfRoot}
use Rattle.icu_rule_root.specs.RootElements.{IsRootElement, IsRootWeight, first_implicit_lead}
use Rattle.icu_rule_root.specs.inner.KeyCollections.{IsRootKey}
use Rattle.icu_rule_root.specs.inner.KeyPlaces.{IsWindow}
use Rattle.icu_rule_root.specs.inner.KeyWindows.{element_key, key_to, low_part, low_parts, with_front, window_weight, tertiary_window, secondary_window, weights_by_keys, weights_in_window, window_below}
use Rattle.icu_rule_root.proofs.KeyPlaceLemmas.{ClimbFrom, Steps, steps, after_next, IsInside, weight_inside, weight_cases, all_weights, weights_none, weights_front, with_inside, with_none}

-- ---- a weight before others

keeps_by : (b : Bool) (x v : ℕ) (ws : List ℕ) → Contains ws v → Contains (if b then ws else x ∷ ws) v
keeps_by true x v ws has = has
keeps_by false x v ws has = at_rest x v ws has

front_keeps : (o : Option ℕ) (v : ℕ) (ws : List ℕ) → Contains ws v → Contains (with_front o ws) v
front_keeps None v ws has = has
front_keeps (Some x) v [] has = at_rest x v [] has
front_keeps (Some x) v (y ∷ ys) has = keeps_by (y == x) x v (y ∷ ys) has

has_by : (b : Bool) (x y : ℕ) (ys : List ℕ) → (y == x) ≡ b → Contains (if b then y ∷ ys else x ∷ y ∷ ys) x
has_by true x y ys same = subst (Contains (y ∷ ys)) (eqb-true y x same) (at_first y ys)
has_by false x y ys same = at_first x (y ∷ ys)

front_has : (x : ℕ) (ws : List ℕ) → Contains (with_front (Some x) ws) x
front_has x [] = at_first x []
front_has x (y ∷ ys) = has_by (y == x) x y ys refl

abbrev Rises : List ℕ → Type 0
Rises [] = Unit {0}
Rises (x ∷ xs) = ClimbFrom x xs

differ : (x y : ℕ) → (y == x) ≡ false → x ≤ y → x < y
differ x y h most = grind (arith, nat_tests)

rise_by : (b : Bool) (x y : ℕ) (ys : List ℕ) → (y == x) ≡ b → x ≤ y → ClimbFrom y ys → Rises (if b then y ∷ ys else x ∷ y ∷ ys)
rise_by true x y ys same most up = up
rise_by false x y ys same most up = (differ x y same most, up)

rise_front : (x : ℕ) (ws : List ℕ) → AllByRecursion (λ y. x ≤ y) ws → Rises ws → Rises (with_front (Some x) ws)
rise_front x [] all up = tt
rise_front x (y ∷ ys) all up = rise_by (y == x) x y ys refl all.0 up

climbing : (x : ℕ) (xs : List ℕ) → ClimbFrom x xs → IsStrictlyIncreasing (x ∷ xs)
climbing x [] up k h = absurd (omega (arith, h))
climbing x (y ∷ ys) up zero h = up.0
climbing x (y ∷ ys) up (suc k) h =
    subst (λ n. slice_index (y ∷ ys) k < slice_index (x ∷ y ∷ ys) n) (sym (after_next k)) (climbing y ys up.1 k (omega (arith, h)))

none_ascend : IsStrictlyIncreasing []
none_ascend k h = absurd (omega (arith, h))

rising : (xs : List ℕ) → Rises xs → IsStrictlyIncreasing xs
rising [] up = none_ascend
rising (x ∷ xs) up = climbing x xs up

-- ---- the weights of a window

module _ (window : KeyWindow) (is : IsWindow window) where
  abbrev to : ℕ → ℕ
  to = key_to window.level

  abbrev ws : List ℕ → List ℕ
  ws = weights_in_window window

  pub record IsKeyWith (keys : List ℕ) (x : ℕ) : Type 0 where
    pub key : ℕ
    pub among : Contains keys key
    pub inside : IsInside window key
    pub gives : to key - window.base ≡ x

  pub key_with : (keys : List ℕ) (x : ℕ) → Contains (ws keys) x → IsKeyWith keys x
  key_with keys x has =
      of_member (IsKeyWith keys) (ws keys) x
      (all_weights window is (IsKeyWith keys) keys (all_where (λ k. IsInside window k → IsKeyWith keys (to k - window.base)) keys (λ k among here. record { key = k; among = among; inside = here; gives = refl })))
      has

  pub has_weight : (keys : List ℕ) (k : ℕ) → Contains keys k → IsInside window k → Contains (ws keys) (to k - window.base)
  has_weight [] k has here = absurd (nothing_in k has)
  has_weight (j ∷ keys) k has here =
      elim (in_first j k keys has) [
        | inl same ↦
            subst (λ xs. Contains xs (to k - window.base)) (sym (with_inside window is j keys (subst (IsInside window) (sym same) here)))
            (subst (λ i. Contains (with_front (Some (to i - window.base)) (ws keys)) (to k - window.base)) (sym same) (front_has (to k - window.base) (ws keys)))
        | inr rest ↦
            subst (λ xs. Contains xs (to k - window.base)) (sym (weights_front window is j keys))
            (front_keeps (window_weight window j) (to k - window.base) (ws keys) (has_weight keys k rest here))
      ]

  rises : (keys : List ℕ) → Steps window.level keys → Rises (ws keys)
  rises [] up = subst Rises (sym (weights_none window is)) tt
  rises (k ∷ keys) up =
      elim (weight_cases window k) [
        | inl here ↦
            subst Rises (sym (with_inside window is k keys here))
            (rise_front (to k - window.base) (ws keys)
            (all_weights window is (λ y. to k - window.base ≤ y) keys
            (weaker (λ j. to k ≤ to j) (λ j. IsInside window j → to k - window.base ≤ to j - window.base) (λ j most inside. omega (arith, most)) keys up.0))
            (rises keys up.1))
        | inr none ↦ subst Rises (sym (with_none window is k keys none)) (rises keys up.1)
      ]

  pub window_ascends : (keys : List ℕ) → IsStrictlyIncreasing keys → IsStrictlyIncreasing (ws keys)
  window_ascends keys up = rising (ws keys) (rises keys (steps window.level keys up))

-- ---- the windows below weights

primary_window : IsWindow (record { level = Primary; base = 0; low = separator_primary; last = first_implicit_lead - 1 })
primary_window = record { base = omega arith; low = omega arith; width = omega arith }

is_secondary_window : (p : ℕ) → IsWindow (secondary_window p)
is_secondary_window p = record { base = omega arith; low = omega arith; width = omega arith }

is_tertiary_window : (p s : ℕ) → IsWindow (tertiary_window p s)
is_tertiary_window p s = record { base = omega arith; low = omega arith; width = omega arith }

two_bytes : (s : ℕ) → s < 2 ^ 16 → (p : ℕ) → window_below (p ∷ s ∷ []) ≡ Some (tertiary_window p s)
unfolding window_below
two_bytes s h p = rw (lt-ltb s (2 ^ 16) h) refl

more_bytes : (s : ℕ) → 2 ^ 16 ≤ s → (p : ℕ) → window_below (p ∷ s ∷ []) ≡ None
unfolding window_below
more_bytes s h p = rw (le-ltb s (2 ^ 16) h) refl

by_some : (keys above : List ℕ) (window : KeyWindow) → window_below above ≡ Some window → weights_by_keys keys above ≡ weights_in_window window keys
unfolding weights_by_keys
by_some keys above window is = ap (λ o. elim o as (λ _. List ℕ) [ None ↦ [] | Some window ↦ weights_in_window window keys ]) is

by_none : (keys above : List ℕ) → window_below above ≡ None → weights_by_keys keys above ≡ []
unfolding weights_by_keys
by_none keys above is = ap (λ o. elim o as (λ _. List ℕ) [ None ↦ [] | Some window ↦ weights_in_window window keys ]) is

no_window : window_below [] ≡ Some (record { level = Primary; base = 0; low = separator_primary; last = first_implicit_lead - 1 })
unfolding window_below
no_window = refl

one_window : (p : ℕ) → window_below (p ∷ []) ≡ Some (secondary_window p)
unfolding window_below
one_window p = refl

three_window : (p s t : ℕ) (above : List ℕ) → window_below (p ∷ s ∷ t ∷ above) ≡ None
unfolding window_below
three_window p s t above = refl

pub weights_ascend : (keys : List ℕ) → IsStrictlyIncreasing keys → (above : List ℕ) → IsStrictlyIncreasing (weights_by_keys keys above)
weights_ascend keys up [] = subst IsStrictlyIncreasing (sym (by_some keys [] _ no_window)) (window_ascends _ primary_window keys up)
weights_ascend keys up (p ∷ []) = subst IsStrictlyIncreasing (sym (by_some keys (p ∷ []) _ (one_window p))) (window_ascends _ (is_secondary_window p) keys up)
weights_ascend keys up (p ∷ s ∷ []) =
    elim (cases_lt s (2 ^ 16)) [
      | inl less ↦ subst IsStrictlyIncreasing (sym (by_some keys (p ∷ s ∷ []) _ (two_bytes s less p))) (window_ascends _ (is_tertiary_window p s) keys up)
      | inr most ↦ subst IsStrictlyIncreasing (sym (by_none keys (p ∷ s ∷ []) (more_bytes s most p))) none_ascend
    ]
weights_ascend keys up (p ∷ s ∷ t ∷ above) = subst IsStrictlyIncreasing (sym (by_none keys (p ∷ s ∷ t ∷ above) (three_window p s t above))) none_ascend

-- ---- the fields of elements

test_width : (a : ℕ) → IsTrue (nat_lt a (2 ^ 16)) → a < 2 ^ 16
test_width a h = grind (arith, nat_tests)

record HasWidths (x : Element) : Type 0 where
  secondary : x.secondary < 2 ^ 16
  tertiary : tertiary_of x < 2 ^ 16

widths_from : (x : Element) → IsTrue (nat_lt x.primary (2 ^ 32) && nat_lt x.secondary (2 ^ 16) && nat_lt x.lower (2 ^ 16)) → HasWidths x
widths_from x h =
    let both = and_parts _ _ h in
    record { secondary = test_width x.secondary (and_parts _ _ both.0).1; tertiary = (let small = and_le_r x.lower 0x3F3F in omega (arith, small)) }

widths : (all : CollatorTables) → IsWellFormedTables all → (x : Element) → IsRootElement all.tables x → HasWidths x
widths all well_formed x (inl h) =
    widths_from x (well_formed.each (conditions.Element Width) Root x (record { home = all.tables.root; char = h.char; entry = h.stated.entry; reachable = (refl, h.scalar, h.stated.reachable); member = h.stated.given }))
widths all well_formed x (inr (inl h)) =
    widths_from x (well_formed.each (conditions.Element Width) Jamo x (record { home = all.tables.root; char = h.char; entry = h.stated.entry; reachable = (refl, h.jamo, h.stated.reachable); member = h.stated.given }))
widths all well_formed x (inr (inr h)) = widths_from x (well_formed.each (conditions.Element Width) Diacritics x h)

-- ---- keys as numbers

abbrev number : ℕ → ℕ → ℕ → ℕ
number p s t = p * 2 ^ 32 + s * 2 ^ 16 + t

primary_is : (p s t k w : ℕ) → s < 2 ^ 16 → t < 2 ^ 16 → number p s t ≡ k → k / 2 ^ 32 - 0 ≡ w → p ≡ w
primary_is p s t k w small less is gives = omega (arith, small, less, is, gives)

secondary_is : (p s t k q w : ℕ) → s < 2 ^ 16 → t < 2 ^ 16 → number p s t ≡ k → q * 2 ^ 16 < k / 2 ^ 16 → k / 2 ^ 16 ≤ q * 2 ^ 16 + 0xFFFF → k / 2 ^ 16 - q * 2 ^ 16 ≡ w
    → (p ≡ q) × (s ≡ w) × (w ≢ 0)
secondary_is p s t k q w small less is low last gives = (
  omega (arith, small, less, is, low, last),
  omega (arith, small, less, is, low, last, gives),
  λ none. omega (arith, low, gives, none),
)

tertiary_is : (p s t k q r w : ℕ) → s < 2 ^ 16 → t < 2 ^ 16 → r < 2 ^ 16 → number p s t ≡ k → q * 2 ^ 32 + r * 2 ^ 16 < k → k ≤ q * 2 ^ 32 + r * 2 ^ 16 + 0xFFFF → k - (q * 2 ^ 32 + r * 2 ^ 16) ≡ w
    → (p ≡ q) × (s ≡ r) × (t ≡ w) × (w ≢ 0)
tertiary_is p s t k q r w small less two is low last gives = (
  omega (arith, small, less, two, is, low, last),
  omega (arith, small, less, two, is, low, last),
  omega (arith, small, less, two, is, low, last, gives),
  λ none. omega (arith, low, gives, none),
)

-- ---- the weights below others are those of the root's elements

module _ (all : CollatorTables) (well_formed : IsWellFormedTables all) (keys : List ℕ) (members : (k : ℕ) → Contains keys k ↔ IsRootKey all.tables k) where
  key_at : (x : Element) → IsRootElement all.tables x → Contains keys (element_key x)
  key_at x h = (members (element_key x)).1 (record { element = x; holds = h; is = refl })

  in_primaries : (w : ℕ) → IsKeyWith (record { level = Primary; base = 0; low = separator_primary; last = first_implicit_lead - 1 }) primary_window keys w → IsRootWeight all.tables [] w
  in_primaries w h =
      let of = (members h.key).0 h.among in
      let x = of.element in
      let wide = widths all well_formed x of.holds in
      let same : x.primary ≡ w = primary_is x.primary x.secondary (tertiary_of x) h.key w wide.secondary wide.tertiary of.is h.gives in
      let low = h.inside.low in
      let last = h.inside.last in
      let gives = h.gives in
      record { element = x; of_root = of.holds; below = (same, omega (arith, low, gives), omega (arith, last, gives)) }

  in_secondaries : (p w : ℕ) → IsKeyWith (secondary_window p) (is_secondary_window p) keys w → IsRootWeight all.tables (p ∷ []) w
  in_secondaries p w h =
      let of = (members h.key).0 h.among in
      let x = of.element in
      let wide = widths all well_formed x of.holds in
      record {
        element = x;
        of_root = of.holds;
        below = secondary_is x.primary x.secondary (tertiary_of x) h.key p w wide.secondary wide.tertiary of.is h.inside.low h.inside.last h.gives;
      }

  in_tertiaries : (p s w : ℕ) → s < 2 ^ 16 → IsKeyWith (tertiary_window p s) (is_tertiary_window p s) keys w → IsRootWeight all.tables (p ∷ s ∷ []) w
  in_tertiaries p s w two h =
      let of = (members h.key).0 h.among in
      let x = of.element in
      let wide = widths all well_formed x of.holds in
      record {
        element = x;
        of_root = of.holds;
        below = tertiary_is x.primary x.secondary (tertiary_of x) h.key p s w wide.secondary wide.tertiary two of.is h.inside.low h.inside.last h.gives;
      }

  stands : (above : List ℕ) (w : ℕ) → Contains (weights_by_keys keys above) w → IsRootWeight all.tables above w
  stands [] w has = in_primaries w (key_with _ primary_window keys w (subst (λ xs. Contains xs w) (by_some keys [] _ no_window) has))
  stands (p ∷ []) w has = in_secondaries p w (key_with _ (is_secondary_window p) keys w (subst (λ xs. Contains xs w) (by_some keys (p ∷ []) _ (one_window p)) has))
  stands (p ∷ s ∷ []) w has =
      elim (cases_lt s (2 ^ 16)) [
        | inl less ↦ in_tertiaries p s w less (key_with _ (is_tertiary_window p s) keys w (subst (λ xs. Contains xs w) (by_some keys (p ∷ s ∷ []) _ (two_bytes s less p)) has))
        | inr most ↦ absurd (nothing_in w (subst (λ xs. Contains xs w) (by_none keys (p ∷ s ∷ []) (more_bytes s most p)) has))
      ]
  stands (p ∷ s ∷ t ∷ above) w has = absurd (nothing_in w (subst (λ xs. Contains xs w) (by_none keys (p ∷ s ∷ t ∷ above) (three_window p s t above)) has))

  of_window : (window : KeyWindow) (is : IsWindow window) (x : Element) (w : ℕ) → IsRootElement all.tables x → window.low < key_to window.level (element_key x) → key_to window.level (element_key x) ≤ window.last
      → key_to window.level (element_key x) - window.base ≡ w → Contains (weights_in_window window keys) w
  of_window window is x w root low last gives =
      subst (Contains (weights_in_window window keys)) gives
      (has_weight window is keys (element_key x) (key_at x root) (record { low = low; last = last; is = weight_inside window (element_key x) low last }))

  held : (above : List ℕ) (w : ℕ) → IsRootWeight all.tables above w → Contains (weights_by_keys keys above) w
  held [] w h =
      let x = h.element in
      let wide = widths all well_formed x h.of_root in
      let s = wide.secondary in
      let t = wide.tertiary in
      let is = h.below.0 in
      let above = h.below.1 in
      let below = h.below.2 in
      subst (λ xs. Contains xs w) (sym (by_some keys [] _ no_window)) (of_window _ primary_window x w h.of_root (omega (arith, s, t, is, above)) (omega (arith, s, t, is, below)) (omega (arith, s, t, is)))
  held (p ∷ []) w h =
      let x = h.element in
      let wide = widths all well_formed x h.of_root in
      let s = wide.secondary in
      let t = wide.tertiary in
      let is = h.below.0 in
      let same = h.below.1 in
      let some : 0 < w = (let no = h.below.2 in omega (arith, no)) in
      subst (λ xs. Contains xs w) (sym (by_some keys (p ∷ []) _ (one_window p)))
      (of_window _ (is_secondary_window p) x w h.of_root (omega (arith, s, t, is, same, some)) (omega (arith, s, t, is, same)) (omega (arith, s, t, is, same)))
  held (p ∷ r ∷ []) w h =
      let x = h.element in
      let wide = widths all well_formed x h.of_root in
      let s = wide.secondary in
      let t = wide.tertiary in
      let is = h.below.0 in
      let same = h.below.1 in
      let last = h.below.2 in
      let some : 0 < w = (let no = h.below.3 in omega (arith, no)) in
      let two : r < 2 ^ 16 = omega (arith, s, same) in
      subst (λ xs. Contains xs w) (sym (by_some keys (p ∷ r ∷ []) _ (two_bytes r two p)))
      (of_window _ (is_tertiary_window p r) x w h.of_root (omega (arith, s, t, is, same, last, some)) (omega (arith, s, t, is, same, last)) (omega (arith, s, t, is, same, last)))
  held (p ∷ r ∷ t ∷ above) w h = absurd h.below

  pub root_weights : (above : List ℕ) (w : ℕ) → Contains (weights_by_keys keys above) w ↔ IsRootWeight all.tables above w
  root_weights above w = (stands above w, held above w)

-- ---- all weights of a level

record IsPartOf (f : ℕ → ℕ) (keys : List ℕ) (w : ℕ) : Type 0 where
  key : ℕ
  among : Contains keys key
  is : f key ≡ w
  some : 0 < w

more_part : (f : ℕ → ℕ) (k : ℕ) (keys : List ℕ) (w : ℕ) → IsPartOf f keys w → IsPartOf f (k ∷ keys) w
more_part f k keys w h = record { key = h.key; among = at_rest k h.key keys h.among; is = h.is; some = h.some }

not_zero : (w : ℕ) → not (w == 0) ≡ true → 0 < w
not_zero w h = grind (arith, nat_tests)

passes : (w : ℕ) → 0 < w → not (w == 0) ≡ true
passes w h = grind (arith, nat_tests)

abbrev kept_parts : (ℕ → ℕ) → List ℕ → List ℕ
kept_parts f keys = filter (λ w. not (w == 0)) (map f keys)

part_by : (f : ℕ → ℕ) (k : ℕ) (keys : List ℕ) (w : ℕ) (b : Bool) → not (f k == 0) ≡ b → (Contains (kept_parts f keys) w → IsPartOf f keys w)
    → Contains (if b then f k ∷ kept_parts f keys else kept_parts f keys) w → IsPartOf f (k ∷ keys) w
part_by f k keys w true nonzero further has =
    elim (in_first (f k) w (kept_parts f keys) has) [
      | inl same ↦ record { key = k; among = at_first k keys; is = same; some = subst (λ v. 0 < v) same (not_zero (f k) nonzero) }
      | inr rest ↦ more_part f k keys w (further rest)
    ]
part_by f k keys w false none further has = more_part f k keys w (further has)

part_of : (f : ℕ → ℕ) (keys : List ℕ) (w : ℕ) → Contains (kept_parts f keys) w → IsPartOf f keys w
part_of f [] w has = absurd (nothing_in w has)
part_of f (k ∷ keys) w has = part_by f k keys w (not (f k == 0)) refl (part_of f keys w) has

kept_by : (w : ℕ) (ws : List ℕ) (b : Bool) → b ≡ true → Contains (if b then w ∷ ws else ws) w
kept_by w ws true h = at_first w ws
kept_by w ws false h = cc

rest_by : (v w : ℕ) (ws : List ℕ) (b : Bool) → Contains ws w → Contains (if b then v ∷ ws else ws) w
rest_by v w ws true has = at_rest v w ws has
rest_by v w ws false has = has

has_part : (f : ℕ → ℕ) (keys : List ℕ) (k : ℕ) → Contains keys k → 0 < f k → Contains (kept_parts f keys) (f k)
has_part f [] k has some = absurd (nothing_in k has)
has_part f (j ∷ keys) k has some =
    elim (in_first j k keys has) [
      | inl same ↦ subst (λ i. Contains (kept_parts f (j ∷ keys)) (f i)) same (kept_by (f j) (kept_parts f keys) (not (f j == 0)) (passes (f j) (subst (λ i. 0 < f i) (sym same) some)))
      | inr rest ↦ rest_by (f j) (f k) (kept_parts f keys) (not (f j == 0)) (has_part f keys k rest some)
    ]

module _ (keys : List ℕ) (root : roots.Root) (same : root.weights ≡ weights_by_keys keys) where
  at_weights : (above : List ℕ) (w : ℕ) → Contains (weights_by_keys keys above) w → Contains (root.weights above) w
  at_weights above w = subst (λ (weights : List ℕ → List ℕ). Contains (weights above) w) (sym same)

  from_weights : (above : List ℕ) (w : ℕ) → Contains (root.weights above) w → Contains (weights_by_keys keys above) w
  from_weights above w = subst (λ (weights : List ℕ → List ℕ). Contains (weights above) w) same

  secondary_stands : (w : ℕ) → IsPartOf (low_part Secondary) keys w → IsSecondaryOfRoot root w
  secondary_stands w h =
      let p : ℕ = h.key / 2 ^ 32 in
      let is = h.is in
      let some = h.some in
      let inside : IsInside (secondary_window (h.key / 2 ^ 32)) h.key = record {
        low = omega (arith, is, some);
        last = omega arith;
        is = weight_inside (secondary_window (h.key / 2 ^ 32)) h.key (omega (arith, is, some)) (omega arith);
      } in
      record {
        primary = p;
        stands = at_weights (p ∷ []) w (subst (λ xs. Contains xs w) (sym (by_some keys (p ∷ []) _ (one_window p)))
            (subst (Contains (weights_in_window (secondary_window p) keys)) (omega (arith, is)) (has_weight (secondary_window p) (is_secondary_window p) keys h.key h.among inside)));
      }

  secondary_part : (w : ℕ) → IsSecondaryOfRoot root w → Contains (kept_parts (low_part Secondary) keys) w
  secondary_part w h =
      let p = h.primary in
      let with = key_with (secondary_window p) (is_secondary_window p) keys w (subst (λ xs. Contains xs w) (by_some keys (p ∷ []) _ (one_window p)) (from_weights (p ∷ []) w h.stands)) in
      let low = with.inside.low in
      let last = with.inside.last in
      let gives = with.gives in
      subst (Contains (kept_parts (low_part Secondary) keys)) (omega (arith, low, last, gives)) (has_part (low_part Secondary) keys with.key with.among (omega (arith, low, last)))

  pub secondaries_are : (w : ℕ) → Contains (low_parts Secondary keys) w ↔ IsSecondaryOfRoot root w
  secondaries_are w = (λ has. secondary_stands w (part_of (low_part Secondary) keys w has), secondary_part w)

  tertiary_stands : (w : ℕ) → IsPartOf (low_part Tertiary) keys w → IsTertiaryOfRoot root w
  tertiary_stands w h =
      let p : ℕ = h.key / 2 ^ 32 in
      let s : ℕ = h.key / 2 ^ 16 % 2 ^ 16 in
      let two : s < 2 ^ 16 = omega arith in
      let is = h.is in
      let some = h.some in
      let inside : IsInside (tertiary_window (h.key / 2 ^ 32) (h.key / 2 ^ 16 % 2 ^ 16)) h.key = record {
        low = omega (arith, is, some);
        last = omega arith;
        is = weight_inside (tertiary_window (h.key / 2 ^ 32) (h.key / 2 ^ 16 % 2 ^ 16)) h.key (omega (arith, is, some)) (omega arith);
      } in
      record {
        primary = p;
        secondary = s;
        stands = at_weights (p ∷ s ∷ []) w (subst (λ xs. Contains xs w) (sym (by_some keys (p ∷ s ∷ []) _ (two_bytes s two p)))
            (subst (Contains (weights_in_window (tertiary_window p s) keys)) (omega (arith, is)) (has_weight (tertiary_window p s) (is_tertiary_window p s) keys h.key h.among inside)));
      }

  tertiary_part_by : (p s w : ℕ) → Contains (weights_by_keys keys (p ∷ s ∷ [])) w → Contains (kept_parts (low_part Tertiary) keys) w
  tertiary_part_by p s w has =
      elim (cases_lt s (2 ^ 16)) [
        | inl less ↦
            let with = key_with (tertiary_window p s) (is_tertiary_window p s) keys w (subst (λ xs. Contains xs w) (by_some keys (p ∷ s ∷ []) _ (two_bytes s less p)) has) in
            let low = with.inside.low in
            let last = with.inside.last in
            let gives = with.gives in
            subst (Contains (kept_parts (low_part Tertiary) keys)) (omega (arith, low, last, gives)) (has_part (low_part Tertiary) keys with.key with.among (omega (arith, low, last)))
        | inr most ↦ absurd (nothing_in w (subst (λ xs. Contains xs w) (by_none keys (p ∷ s ∷ []) (more_bytes s most p)) has))
      ]

  pub tertiaries_are : (w : ℕ) → Contains (low_parts Tertiary keys) w ↔ IsTertiaryOfRoot root w
  tertiaries_are w = (
    λ has. tertiary_stands w (part_of (low_part Tertiary) keys w has),
    λ h. tertiary_part_by h.primary h.secondary w (from_weights (h.primary ∷ h.secondary ∷ []) w h.stands),
  )
