-- Elements without weights and variable ones give nothing below the quaternary level.
use Rattle.std.proofs.Common.{◌≡◌, ℕ, Bool, true, false, ◌&&◌, ◌||◌, ◌==◌, nat_le, nat_lt, bit_and, List, [], ◌∷◌, ◌++◌, Option, Some, None, map, reverse, if◌then◌else◌, refl, sym, ap, ◌∙◌, inl, inr, append-nil, append_assoc}
use Rattle.std.specs.List.{list_all}
use Rattle.std.specs.declared.cmp.Ordering.{Ordering}
use Rattle.std.proofs.lemmas.Bool.{cases_Bool, and_parts, and_from, or_cases, eqb-true, eq-eqb, not-true, false≢true}
use Rattle.icu_order_texts.proofs.AppendLemmas.{weights-append}
use Rattle.icu_order_texts.proofs.HandledLemmas.{none_stayed}
use Rattle.icu_options.specs.declared.settings.AlternateHandling.{AlternateHandling}
use Rattle.icu_order_levels.specs.ListOrder.{list_order, segments_order}
use Rattle.icu_order_levels.specs.Keys.{LevelLists, in_turn, secondaries_order, cases_order, tertiaries_order, quaternaries_order, characters_order, levels_order}
use Rattle.icu_order_levels.specs.Primaries.{Compression}
use Rattle.icu_order_levels.specs.declared.forms.CaseForm.{CaseForm}
use Rattle.icu_order_levels.specs.declared.forms.KeyForm.{KeyForm}
use Rattle.icu_order_levels.specs.declared.forms.SecondaryForm.{SecondaryForm}
use Rattle.icu_order_levels.specs.declared.forms.SecondaryForm.TheVariants.{Forward, Backward}
use Rattle.icu_order_levels.specs.declared.forms.TertiaryForm.{TertiaryForm}
use Rattle.icu_order_levels.specs.declared.forms.TertiaryForm.TheVariants.{WithoutCase, LowerFirst, UpperFirst}
use Rattle.icu_table_entries.specs.Elements.{Element, tertiary_mask}
use Rattle.icu_table_entries.specs.ElementConditions.{separator_primary}
use Rattle.icu_order_texts.specs.weighting.Handled.{HandledElement, stayed, is_variable, handled_variable, handled, stayed_elements}
use Rattle.icu_order_texts.specs.weighting.Levels.{weights, primary_of, secondary_of, primaries, secondaries, parted, segments, case_reads, case_rank, cases_in, cased_mask, masked_tertiary, tertiary_in, tertiaries_in, level_lists}
use Rattle.icu_search.specs.inner.SilentStarts.{is_weightless, is_silent, begins_with_primary, gives_none, PassesNone, EndsAtTertiaries}

-- ---- elements without weights

record IsZero (x : Element) : Type 0 where
  pub primary : x.primary ≡ 0
  pub secondary : x.secondary ≡ 0
  pub lower : x.lower ≡ 0

zero_parts : (x : Element) → is_weightless x ≡ true → IsZero x
zero_parts x is =
    let parts = and_parts (x.primary == 0) _ is in
    let later = and_parts (x.secondary == 0) (x.lower == 0) parts.1 in
    record { primary = eqb-true x.primary 0 parts.0; secondary = eqb-true x.secondary 0 later.0; lower = eqb-true x.lower 0 later.1 }

zero_first : (reads has : Element → ℕ) (x : Element) (xs : List Element) → reads x ≡ 0 → weights reads has (x ∷ xs) ≡ weights reads has xs
unfolding weights
zero_first reads has x xs none = ap (λ b. if b then weights reads has xs else has x ∷ weights reads has xs) (eq-eqb (reads x) 0 none)

-- what reads nothing of an element without weights has nothing of several
zeros_first : (reads has : Element → ℕ) → ((x : Element) → IsZero x → reads x ≡ 0) → (zeros es : List Element) → list_all is_weightless zeros ≡ true → weights reads has (zeros ++ es) ≡ weights reads has es
zeros_first reads has none [] es all = refl
zeros_first reads has none (x ∷ zeros) es all =
    let parts = and_parts (is_weightless x) _ all in
    zero_first reads has x (zeros ++ es) (none x (zero_parts x parts.0)) ∙ zeros_first reads has none zeros es parts.1

parted_zero : (x : Element) (xs : List Element) → IsZero x → parted (x ∷ xs) ≡ parted xs
unfolding parted
parted_zero x xs zero =
    let separated : List ℕ × List (List ℕ) = ([], (parted xs).0 ∷ (parted xs).1) in
    let weighted : List ℕ × List (List ℕ) = (x.secondary ∷ (parted xs).0, (parted xs).1) in
    ap (λ p. if p == separator_primary then separated else if x.secondary == 0 then parted xs else weighted) zero.primary
    ∙ ap (λ b. if b then parted xs else weighted) (eq-eqb x.secondary 0 zero.secondary)

parted_zeros : (zeros es : List Element) → list_all is_weightless zeros ≡ true → parted (zeros ++ es) ≡ parted es
parted_zeros [] es all = refl
parted_zeros (x ∷ zeros) es all =
    let parts = and_parts (is_weightless x) _ all in
    parted_zero x (zeros ++ es) (zero_parts x parts.0) ∙ parted_zeros zeros es parts.1

case_reads_nothing : (before : Option SecondaryForm) (x : Element) → IsZero x → case_reads before x ≡ 0
case_reads_nothing None x zero = zero.primary
case_reads_nothing (Some form) x zero = zero.secondary

tertiary_reads_nothing : (form : TertiaryForm) (x : Element) → IsZero x → masked_tertiary form x ≡ 0
tertiary_reads_nothing WithoutCase x zero = ap (λ w. bit_and w tertiary_mask) zero.lower
tertiary_reads_nothing LowerFirst x zero = ap (λ w. bit_and w cased_mask) zero.lower
tertiary_reads_nothing UpperFirst x zero = ap (λ w. bit_and w cased_mask) zero.lower

cases_zeros : (before : Option SecondaryForm) (form : Option CaseForm) (zeros es : List Element) → list_all is_weightless zeros ≡ true → cases_in before form (zeros ++ es) ≡ cases_in before form es
cases_zeros before None zeros es all = refl
cases_zeros before (Some form) zeros es all = zeros_first (case_reads before) (case_rank form) (case_reads_nothing before) zeros es all

tertiaries_zeros : (form : Option TertiaryForm) (zeros es : List Element) → list_all is_weightless zeros ≡ true → tertiaries_in form (zeros ++ es) ≡ tertiaries_in form es
tertiaries_zeros None zeros es all = refl
tertiaries_zeros (Some form) zeros es all = zeros_first (masked_tertiary form) (tertiary_in form) (tertiary_reads_nothing form) zeros es all

-- ---- what stays

first_of : (a b : Bool) → (a || b) ≡ true → b ≡ false → a ≡ true
first_of true b h none = refl
first_of false b h none = sym none ∙ h

never_variable : (last : ℕ) (x : Element) → IsZero x → is_variable last x ≡ false
never_variable last x zero = ap (λ p. nat_lt separator_primary p && nat_le p last) zero.primary

module _ (handling : AlternateHandling) (last : ℕ) where
  abbrev staying : Bool → List Element → List Element
  staying after es = stayed_elements (handled handling last after es)

  abbrev by_tests : Element → List Element → Bool → Bool → List Element
  by_tests x xs variable goes =
      stayed_elements (if variable then handled_variable handling x.primary ++ handled handling last true xs else if goes then handled handling last true xs else stayed x ∷ handled handling last false xs)

  variable_first : (after : Bool) (x : Element) (xs : List Element) → is_variable last x ≡ true → staying after (x ∷ xs) ≡ staying true xs
  unfolding handled
  variable_first after x xs is = ap (λ b. by_tests x xs b (after && x.primary == 0)) is ∙ none_stayed handling x.primary (handled handling last true xs)

  zero_vanishes : (x : Element) (xs : List Element) → x.primary ≡ 0 → is_variable last x ≡ false → staying true (x ∷ xs) ≡ staying true xs
  unfolding handled
  zero_vanishes x xs none other = ap (λ b. by_tests x xs b (true && x.primary == 0)) other ∙ ap (by_tests x xs false) (eq-eqb x.primary 0 none)

  zero_stays : (x : Element) (xs : List Element) → IsZero x → staying false (x ∷ xs) ≡ x ∷ staying false xs
  unfolding handled
  zero_stays x xs zero = ap (λ b. by_tests x xs b false) (never_variable last x zero)

  -- elements without weights stay, and change nothing
  zeros_stay : (zeros es : List Element) → list_all is_weightless zeros ≡ true → staying false (zeros ++ es) ≡ zeros ++ staying false es
  zeros_stay [] es all = refl
  zeros_stay (x ∷ zeros) es all =
      let parts = and_parts (is_weightless x) _ all in
      zero_stays x (zeros ++ es) (zero_parts x parts.0) ∙ ap (λ (l : List Element). x ∷ l) (zeros_stay zeros es parts.1)

  -- before elements that begin with a primary weight, nothing depends on what came last
  primary_first : (after : Bool) (es : List Element) → begins_with_primary es ≡ true → staying after es ≡ staying false es
  unfolding handled
  primary_first false es begins = refl
  primary_first true [] begins = refl
  primary_first true (x ∷ xs) begins =
      ap (by_tests x xs (is_variable last x)) (not-true (x.primary == 0) begins)

  -- silent elements leave some without weights
  pub record Leaves (after : Bool) (own es : List Element) : Type 0 where
    pub zeros : List Element
    pub all : list_all is_weightless zeros ≡ true
    pub is : staying after (own ++ es) ≡ zeros ++ staying false es

  leaves_more : (after flag : Bool) (x : Element) (own es : List Element) → staying after (x ∷ own ++ es) ≡ staying flag (own ++ es) → Leaves flag own es → Leaves after (x ∷ own) es
  leaves_more after flag x own es same r = record { zeros = r.zeros; all = r.all; is = same ∙ r.is }

  zero_left : (after : Bool) (x : Element) (own es : List Element) → is_weightless x ≡ true → Leaves after own es → Leaves after (x ∷ own) es
  zero_left true x own es zero r = leaves_more true true x own es (zero_vanishes x (own ++ es) (zero_parts x zero).primary (never_variable last x (zero_parts x zero))) r
  zero_left false x own es zero r = record {
    zeros = x ∷ r.zeros;
    all = and_from (is_weightless x) _ zero r.all;
    is = zero_stays x (own ++ es) (zero_parts x zero) ∙ ap (λ (l : List Element). x ∷ l) r.is;
  }

  vanishes_left : (after : Bool) (x : Element) (own es : List Element) → is_variable last x ≡ false → (after && x.primary == 0) ≡ true → Leaves after own es → Leaves after (x ∷ own) es
  vanishes_left true x own es other none r = leaves_more true true x own es (zero_vanishes x (own ++ es) (eqb-true x.primary 0 none) other) r
  vanishes_left false x own es other none r = absurd (false≢true none)

  -- elements that give nothing do
  pub none_leave : (own es : List Element) → begins_with_primary es ≡ true → (after : Bool) → gives_none last after own ≡ true → Leaves after own es
  unfolding gives_none
  none_leave [] es begins after all = record { zeros = []; all = refl; is = primary_first after es begins }
  none_leave (x ∷ own) es begins after all =
      let vanishing : Bool = is_weightless x || (after && x.primary == 0) in
      elim (cases_Bool (is_variable last x)) as (λ _. Leaves after (x ∷ own) es) [
        | inl is ↦
            leaves_more after true x own es (variable_first after x (own ++ es) is)
            (none_leave own es begins true (sym (ap (λ b. if b then gives_none last true own else vanishing && gives_none last after own) is) ∙ all))
        | inr other ↦
            let parts = and_parts vanishing (gives_none last after own) (sym (ap (λ b. if b then gives_none last true own else vanishing && gives_none last after own) other) ∙ all) in
            let rest = none_leave own es begins after parts.1 in
            elim (or_cases (is_weightless x) (after && x.primary == 0) parts.0) as (λ _. Leaves after (x ∷ own) es) [
              | inl zero ↦ zero_left after x own es zero rest
              | inr none ↦ vanishes_left after x own es other none rest
            ]
      ]

  pub zeros_leave : (own es : List Element) → list_all is_weightless own ≡ true → Leaves false own es
  zeros_leave own es all = record { zeros = own; all = all; is = zeros_stay own es all }

-- behind others they leave some without weights
pub nothing_stays : (handling : AlternateHandling) (last : ℕ) → stayed_elements (handled handling last false []) ≡ []
unfolding handled
nothing_stays handling last = refl

pub left_behind : (handling : AlternateHandling) (last : ℕ) (after : Bool) (own : List Element) (r : Leaves handling last after own []) → stayed_elements (handled handling last after own) ≡ r.zeros
left_behind handling last after own r =
    ap (λ (es : List Element). stayed_elements (handled handling last after es)) (sym (append-nil own))
    ∙ r.is ∙ ap (λ (es : List Element). r.zeros ++ es) (nothing_stays handling last) ∙ append-nil r.zeros

-- ---- elements that give nothing

-- silent ones do
pub silent_gives_none : (last : ℕ) (es : List Element) → list_all (is_silent last) es ≡ true → (after : Bool) → gives_none last after es ≡ true
unfolding gives_none
silent_gives_none last [] all after = refl
silent_gives_none last (x ∷ xs) all after =
    let parts = and_parts (is_silent last x) _ all in
    let vanishing : Bool = is_weightless x || (after && x.primary == 0) in
    elim (cases_Bool (is_variable last x)) [
      | inl is ↦ ap (λ b. if b then gives_none last true xs else vanishing && gives_none last after xs) is ∙ silent_gives_none last xs parts.1 true
      | inr other ↦
          ap (λ b. if b then gives_none last true xs else vanishing && gives_none last after xs) other
          ∙ and_from vanishing (gives_none last after xs)
          (ap (λ b. b || (after && x.primary == 0)) (first_of (is_weightless x) (is_variable last x) parts.0 other)) (silent_gives_none last xs parts.1 after)
    ]

-- and so do those with which some begin that do
pub none_within : (last : ℕ) (xs ys : List Element) (after : Bool) → gives_none last after (xs ++ ys) ≡ true → gives_none last after xs ≡ true
unfolding gives_none
none_within last [] ys after all = refl
none_within last (x ∷ xs) ys after all =
    let vanishing : Bool = is_weightless x || (after && x.primary == 0) in
    elim (cases_Bool (is_variable last x)) [
      | inl is ↦
          ap (λ b. if b then gives_none last true xs else vanishing && gives_none last after xs) is
          ∙ none_within last xs ys true (sym (ap (λ b. if b then gives_none last true (xs ++ ys) else vanishing && gives_none last after (xs ++ ys)) is) ∙ all)
      | inr other ↦
          let parts = and_parts vanishing (gives_none last after (xs ++ ys)) (sym (ap (λ b. if b then gives_none last true (xs ++ ys) else vanishing && gives_none last after (xs ++ ys)) other) ∙ all) in
          ap (λ b. if b then gives_none last true xs else vanishing && gives_none last after xs) other
          ∙ and_from vanishing (gives_none last after xs) parts.0 (none_within last xs ys after parts.1)
    ]

-- what follows elements, one after another, by what they leave
pub record Carries (last : ℕ) (gone : List Element) (after : Bool) : Type 0 where
  pub none : (xs : List Element) → gives_none last false (gone ++ xs) ≡ gives_none last after xs
  pub weightless : after ≡ false → list_all is_weightless gone ≡ true

pub carries_none : (last : ℕ) → Carries last [] false
carries_none last = record { none = λ xs. refl; weightless = λ is. refl }

pub passes_variable : (last : ℕ) (after : Bool) (x : Element) → is_variable last x ≡ true → PassesNone last after x true
unfolding gives_none
passes_variable last after x is = record {
  none = λ xs. ap (λ b. if b then gives_none last true xs else (is_weightless x || (after && x.primary == 0)) && gives_none last after xs) is;
  weightless = λ never. absurd (false≢true (sym never));
}

pub passes_vanishing : (last : ℕ) (after : Bool) (x : Element) → is_variable last x ≡ false → (is_weightless x || (after && x.primary == 0)) ≡ true → PassesNone last after x after
unfolding gives_none
passes_vanishing last after x other vanishing = record {
  none = λ xs.
      ap (λ b. if b then gives_none last true xs else (is_weightless x || (after && x.primary == 0)) && gives_none last after xs) other
      ∙ ap (λ b. b && gives_none last after xs) vanishing;
  weightless = λ not. (not, or_first (is_weightless x) (after && x.primary == 0) vanishing (ap (λ b. b && x.primary == 0) not));
}
  where
    or_first : (a b : Bool) → (a || b) ≡ true → b ≡ false → a ≡ true
    or_first true b h none = refl
    or_first false b h none = sym none ∙ h

all_behind : (es : List Element) (y : Element) → list_all is_weightless es ≡ true → is_weightless y ≡ true → list_all is_weightless (es ++ y ∷ []) ≡ true
all_behind [] y all zero = and_from (is_weightless y) true zero refl
all_behind (e ∷ es) y all zero =
    let parts = and_parts (is_weightless e) _ all in
    and_from (is_weightless e) _ parts.0 (all_behind es y parts.1 zero)

pub carries_on : (last : ℕ) (gone : List Element) (after : Bool) (x : Element) (now : Bool) → Carries last gone after → PassesNone last after x now → Carries last (gone ++ x ∷ []) now
carries_on last gone after x now r p = record {
  none = λ xs. ap (gives_none last false) (append_assoc gone (x ∷ []) xs) ∙ r.none (x ∷ xs) ∙ p.none xs;
  weightless = λ not. let w = p.weightless not in all_behind gone x (r.weightless w.0) w.1;
}

-- ---- the lists below the quaternary level, and their order

-- two texts have the same lists up to the tertiary level
pub record AreSameBelow (t u : LevelLists) : Type 0 where
  pub primaries : t.primaries ≡ u.primaries
  pub secondaries : t.secondaries ≡ u.secondaries
  pub segments : t.segments ≡ u.segments
  pub cases : t.cases ≡ u.cases
  pub tertiaries : t.tertiaries ≡ u.tertiaries

pub same_lists : (reorder : ℕ → ℕ) (form : KeyForm) (hs ks : List HandledElement) (text other : List ℕ) (zeros : List Element) → list_all is_weightless zeros ≡ true
    → stayed_elements hs ≡ zeros ++ stayed_elements ks → AreSameBelow (level_lists reorder form hs text) (level_lists reorder form ks other)
same_lists reorder form hs ks text other zeros all is =
    let es = stayed_elements ks in
    record {
      primaries = ap primaries is ∙ zeros_first primary_of primary_of (λ x zero. zero.primary) zeros es all;
      secondaries = ap secondaries is ∙ zeros_first secondary_of secondary_of (λ x zero. zero.secondary) zeros es all;
      segments = ap segments is ∙ ap (λ p. map reverse (p.0 ∷ p.1)) (parted_zeros zeros es all);
      cases = ap (cases_in form.secondary form.cases) is ∙ cases_zeros form.secondary form.cases zeros es all;
      tertiaries = ap (tertiaries_in form.tertiary) is ∙ tertiaries_zeros form.tertiary zeros es all;
    }

-- ---- the same behind others

no_weights_of_none : (reads has : Element → ℕ) → weights reads has [] ≡ []
unfolding weights
no_weights_of_none reads has = refl

zeros_last : (reads has : Element → ℕ) → ((x : Element) → IsZero x → reads x ≡ 0) → (es zeros : List Element) → list_all is_weightless zeros ≡ true → weights reads has (es ++ zeros) ≡ weights reads has es
zeros_last reads has none es zeros all =
    weights-append reads has es zeros
    ∙ ap (λ (l : List ℕ). weights reads has es ++ l)
    (ap (weights reads has) (sym (append-nil zeros)) ∙ zeros_first reads has none zeros [] all ∙ no_weights_of_none reads has)
    ∙ append-nil (weights reads has es)

parted_last : (es zeros : List Element) → list_all is_weightless zeros ≡ true → parted (es ++ zeros) ≡ parted es
unfolding parted
parted_last [] zeros all = ap parted (sym (append-nil zeros)) ∙ parted_zeros zeros [] all
parted_last (x ∷ es) zeros all =
    ap
    (λ (p : List ℕ × List (List ℕ)).
    if x.primary == separator_primary then ([], p.0 ∷ p.1) else if x.secondary == 0 then p else (x.secondary ∷ p.0, p.1))
    (parted_last es zeros all)

cases_last : (before : Option SecondaryForm) (form : Option CaseForm) (es zeros : List Element) → list_all is_weightless zeros ≡ true → cases_in before form (es ++ zeros) ≡ cases_in before form es
cases_last before None es zeros all = refl
cases_last before (Some form) es zeros all = zeros_last (case_reads before) (case_rank form) (case_reads_nothing before) es zeros all

tertiaries_last : (form : Option TertiaryForm) (es zeros : List Element) → list_all is_weightless zeros ≡ true → tertiaries_in form (es ++ zeros) ≡ tertiaries_in form es
tertiaries_last None es zeros all = refl
tertiaries_last (Some form) es zeros all = zeros_last (masked_tertiary form) (tertiary_in form) (tertiary_reads_nothing form) es zeros all

pub same_lists_last : (reorder : ℕ → ℕ) (form : KeyForm) (hs ks : List HandledElement) (text other : List ℕ) (zeros : List Element) → list_all is_weightless zeros ≡ true
    → stayed_elements hs ≡ stayed_elements ks ++ zeros → AreSameBelow (level_lists reorder form hs text) (level_lists reorder form ks other)
same_lists_last reorder form hs ks text other zeros all is =
    let es = stayed_elements ks in
    record {
      primaries = ap primaries is ∙ zeros_last primary_of primary_of (λ x zero. zero.primary) es zeros all;
      secondaries = ap secondaries is ∙ zeros_last secondary_of secondary_of (λ x zero. zero.secondary) es zeros all;
      segments = ap segments is ∙ ap (λ p. map reverse (p.0 ∷ p.1)) (parted_last es zeros all);
      cases = ap (cases_in form.secondary form.cases) is ∙ cases_last form.secondary form.cases es zeros all;
      tertiaries = ap (tertiaries_in form.tertiary) is ∙ tertiaries_last form.tertiary es zeros all;
    }

secondaries_same : (form : Option SecondaryForm) (t u p : LevelLists) → AreSameBelow t u → secondaries_order form t p ≡ secondaries_order form u p
secondaries_same None t u p same = refl
secondaries_same (Some Forward) t u p same = ap (λ l. list_order l p.secondaries) same.secondaries
secondaries_same (Some Backward) t u p same = ap (λ l. segments_order l p.segments) same.segments

cases_same : (form : Option CaseForm) (t u p : LevelLists) → AreSameBelow t u → cases_order form t p ≡ cases_order form u p
cases_same None t u p same = refl
cases_same (Some form) t u p same = ap (λ l. list_order l p.cases) same.cases

tertiaries_same : (form : Option TertiaryForm) (t u p : LevelLists) → AreSameBelow t u → tertiaries_order form t p ≡ tertiaries_order form u p
tertiaries_same None t u p same = refl
tertiaries_same (Some form) t u p same = ap (λ l. list_order l p.tertiaries) same.tertiaries

all_in_turn : (a b c d e f x y z v w u : Ordering) → a ≡ x → b ≡ y → c ≡ z → d ≡ v → e ≡ w → f ≡ u → in_turn (a ∷ b ∷ c ∷ d ∷ e ∷ f ∷ []) ≡ in_turn (x ∷ y ∷ z ∷ v ∷ w ∷ u ∷ [])
all_in_turn a b c d e f x y z v w u ax by cz dv ew fu = cc

-- so where no level counts from the quaternary one on, they are compared alike
pub same_below_order : (c : Compression) (f : KeyForm) (t u p : LevelLists) → EndsAtTertiaries f → AreSameBelow t u → levels_order c f t p ≡ levels_order c f u p
same_below_order c f t u p ends same =
    all_in_turn _ _ _ _ _ _ _ _ _ _ _ _
    (ap (λ l. list_order (map c.reorder l) (map c.reorder p.primaries)) same.primaries)
    (secondaries_same f.secondary t u p same)
    (cases_same f.cases t u p same)
    (tertiaries_same f.tertiary t u p same)
    (ap (λ q. quaternaries_order q t p) ends.quaternary ∙ sym (ap (λ q. quaternaries_order q u p) ends.quaternary))
    (ap (λ b. characters_order b t p) ends.identical ∙ sym (ap (λ b. characters_order b u p) ends.identical))
