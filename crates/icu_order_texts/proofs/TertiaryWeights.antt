-- The tertiaries that well-formed tables give are as their level asks, with and without case bits.
use Rattle.std.proofs.Common.{◌≡◌, ◌≢◌, ◌⊎◌, ℕ, ◌+◌, ◌*◌, ◌/◌, ◌%◌, ◌^◌, ◌<◌, ◌≤◌, Bool, true, false, not, ◌&&◌, ◌||◌, ◌==◌, if◌then◌else◌, nat_lt, refl, sym, ap, ◌∙◌, subst, arith, inl, inr, lit<, lit≤}
use Rattle.std.specs.Prelude.{bit_and, bit_xor}
use Rattle.std.specs.Int.Bits.{xor_add_and}
use Rattle.std.proofs.lemmas.Nat.{and_le_r, and_mod, and_assoc}
use Rattle.std.proofs.lemmas.Nat.Bits.{and_high}
use Rattle.std.proofs.lemmas.Bool.{and_parts}
use Rattle.std.proofs.lemmas.Bool.Decides.{nat_tests}
use Rattle.icu_element_matches.proofs.steady_matches.LongestLemmas.{implied}
use Rattle.icu_order_levels.specs.WeightBytes.{weight_bytes}
use Rattle.icu_order_levels.specs.Tertiaries.{tertiary_runs}
use Rattle.icu_order_levels.specs.declared.forms.TertiaryForm.{TertiaryForm}
use Rattle.icu_order_levels.specs.declared.forms.TertiaryForm.TheVariants.{WithoutCase, LowerFirst, UpperFirst}
use Rattle.icu_order_levels.specs.Premises.{AreTertiaries, IsPrefixFree, least_tertiary_lead, greatest_tertiary_lead}
use Rattle.icu_order_levels.proofs.MovedWeights.{begins_lead}
use Rattle.icu_order_levels.proofs.CasedTertiaries.{lower_cased, upper_cased}
use Rattle.icu_table_entries.specs.declared.error.DataTable.{DataTable}
use Rattle.icu_table_entries.specs.Elements.{Element, common, case_mask, tertiary_mask}
use Rattle.icu_table_entries.specs.ElementConditions.{has_shape, has_whole_weights, has_weights_below, has_lower_half, has_secondary_lead, has_tertiary_lead, tertiary_of}
use Rattle.icu_table_provider.specs.declared.well_formed.condition.Condition.TheVariants as conditions
use Rattle.icu_table_provider.specs.declared.well_formed.condition.ReachableElementCondition.TheVariants.{Width, TertiaryElement}
use Rattle.icu_table_provider.specs.declared.well_formed.condition.PairCondition.TheVariants.{Tertiaries}
use Rattle.icu_table_provider.specs.CollatorTables.{CollatorTables}
use Rattle.icu_table_provider.specs.well_formed.ElementConditions.{is_tertiary_element, is_high_tertiary_element, upper_case}
use Rattle.icu_table_provider.specs.well_formed.ReachableElements.{IsElementBy}
use Rattle.icu_table_provider.specs.well_formed.WellFormedTables.{IsWellFormedTables}
use Rattle.icu_order_texts.specs.weighting.Levels.{cased_mask, masked_tertiary, tertiary_in}
use Rattle.icu_order_texts.specs.ReachableWeights.{IsLevelWeight, IsReachableTertiary}
use Rattle.icu_order_texts.proofs.ReachableElementLemmas.{reachable-shape, reachable-leads, other_part}

-- ---- bits of a lower half

tertiary_small : (l : ℕ) → bit_and l tertiary_mask < 0x4000
tertiary_small l = omega (arith, and_le_r l tertiary_mask)

-- the case of a half
pub case_bits : (l : ℕ) → l < 2 ^ 16 → bit_and l case_mask ≡ l / 0x4000 * 0x4000
case_bits l small = omega (arith, and_high l 2 14)

pub cased_low : (l : ℕ) → bit_and l cased_mask % 0x4000 ≡ bit_and l tertiary_mask
cased_low l = omega (arith, and_mod l cased_mask 14, and_mod l tertiary_mask 14, tertiary_small l)

cased_high : (l : ℕ) → l < 2 ^ 16 → bit_and l cased_mask / 0x4000 ≡ l / 0x4000
cased_high l small =
    omega (arith, and_assoc case_mask l cased_mask, case_bits l small, case_bits (bit_and l cased_mask) (omega (arith, and_le_r l cased_mask)))

inverted : (w : ℕ) → w < 2 ^ 16 → bit_xor w case_mask + w / 0x4000 * 0x4000 * 2 ≡ w + 0xC000
inverted w small = omega (arith, xor_add_and w case_mask, case_bits w small)

-- ---- tertiaries without case bits

lead_from_test : (t : ℕ) → has_tertiary_lead t ≡ true → t ≢ 0 → (2 ≤ t / 256) × ((t / 256 ≤ 0x3F) × (t ≢ 0x500 → t / 256 ≢ 5))
unfolding has_tertiary_lead
lead_from_test t h some = (grind (arith, nat_tests), (grind (arith, nat_tests), λ other. grind (arith, nat_tests)))

-- ---- the common weight beside others

abbrev WithCommon : TertiaryForm → (ℕ → Type 0) → ℕ → Type 0
WithCommon form IsReachable t = (t ≡ (tertiary_runs form).common) ⊎ IsReachable t

least_some : (form : TertiaryForm) → 0 < least_tertiary_lead form
least_some WithoutCase = lit< tt
least_some LowerFirst = lit< tt
least_some UpperFirst = lit< tt

common_least : (form : TertiaryForm) → least_tertiary_lead form ≤ (tertiary_runs form).common / 256
common_least WithoutCase = lit≤ tt
common_least LowerFirst = lit≤ tt
common_least UpperFirst = lit≤ tt

common_greatest : (form : TertiaryForm) → (tertiary_runs form).common / 256 ≤ greatest_tertiary_lead form
common_greatest WithoutCase = lit≤ tt
common_greatest LowerFirst = lit≤ tt
common_greatest UpperFirst = lit≤ tt

module _ (form : TertiaryForm) (IsReachable : ℕ → Type 0) (well_formed : AreTertiaries form IsReachable) where
  least : (w : ℕ) → WithCommon form IsReachable w → least_tertiary_lead form ≤ w / 256
  least w (inl is) = subst (λ w. least_tertiary_lead form ≤ w / 256) (sym is) (common_least form)
  least w (inr h) = well_formed.least w h

  greatest : (w : ℕ) → WithCommon form IsReachable w → w / 256 ≤ greatest_tertiary_lead form
  greatest w (inl is) = subst (λ w. w / 256 ≤ greatest_tertiary_lead form) (sym is) (common_greatest form)
  greatest w (inr h) = well_formed.greatest w h

  leads : (w : ℕ) → WithCommon form IsReachable w → w ≢ (tertiary_runs form).common → w / 256 ≢ (tertiary_runs form).common / 256
  leads w (inl is) n = λ e. n is
  leads w (inr h) n = well_formed.leads w h n

  some_lead : (w : ℕ) → WithCommon form IsReachable w → 0 < w / 256
  some_lead w h = omega (arith, least_some form, least w h)

  free : IsPrefixFree (weight_bytes 2) (WithCommon form IsReachable)
  free v w p q n b = by p q
    where
      one_lead : v / 256 ≡ w / 256
      one_lead = begins_lead v w (some_lead v p) (some_lead w q) b

      by : WithCommon form IsReachable v → WithCommon form IsReachable w → ⊥
      by (inl is) k = leads w q (λ e. n (is ∙ sym e)) (sym one_lead ∙ ap (λ v. v / 256) is)
      by (inr h) (inl is) = leads v p (λ e. n (e ∙ sym is)) (one_lead ∙ ap (λ w. w / 256) is)
      by (inr h) (inr k) = well_formed.prefix_free v w h k n b

  with_common : AreTertiaries form (WithCommon form IsReachable)
  with_common = record { least = least; greatest = greatest; leads = leads; prefix_free = free }

-- ---- lower halves of reachable elements

-- of a half with case bits: its tertiary isn't 0 either, and its case bits are lower, mixed or upper
cased_parts : (l : ℕ) → l < 2 ^ 16 → (not (bit_and l tertiary_mask == 0) || l == 0) ≡ true → not (bit_and l case_mask == case_mask) ≡ true
    → bit_and l cased_mask ≢ 0 → (bit_and l tertiary_mask ≢ 0) × (l / 0x4000 < 3)
cased_parts l small h apart some = (
  λ none.
      let empty : (l == 0) ≡ true = other_part (not (bit_and l tertiary_mask == 0)) (l == 0) h (grind (arith, nat_tests)) in
      let zero : l ≡ 0 = grind (arith, nat_tests) in
      some (ap (λ l. bit_and l cased_mask) zero),
  let other : bit_and l case_mask ≢ case_mask = grind (arith, nat_tests) in
      omega (arith, other, case_bits l small),
)

module _ (all : CollatorTables) (well_formed : IsWellFormedTables all) where
  -- of reachable elements
  abbrev OfElement : TertiaryForm → ℕ → Type 0
  OfElement form = IsLevelWeight (masked_tertiary form) (tertiary_in form) all

  plain_lead : (t : ℕ) → OfElement WithoutCase t → (2 ≤ t / 256) × ((t / 256 ≤ 0x3F) × (t ≢ 0x500 → t / 256 ≢ 5))
  plain_lead t w =
      let x = w.element in
      let tests = and_parts (has_secondary_lead true x.secondary) (has_tertiary_lead (tertiary_of x)) (reachable-leads all well_formed w.table x w.reachable) in
      subst (λ t. (2 ≤ t / 256) × ((t / 256 ≤ 0x3F) × (t ≢ 0x500 → t / 256 ≢ 5))) (sym w.is)
      (lead_from_test (tertiary_of x) tests.1 w.some)

  plain_tertiaries : AreTertiaries WithoutCase (OfElement WithoutCase)
  plain_tertiaries = record {
    least = λ t w. (plain_lead t w).0;
    greatest = λ t w. (plain_lead t w).1.0;
    leads = λ t w. (plain_lead t w).1.1;
    prefix_free = λ v w p q n b.
        well_formed.each (conditions.Pair Tertiaries) p.table q.table p.element p.reachable q.element q.reachable p.some q.some
        (λ e. n (p.is ∙ e ∙ sym q.is)) (rw (p.is, q.is) at b);
  }

  -- what the conditions say of an element that has a tertiary
  record HasCase (x : Element) : Type 0 where
    small : x.lower < 2 ^ 16
    some : tertiary_of x ≢ 0
    rank : x.lower / 0x4000 < 3
    alone : x.secondary ≡ 0 → x.lower / 0x4000 ≡ 2

  alone_case : (x : Element) → x.lower < 2 ^ 16 → tertiary_of x ≢ 0 → (not (is_tertiary_element x) || is_high_tertiary_element x) ≡ true
      → x.secondary ≡ 0 → x.lower / 0x4000 ≡ 2
  alone_case x small some h none =
      let tertiary_element : is_tertiary_element x ≡ true = grind (arith, nat_tests) in
      let high = and_parts (bit_and x.lower case_mask == upper_case) (nat_lt common (tertiary_of x)) (implied (is_tertiary_element x) (is_high_tertiary_element x) h tertiary_element) in
      let case : bit_and x.lower case_mask ≡ 0x8000 = grind (arith, nat_tests) in
      omega (arith, case, case_bits x.lower small)

  has_case : (table : DataTable) (x : Element) → IsElementBy table all.tables x → bit_and x.lower cased_mask ≢ 0 → HasCase x
  unfolding has_shape
  has_case table x reachable some =
      let widths = and_parts (nat_lt x.primary (2 ^ 32) && nat_lt x.secondary (2 ^ 16)) (nat_lt x.lower (2 ^ 16))
      (well_formed.each (conditions.Element Width) table x reachable) in
      let small : x.lower < 2 ^ 16 = grind (arith, nat_tests) in
      let shape = and_parts (has_whole_weights x && has_weights_below x) (has_lower_half x) (reachable-shape all well_formed table x reachable) in
      let half = and_parts (not (tertiary_of x == 0) || x.lower == 0) (not (bit_and x.lower case_mask == case_mask)) shape.1 in
      let parts = cased_parts x.lower small half.0 half.1 some in
      record {
        small = small;
        some = parts.0;
        rank = parts.1;
        alone = alone_case x small parts.0 (well_formed.each (conditions.Element TertiaryElement) table x reachable);
      }

  of_plain : (table : DataTable) (x : Element) → IsElementBy table all.tables x → tertiary_of x ≢ 0 → OfElement WithoutCase (tertiary_of x)
  of_plain table x reachable some = record { table = table; element = x; reachable = reachable; some = some; is = refl }

  lower_parts : (w : ℕ) → OfElement LowerFirst w → OfElement WithoutCase (w % 0x4000) × (w / 0x4000 < 3)
  lower_parts v w =
      let x = w.element in
      let case = has_case w.table x w.reachable w.some in
      let low : v % 0x4000 ≡ tertiary_of x = ap (λ v. v % 0x4000) w.is ∙ cased_low x.lower in (
        subst (OfElement WithoutCase) (sym low) (of_plain w.table x w.reachable case.some),
        omega (arith, w.is, cased_high x.lower case.small, case.rank),
      )

  -- case bits inverted
  inverted_parts : (l : ℕ) → l < 2 ^ 16 → l / 0x4000 < 3 → (bit_xor (bit_and l cased_mask) case_mask % 0x4000 ≡ bit_and l tertiary_mask)
      × (0 < bit_xor (bit_and l cased_mask) case_mask / 0x4000) × (bit_xor (bit_and l cased_mask) case_mask / 0x4000 < 4)
  inverted_parts l small rank =
      let m = bit_and l cased_mask in
      let within : m < 2 ^ 16 = omega (arith, and_le_r l cased_mask) in
      let high = cased_high l small in
      let turned = inverted m within in
      (omega (arith, turned, high, cased_low l, rank), omega (arith, turned, high, rank), omega (arith, turned, high, rank))

  -- 4000 added to the case bits 10
  added_parts : (l : ℕ) → l < 2 ^ 16 → l / 0x4000 ≡ 2 → ((bit_and l cased_mask + 0x4000) % 0x4000 ≡ bit_and l tertiary_mask)
      × (0 < (bit_and l cased_mask + 0x4000) / 0x4000) × ((bit_and l cased_mask + 0x4000) / 0x4000 < 4)
  added_parts l small two =
      let high = cased_high l small in
      (omega (arith, cased_low l), omega arith, omega (arith, high, two))

  abbrev UpperParts : ℕ → ℕ → Type 0
  UpperParts l w = (w % 0x4000 ≡ bit_and l tertiary_mask) × (0 < w / 0x4000) × (w / 0x4000 < 4)

  upper_of : (b : Bool) (l : ℕ) → l < 2 ^ 16 → l / 0x4000 < 3 → (b ≡ true → l / 0x4000 ≡ 2)
      → UpperParts l (if b then bit_and l cased_mask + 0x4000 else bit_xor (bit_and l cased_mask) case_mask)
  upper_of true l small rank two = added_parts l small (two refl)
  upper_of false l small rank two = inverted_parts l small rank

  upper_parts : (w : ℕ) → OfElement UpperFirst w → OfElement WithoutCase (w % 0x4000) × (0 < w / 0x4000) × (w / 0x4000 < 4)
  upper_parts v w =
      let x = w.element in
      let case = has_case w.table x w.reachable w.some in
      let parts : UpperParts x.lower v = subst (UpperParts x.lower) (sym w.is)
      (upper_of (x.secondary == 0) x.lower case.small case.rank (λ e. case.alone (grind (arith, nat_tests)))) in
      (subst (OfElement WithoutCase) (sym parts.0) (of_plain w.table x w.reachable case.some), parts.1, parts.2)

  of_elements : (form : TertiaryForm) → AreTertiaries form (OfElement form)
  of_elements WithoutCase = plain_tertiaries
  of_elements LowerFirst = lower_cased (OfElement WithoutCase) (OfElement LowerFirst) plain_tertiaries lower_parts
  of_elements UpperFirst = upper_cased (OfElement WithoutCase) (OfElement UpperFirst) plain_tertiaries upper_parts

  pub reachable_tertiaries : (form : TertiaryForm) → AreTertiaries form (IsReachableTertiary all form)
  reachable_tertiaries form = with_common form (OfElement form) (of_elements form)
