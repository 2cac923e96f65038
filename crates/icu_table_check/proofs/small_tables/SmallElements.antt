-- The elements of the small tables, and what the conditions on elements ask of them.
use Rattle.std.proofs.Common.{◌≡◌, ◌≢◌, ◌⊎◌, ◌<◌, ◌+◌, ◌/◌, ◌%◌, ◌^◌, ◌&&◌, ◌||◌, ℕ, Bool, true, false, not, List, map, [], ◌∷◌, refl, sym, ap, subst, ◌∙◌, arith, inl, inr, IsTrue, ◌*◌, ◌≤◌, nat_eq}
use Rattle.std.proofs.lemmas.Bool.{eq-eqb, eqb-true}
use Rattle.std.proofs.lemmas.Bool.Decides.{nat_tests}
use Rattle.std.specs.List.{Contains, list_all}
use Rattle.icu_table_entries.specs.Elements.{Element, common, of_primary, of_secondary}
use Rattle.icu_table_entries.specs.ElementConditions.{tertiary_of}
use Rattle.icu_table_entries.specs.Entries.{simple_element}
use Rattle.icu_table_entries.specs.Weights.{implicit_weight}
use Rattle.icu_table_data.specs.Data.{Data}
use Rattle.icu_order_levels.specs.ListOrder.{IsBeginning}
use Rattle.icu_order_levels.specs.WeightBytes.{weight_bytes}
use Rattle.icu_table_provider.specs.SpecialPrimaries.{is_compressible}
use Rattle.icu_table_provider.specs.declared.well_formed.condition.ReachableElementCondition.{ReachableElementCondition}
use Rattle.icu_table_provider.specs.declared.well_formed.condition.ReachableElementCondition.TheVariants as of_element
use Rattle.icu_table_provider.specs.declared.well_formed.condition.PairCondition.{PairCondition}
use Rattle.icu_table_provider.specs.declared.well_formed.condition.PairCondition.TheVariants as of_pair
use Rattle.icu_table_provider.specs.declared.well_formed.condition.LeadCondition.{LeadCondition}
use Rattle.icu_table_provider.specs.declared.well_formed.condition.LeadCondition.TheVariants as of_lead
use Rattle.icu_table_provider.specs.well_formed.ElementConditions.{has_low_bytes, is_tertiary_element, reachable_element_meets}
use Rattle.icu_table_provider.specs.well_formed.LeadConditions.{LeadMeets}
use Rattle.icu_table_check.specs.inner.EntryViolations.{is_taken_apart, HasEndsApart}
use Rattle.icu_table_provider.specs.Reorderings.{lead_byte}
use Rattle.icu_table_provider.specs.well_formed.PairConditions.{BeginsNot, PairMeets}
use Rattle.icu_table_data.proofs.ListLemmas.{all_members, of_member}
use Rattle.icu_table_check.proofs.ComparedLevelLemmas.{passes}
use Rattle.icu_table_check.proofs.EntryViolationLemmas.{passes_element}
use Rattle.icu_table_check.proofs.ImplicitLemmas.{AreBytes, implicit_bytes, implicit_pass}
use Rattle.icu_table_provider.specs.well_formed.Leads.{is_middle}
use Rattle.icu_table_weights.proofs.BeginningLemmas.{four_bytes_begin}
use Rattle.icu_table_weights.proofs.WrittenWeightLemmas.{same_first}
use Rattle.icu_table_check.specs.declared.small_tables.small_root.TheConstants.{LETTER_B}
use Rattle.icu_table_check.specs.small_tables.SmallTables.{letter_a, letter_b, letter_a_grave, grave, IsLowLead, with_root}

-- the elements that don't go by a character
abbrev pub stated_elements : List Element
stated_elements = simple_element letter_a ∷ simple_element letter_b ∷ simple_element letter_a_grave ∷ of_secondary grave ∷ []

-- all elements: those, and one for each character
pub data IsSmallElement (x : Element) : Type 0 where
  stated : Contains stated_elements x → IsSmallElement x
  implicit : (c : ℕ) → x ≡ of_primary (implicit_weight c) → IsSmallElement x

both : {a b : Bool} → IsTrue a → IsTrue b → IsTrue (a && b)
both first second = rw (first, second) refl

-- ---- lead bytes

lead_is : (b : ℕ) → b * 0x1000000 / 0x1000000 ≡ b
lead_is b = omega arith

module _ (n : ℕ) (low : IsLowLead n) (root : Data) where
  middle : IsTrue (is_middle n)
  middle = let least = low.low in let most = low.high in grind (arith, nat_tests, least, most)

  whole : is_compressible (with_root n root).special n ≡ false
  unfolding is_compressible
  whole = let most = low.high in grind (arith, nat_tests, most)

  apart : 0xFE ≡ n * 0x1000000 / 0x1000000 → ⊥
  apart same = let most = low.high in let lead = lead_is n in omega (arith, same, lead, most)

  pub lead_meets : (condition : LeadCondition) → LeadMeets condition (with_root n root)
  lead_meets of_lead.Separator = refl
  lead_meets of_lead.HighLead = λ p fits is. is
  lead_meets of_lead.ImplicitLead = record { together = λ p fits is. is; middle = refl }
  lead_meets of_lead.NumericLead = record {
    together = λ p fits is. is ∙ sym (lead_is n);
    middle = subst (λ b. IsTrue (is_middle b)) (sym (lead_is n)) middle;
  }
  lead_meets of_lead.LeadsApart = apart
  lead_meets of_lead.NumericWhole = whole

  -- ---- each element

  no_letter : (b : ℕ) → 0x29 ≤ b → nat_eq b n ≡ false
  no_letter b least = let most = low.high in grind (arith, nat_tests, most)

  shares_none : (b : ℕ) → 0x29 ≤ b → IsTrue (nat_eq b n || not (nat_eq b (n * 0x1000000 / 0x1000000)))
  shares_none b least = rw (lead_is n, no_letter b least) refl

  stated_meet : (condition : ReachableElementCondition) → IsTrue (list_all (reachable_element_meets condition (with_root n root)) stated_elements)
  unfolding is_compressible
  stated_meet of_element.Width = refl
  stated_meet of_element.BackwardLead = refl
  stated_meet of_element.TertiaryElement = refl
  stated_meet of_element.MiddleLead = refl
  stated_meet of_element.ImplicitLength = refl
  stated_meet of_element.NumericLead =
      both (ap not (no_letter 0x29 (omega arith))) (both (ap not (no_letter (LETTER_B / 256) (omega arith))) (both (ap not (no_letter 0x2B (omega arith))) refl))
  stated_meet of_element.SharedLead =
      both (shares_none 0x29 (omega arith)) (both (shares_none (LETTER_B / 256) (omega arith)) (both (shares_none 0x2B (omega arith)) refl))
  stated_meet of_element.SecondByte = refl

  -- an implicit weight keeps its lead byte, which isn't that of numbers
  taken_apart : (p : ℕ) → lead_byte p ≡ 0xFE → IsTrue (is_taken_apart (with_root n root) p)
  taken_apart p lead = rw (lead, lead_is n) (let most = low.high in grind (arith, nat_tests, most))

  ends_apart : (s : ℕ) → s < 256 → HasEndsApart (with_root n root) (0xFE00 + s)
  ends_apart s small = (taken_apart ((0xFE00 + s) * 0x10000) (omega (arith, small)), taken_apart ((0xFE00 + s) * 0x10000 + 0xFFFF) (omega (arith, small)))

  pub element_is_well_formed : (condition : ReachableElementCondition) (x : Element) → IsSmallElement x → IsTrue (reachable_element_meets condition (with_root n root) x)
  element_is_well_formed condition x (stated is) = passes (reachable_element_meets condition (with_root n root)) stated_elements x (stated_meet condition) is
  element_is_well_formed condition x (implicit c is) =
      subst (λ y. IsTrue (reachable_element_meets condition (with_root n root) y)) (sym is)
      (passes_element (with_root n root) (of_primary (implicit_weight c))
      (implicit_pass (with_root n root) ends_apart (let most = low.high in omega (arith, most)) c) condition)

-- ---- two elements: weights that don't go by a character are tried in pairs, and implicit ones have a lead byte alone

stated_primaries : List ℕ
stated_primaries = map (λ (x : Element). x.primary) stated_elements

-- a list is a beginning of another
begins_list : List ℕ → List ℕ → Bool
begins_list [] qs = true
begins_list (p ∷ ps) [] = false
begins_list (p ∷ ps) (q ∷ qs) = nat_eq p q && begins_list ps qs

tries_beginnings : (ps qs : List ℕ) → IsBeginning ps qs → IsTrue (begins_list ps qs)
unfolding begins_list
tries_beginnings [] qs is = refl
tries_beginnings (p ∷ ps) [] is = absurd is
tries_beginnings (p ∷ ps) (q ∷ qs) is = both (eq-eqb p q is.0) (tries_beginnings ps qs is.1)

are_apart : ℕ → ℕ → Bool
are_apart v w = nat_eq v 0 || nat_eq w 0 || nat_eq v w || not (begins_list (weight_bytes 4 v) (weight_bytes 4 w))

stated_are_apart : IsTrue (list_all (λ v. list_all (are_apart v) stated_primaries) stated_primaries)
unfolding stated_primaries are_apart begins_list
stated_are_apart = refl

tried_apart : (v w : ℕ) (b : Bool) → IsTrue (nat_eq v 0 || nat_eq w 0 || nat_eq v w || not b) → v ≢ 0 → w ≢ 0 → v ≢ w → IsTrue b → ⊥
tried_apart v w b tried some other differ is = grind (arith, nat_tests, tried, some, other, differ, is)

stated_apart : (v w : ℕ) → Contains stated_primaries v → Contains stated_primaries w → BeginsNot (weight_bytes 4) v w
unfolding are_apart
stated_apart v w first second some other differ is =
    tried_apart v w (begins_list (weight_bytes 4 v) (weight_bytes 4 w))
    (passes (are_apart v) stated_primaries w (passes (λ x. list_all (are_apart x) stated_primaries) stated_primaries v stated_are_apart first) second)
    some other differ (tries_beginnings _ _ is)

-- the primary weight is that of an element that doesn't go by a character
record IsStated (p : ℕ) : Type 0 where
  stated : Contains stated_primaries p
  led : p ≢ 0 → 1 ≤ p / 0x1000000
  below : p / 0x1000000 < 0xFE

-- it is four bytes from FE on
record HasFourBytes (p : ℕ) : Type 0 where
  lead : p / 0x1000000 ≡ 0xFE
  last : p % 256 ≢ 0

record HasSmallWeights (x : Element) : Type 0 where
  primary : IsStated x.primary ⊎ HasFourBytes x.primary
  secondary : x.secondary % 256 ≡ 0
  some : x.secondary ≢ 0
  tertiary : tertiary_of x ≡ common

small : (x : Element) → IsStated x.primary → x.secondary % 256 ≡ 0 → x.secondary ≢ 0 → tertiary_of x ≡ common → HasSmallWeights x
small x primary secondary some tertiary = record { primary = inl primary; secondary = secondary; some = some; tertiary = tertiary }

last_byte : (p : ℕ) → IsTrue (has_low_bytes p) → p % 256 ≢ 0
last_byte p low zero = grind (arith, nat_tests)

four_bytes : (p : ℕ) → AreBytes p → HasFourBytes p
four_bytes p bytes = record { lead = bytes.lead; last = last_byte p bytes.low }

small_weights : (x : Element) → IsSmallElement x → HasSmallWeights x
unfolding stated_primaries
small_weights x (stated is) =
    let all = all_members stated_primaries in
    of_member HasSmallWeights stated_elements x (
      small (simple_element letter_a) (record { stated = all.0; led = λ some. omega arith; below = omega arith }) refl (λ z. let h = z in omega arith) refl,
      (
        small (simple_element letter_b) (record { stated = all.1.0; led = λ some. omega arith; below = omega arith }) refl (λ z. let h = z in omega arith) refl,
        (
          small (simple_element letter_a_grave) (record { stated = all.1.1.0; led = λ some. omega arith; below = omega arith }) refl (λ z. let h = z in omega arith) refl,
          (
            small (of_secondary grave) (record { stated = all.1.1.1.0; led = λ some. absurd (some refl); below = omega arith }) refl (λ z. let h = z in omega arith) refl,
            tt,
          ),
        ),
      ),
    ) is
small_weights x (implicit c is) =
    subst HasSmallWeights (sym is)
    (record { primary = inr (four_bytes _ (implicit_bytes c)); secondary = refl; some = λ z. let h = z in omega arith; tertiary = refl })

primaries_apart : (v w : ℕ) → IsStated v ⊎ HasFourBytes v → IsStated w ⊎ HasFourBytes w → BeginsNot (weight_bytes 4) v w
primaries_apart v w (inl first) (inl second) some other differ begins =
    stated_apart v w first.stated second.stated some other differ begins
primaries_apart v w (inl first) (inr second) some other differ begins =
    let below = first.below in let high = second.lead in
    let lead : v / 0x1000000 ≡ w / 0x1000000 = same_first 3 v w (first.led some) begins in
    omega (arith, lead, below, high)
primaries_apart v w (inr first) (inl second) some other differ begins =
    let high = first.lead in let under = second.below in
    differ (eqb-true v w ((four_bytes_begin v w (omega arith) (omega arith) first.last).1 begins))
primaries_apart v w (inr first) (inr second) some other differ begins =
    let high = first.lead in let lead = second.lead in
    differ (eqb-true v w ((four_bytes_begin v w (omega arith) (omega arith) first.last).1 begins))

secondaries_apart : (v w : ℕ) → v % 256 ≡ 0 → w % 256 ≡ 0 → BeginsNot (weight_bytes 2) v w
secondaries_apart v w alone lone some other differ begins =
    let lead : v / 256 ^ 1 ≡ w / 256 ^ 1 = same_first 1 v w (omega arith) begins in
    differ (omega arith)

not_alone : (x : Element) → x.secondary ≢ 0 → is_tertiary_element x ≡ false
not_alone x some = grind (arith, nat_tests, some)

pairs_meet : (n : ℕ) (root : Data) (condition : PairCondition) (x y : Element) → HasSmallWeights x → HasSmallWeights y → PairMeets condition (with_root n root) x y
pairs_meet n root of_pair.TertiaryElementWeights x y first second = λ alone some. let none = not_alone x first.some in cc
pairs_meet n root of_pair.Primaries x y first second = primaries_apart x.primary y.primary first.primary second.primary
pairs_meet n root of_pair.Secondaries x y first second = secondaries_apart x.secondary y.secondary first.secondary second.secondary
pairs_meet n root of_pair.Tertiaries x y first second = λ some other differ. absurd (differ (first.tertiary ∙ sym second.tertiary))
pairs_meet n root of_pair.Compression x y first second = λ some other lead. ap (λ b. is_compressible (with_root n root).special b) lead

pub pair_is_well_formed : (n : ℕ) (root : Data) (condition : PairCondition) (x y : Element) → IsSmallElement x → IsSmallElement y → PairMeets condition (with_root n root) x y
pair_is_well_formed n root condition x y first second = pairs_meet n root condition x y (small_weights x first) (small_weights y second)
