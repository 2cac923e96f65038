-- Implicit weights: none of them is collected, and they meet every condition where reordering takes the first and the
-- last weight for each second byte to lead bytes from 03 to FE that aren't that of numbers.
use Rattle.std.proofs.Common.{◌≡◌, ◌≢◌, ℕ, ◌+◌, ◌*◌, ◌/◌, ◌%◌, ◌^◌, ◌<◌, ◌≤◌, Bool, true, false, not, ◌==◌, ◌&&◌, ◌||◌, nat_eq, nat_le, nat_lt, Option, Some, None, IsTrue, if◌then◌else◌, inl, inr, refl, sym, ap, ◌∙◌, subst, arith}
use Rattle.std.proofs.lemmas.Bool.{and_parts, cases_eq}
use Rattle.std.proofs.lemmas.Bool.Decides.{nat_tests}
use Rattle.icu_table_entries.specs.declared.error.DataTable.{DataTable}
use Rattle.icu_table_entries.specs.Elements.{of_primary}
use Rattle.icu_table_entries.specs.declared.entry.EntryKind.TheVariants.{Implicit}
use Rattle.icu_table_entries.specs.Entries.{kind_of}
use Rattle.icu_table_data.specs.DataConditions.{avoids_diacritics}
use Rattle.icu_table_data.specs.Violations.{earlier}
use Rattle.icu_table_data.specs.Final.{final_elements}
use Rattle.icu_table_provider.specs.Reorderings.{Reordering, lead_byte}
use Rattle.icu_table_data.specs.Data.{Data}
use Rattle.icu_table_entries.specs.Weights.{weight, implicit_weight}
use Rattle.icu_table_data.proofs.ViolationLemmas.{none_found, negated}
use Rattle.icu_table_data.proofs.ImplicitLemmas.{implicit_passes}
use Rattle.icu_table_provider.specs.declared.well_formed.condition.ReachableElementCondition.{ReachableElementCondition}
use Rattle.icu_table_provider.specs.declared.well_formed.condition.ReachableElementCondition.TheVariants.{Width, BackwardLead, TertiaryElement, MiddleLead, ImplicitLength, NumericLead, SharedLead, SecondByte}
use Rattle.icu_table_check.specs.declared.violation.Violation.{Violation}
use Rattle.icu_table_check.specs.declared.check.weights.WeightList.{WeightList}
use Rattle.icu_table_check.specs.declared.check.weights.WeightList.TheVariants.{Primaries, Secondaries, Tertiaries, TertiaryElements, WithSecondary}
use Rattle.icu_table_provider.specs.CollatorTables.{CollatorTables, is_forward, reorder, reorder_by, new_lead}
use Rattle.icu_table_provider.proofs.well_formed.LeadLemmas.{block_where_ends}
use Rattle.icu_table_provider.specs.well_formed.Leads.{is_middle}
use Rattle.icu_table_provider.specs.well_formed.ElementConditions.{implicit_lead, has_low_bytes, has_second_byte, is_apart, primary_meets, reachable_element_meets, element_conditions}
use Rattle.icu_table_check.specs.inner.EntryViolations.{first_condition_failed, elements_violation, entry_violation, is_taken_apart, HasEndsApart, ImplicitPasses}
use Rattle.icu_table_check.specs.inner.ComparedWeights.{compared_weight}

-- ---- the bytes of an implicit weight

pub record AreBytes (p : ℕ) : Type 0 where
  pub lead : lead_byte p ≡ 0xFE
  pub fits : p < 2 ^ 32
  pub low : IsTrue (has_low_bytes p)
  pub second : IsTrue (has_second_byte p)

module _ (b2 b3 b4 : ℕ) (low2 : 4 ≤ b2) (high2 : b2 ≤ 254) (low3 : 1 ≤ b3) (high3 : b3 < 256) (low4 : 1 ≤ b4) (high4 : b4 < 256) where
  abbrev p : ℕ
  p = b2 * 0x10000 + b3 * 0x100 + b4 + 0xFE000000

  second_is : (b2 * 0x10000 + b3 * 0x100 + b4 + 0xFE000000) / 0x10000 % 256 ≡ b2
  second_is = omega arith

  third_is : (b2 * 0x10000 + b3 * 0x100 + b4 + 0xFE000000) / 0x100 % 256 ≡ b3
  third_is = omega arith

  fourth_is : (b2 * 0x10000 + b3 * 0x100 + b4 + 0xFE000000) % 256 ≡ b4
  fourth_is = omega arith

  isnt_zero : (b : ℕ) → 1 ≤ b → nat_eq b 0 ≡ false
  isnt_zero b h = grind (arith, nat_tests)

  some : (b d : ℕ) → b ≡ d → 1 ≤ d → not (nat_eq b 0) ≡ true
  some b d is h = ap (λ t. not t) (isnt_zero b (subst (λ n. 1 ≤ n) (sym is) h))

  all_three : (a b c : Bool) → a ≡ true → b ≡ true → c ≡ true → IsTrue (a && b && c)
  all_three true true true h k l = refl
  all_three false b c h k l = cc
  all_three true false c h k l = cc
  all_three true true false h k l = cc

  at_least : (b : ℕ) → b ≡ b2 → nat_le 4 b ≡ true
  at_least b is = grind (arith, nat_tests)

  at_most : (b : ℕ) → b ≡ b2 → nat_le b 0xFE ≡ true
  at_most b is = grind (arith, nat_tests)

  both : (a b : Bool) → a ≡ true → b ≡ true → IsTrue (a && b)
  both true true h k = refl
  both false b h k = cc
  both true false h k = cc

  pub bytes : AreBytes (b2 * 0x10000 + b3 * 0x100 + b4 + 0xFE000000)
  bytes = record {
    lead = omega arith;
    fits = omega arith;
    low = all_three _ _ _ (some _ b2 second_is (omega arith)) (some _ b3 third_is low3) (some _ b4 fourth_is low4);
    second = both _ _ (at_least _ second_is) (at_most _ second_is);
  }

sum : (b2 b3 b4 : ℕ) → b2 * 0x10000 + b3 * 0x100 + b4 + 0xFE000000 ≡ weight 0xFE b2 b3 b4
sum b2 b3 b4 = omega arith

pub implicit_bytes : (c : ℕ) → AreBytes (implicit_weight c)
unfolding implicit_weight
implicit_bytes c =
    subst AreBytes (sum (4 + (c + 1) / 4572 % 251) (2 + (c + 1) / 18 % 254) (2 + 14 * ((c + 1) % 18)))
    (bytes (4 + (c + 1) / 4572 % 251) (2 + (c + 1) / 18 % 254) (2 + 14 * ((c + 1) % 18)) (omega arith) (omega arith) (omega arith) (omega arith) (omega arith) (omega arith))

-- ---- what they weigh

-- but for its primary weight, none of an implicit element is compared
pub weighs_nothing : (list : WeightList) (p : ℕ) → (list ≡ Primaries → ⊥) → compared_weight list (of_primary p) ≡ None
unfolding compared_weight
weighs_nothing Primaries p other = absurd (other refl)
weighs_nothing Secondaries p other = refl
weighs_nothing Tertiaries p other = refl
weighs_nothing TertiaryElements p other = refl
weighs_nothing WithSecondary p other = refl

-- ---- they meet every condition

-- what holds of the lead bytes that the first and the last weight of a block go to holds of where each goes
pub where_ends : (P : ℕ → Type 0) (r : Option Reordering) (h p : ℕ) → 256 ≤ h → p / 65536 ≡ h → P (lead_byte (reorder_by r (h * 65536))) → P (lead_byte (reorder_by r (h * 65536 + 65535)))
    → P (lead_byte (reorder_by r p))
where_ends P None h p high at first last = let same : lead_byte (h * 65536) ≡ lead_byte p = omega arith in subst P same first
where_ends P (Some r) h p high at first last = block_where_ends P r h p high at first last

block_apart : (all : CollatorTables) (h p : ℕ) → 256 ≤ h → p / 65536 ≡ h → HasEndsApart all h → IsTrue (is_taken_apart all p)
block_apart all h p high at ends =
    where_ends (λ to. IsTrue (is_middle to && not (to == new_lead all all.special.numeric))) all.reordering h p high at ends.0 ends.1

taken_apart : (all : CollatorTables) → ((s : ℕ) → s < 256 → HasEndsApart all (0xFE00 + s)) → (p : ℕ) → lead_byte p ≡ 0xFE → IsTrue (is_taken_apart all p)
taken_apart all ends p lead =
    let s : ℕ = p / 65536 % 256 in
    let at : p / 65536 ≡ 0xFE00 + s = omega (arith, lead) in
    block_apart all (0xFE00 + s) p (omega arith) at (ends s (omega arith))

module _ (all : CollatorTables) (below : all.special.numeric ≤ 0xFD) where
  or_second : (a b : Bool) → IsTrue b → IsTrue (a || b)
  or_second true b h = refl
  or_second false b h = h

  or_first : (a b : Bool) → IsTrue a → IsTrue (a || b)
  or_first true b h = refl
  or_first false b h = cc

  and_both : (a b : Bool) → IsTrue a → IsTrue b → IsTrue (a && b)
  and_both true true h k = refl
  and_both false b h k = cc
  and_both true false h k = cc

  differs : (a b : ℕ) → a ≢ b → not (nat_eq a b) ≡ true
  differs a b h = grind (arith, nat_tests, h)

  same : (a b : ℕ) → a ≡ b → nat_eq a b ≡ true
  same a b h = grind (arith, nat_tests)

  module _ (p : ℕ) (is : AreBytes p) (apart : IsTrue (is_taken_apart all p)) where
    taken : IsTrue (is_middle (lead_byte (reorder all p))) × IsTrue (not (lead_byte (reorder all p) == new_lead all all.special.numeric))
    taken = and_parts (is_middle (lead_byte (reorder all p))) _ apart

    not_numeric : lead_byte p ≢ all.special.numeric
    not_numeric h = omega (arith, is.lead, h, below)

    primary : (condition : ReachableElementCondition) → IsTrue (primary_meets condition all p)
    primary MiddleLead = or_second _ (is_middle (lead_byte (reorder all p))) taken.0
    primary ImplicitLength = or_second _ (has_low_bytes p) is.low
    primary NumericLead = differs (lead_byte p) all.special.numeric not_numeric
    primary SharedLead = and_both (is_apart all implicit_lead p) (is_apart all all.special.numeric p)
        (or_first _ _ (same (lead_byte p) implicit_lead is.lead))
        (or_second _ _ taken.1)
    primary SecondByte = or_second _ (has_second_byte p) is.second
    primary Width = refl
    primary BackwardLead = refl
    primary TertiaryElement = refl

    less : nat_lt p (2 ^ 32) ≡ true
    less = let fits = is.fits in grind (arith, nat_tests, fits)

    element : (condition : ReachableElementCondition) → IsTrue (reachable_element_meets condition all (of_primary p))
    element Width = rw less refl
    element BackwardLead = or_second (is_forward all) true refl
    element TertiaryElement = refl
    element MiddleLead = or_second (p == 0) _ (primary MiddleLead)
    element ImplicitLength = or_second (p == 0) _ (primary ImplicitLength)
    element NumericLead = or_second (p == 0) _ (primary NumericLead)
    element SharedLead = or_second (p == 0) _ (primary SharedLead)
    element SecondByte = or_second (p == 0) _ (primary SecondByte)

    none_fails : first_condition_failed all (of_primary p) ≡ None
    unfolding first_condition_failed
    none_fails = none_found (λ condition. not (reachable_element_meets condition all (of_primary p))) (λ condition. negated (reachable_element_meets condition all (of_primary p)) (element condition)) element_conditions

  pub implicit_meets : (c : ℕ) → IsTrue (is_taken_apart all (implicit_weight c)) → first_condition_failed all (of_primary (implicit_weight c)) ≡ None
  implicit_meets c = none_fails (implicit_weight c) (implicit_bytes c)

read_or_not : (b : Bool) (o : Option Violation) → o ≡ None → (if b then o else None) ≡ None
read_or_not true o h = h
read_or_not false o h = refl

-- an entry for one has no violation then
pub implicit_no_violation : (all : CollatorTables) (table : DataTable) (home : Data) (c e : ℕ) → kind_of e ≡ Implicit → first_condition_failed all (of_primary (implicit_weight c)) ≡ None → entry_violation all table home c e ≡ None
unfolding entry_violation avoids_diacritics final_elements earlier
implicit_no_violation all table home c e is none =
    rw (implicit_passes home c e is, is, avoids_diacritics) (read_or_not _ (elements_violation all table home c e) (rw (is, final_elements, none) refl))

-- both from the ends of each block
pub implicit_pass : (all : CollatorTables) → ((s : ℕ) → s < 256 → HasEndsApart all (0xFE00 + s)) → all.special.numeric ≤ 0xFD → ImplicitPasses all
implicit_pass all ends below c = implicit_meets all below c (taken_apart all ends (implicit_weight c) (implicit_bytes c).lead)

-- ---- characters in a row

high_sum : (b2 b3 b4 : ℕ) → b2 < 256 → b3 < 256 → b4 < 256 → weight 0xFE b2 b3 b4 / 65536 ≡ 0xFE00 + b2
high_sum b2 b3 b4 low2 low3 low4 = omega arith

pub implicit_high : (c : ℕ) → implicit_weight c / 65536 ≡ 0xFE00 + (4 + (c + 1) / 4572 % 251)
unfolding implicit_weight
implicit_high c =
    high_sum (4 + (c + 1) / 4572 % 251) (2 + (c + 1) / 18 % 254) (2 + 14 * ((c + 1) % 18)) (omega arith) (omega arith) (omega arith)

same_high : (a c : ℕ) → (c + 1) / 4572 ≡ (a + 1) / 4572 → implicit_weight c / 65536 ≡ implicit_weight a / 65536
same_high a c same = implicit_high c ∙ ap (λ n. 0xFE00 + (4 + n % 251)) same ∙ sym (implicit_high a)

pub high_enough : (c : ℕ) → 256 ≤ implicit_weight c / 65536
high_enough c = let at = implicit_high c in omega (arith, at)

-- the two highest bytes of the weights of 64 characters are those of the first one's or of the last one's
pub run_passes : (all : CollatorTables) (first last : ℕ) → last ≡ first + 63 → HasEndsApart all (implicit_weight first / 65536) → HasEndsApart all (implicit_weight last / 65536)
    → all.special.numeric ≤ 0xFD → (c : ℕ) → first ≤ c → c < first + 64 → first_condition_failed all (of_primary (implicit_weight c)) ≡ None
run_passes all first last end low high below c from to =
    elim (cases_eq ((c + 1) / 4572) ((first + 1) / 4572)) [
      | inl same ↦ implicit_meets all below c (block_apart all (implicit_weight first / 65536) (implicit_weight c) (high_enough first) (same_high first c same) low)
      | inr other ↦
          let same : (c + 1) / 4572 ≡ (last + 1) / 4572 = omega (arith, other, end, from, to) in
          implicit_meets all below c (block_apart all (implicit_weight last / 65536) (implicit_weight c) (high_enough last) (same_high last c same) high)
    ]
