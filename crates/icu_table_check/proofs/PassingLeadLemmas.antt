-- Lead bytes with which no primary weight fails a condition on elements, and what they say of entries.
use Rattle.std.proofs.Common.{◌≡◌, ℕ, ◌+◌, ◌*◌, ◌/◌, ◌%◌, ◌≤◌, ◌<◌, Bool, true, false, not, ◌==◌, nat_le, List, [], ◌∷◌, inl, inr, set, replicate, length, Option, Some, None, IsTrue, refl, sym, ap, ◌∙◌, subst, arith}
use Rattle.std.specs.Prelude.{◌||◌, slice_index_or}
use Rattle.std.proofs.lemmas.Bool.{and_parts, cases_eq, false≢true}
use Rattle.std.proofs.lemmas.Bool.Decides.{nat_tests}
use Rattle.std.proofs.lemmas.List.{get_or-set_same, get_or-set_other}
use Rattle.icu_table_weights.proofs.AlikeLemmas.{unmarked}
use Rattle.icu_table_entries.specs.declared.entry.EntryKind.{EntryKind}
use Rattle.icu_table_entries.specs.declared.entry.EntryKind.TheVariants.{Simple, LongPrimary, LongSecondary}
use Rattle.icu_table_entries.specs.declared.error.DataTable.{DataTable}
use Rattle.icu_table_entries.specs.Elements.{Element, of_primary}
use Rattle.icu_table_entries.specs.Entries.{kind_of, is_self_contained, self_contained}
use Rattle.icu_table_data.specs.Data.{Data, homed}
use Rattle.icu_table_data.specs.DataConditions.{avoids_diacritics}
use Rattle.icu_table_data.specs.Final.{final_elements}
use Rattle.icu_table_data.specs.ReachableConditions.{first_failing}
use Rattle.icu_table_data.specs.Violations.{earlier}
use Rattle.icu_table_data.proofs.ViolationLemmas.{none_found, negated}
use Rattle.icu_table_provider.specs.Reorderings.{lead_byte}
use Rattle.icu_table_provider.specs.CollatorTables.{CollatorTables}
use Rattle.icu_table_provider.specs.declared.well_formed.condition.ReachableElementCondition.{ReachableElementCondition}
use Rattle.icu_table_provider.specs.declared.well_formed.condition.ReachableElementCondition.TheVariants.{Width, BackwardLead, TertiaryElement, MiddleLead, ImplicitLength, NumericLead, SharedLead, SecondByte}
use Rattle.icu_table_check.specs.declared.violation.Violation.{Violation}
use Rattle.icu_table_provider.specs.well_formed.ElementConditions.{has_second_byte, reachable_element_meets, element_conditions}
use Rattle.icu_table_check.specs.inner.Violations.{violation_rank}
use Rattle.icu_table_check.specs.inner.EntryViolations.{first_condition_failed, judged_element, entry_violation, LeadPasses, AreLeadsPassing, PrimaryPasses}
use Rattle.icu_table_check.proofs.EntryViolationLemmas.{passes_element, without_own}

-- ---- which lead bytes are marked

-- at first none is
pub no_leads : (all : CollatorTables) → AreLeadsPassing all (replicate 256 false)
no_leads all lead marked = absurd (false≢true (sym (unmarked 256 lead) ∙ marked))

-- one more lead byte, and what is known of it
pub one_lead_more : (all : CollatorTables) (leads : List Bool) (b : ℕ) (passes : Bool) → b < length leads → (passes ≡ true → LeadPasses all b) → AreLeadsPassing all leads → AreLeadsPassing all (set leads b passes)
one_lead_more all leads b passes inside known each lead marked =
    elim (cases_eq lead b) [
      | inl same ↦
          let is : passes ≡ true = sym (get_or-set_same leads b passes false inside) ∙ ap (λ k. slice_index_or (set leads b passes) k false) (sym same) ∙ marked in
          subst (λ k. LeadPasses all k) (sym same) (known is)
      | inr other ↦ each lead (sym (get_or-set_other leads b lead passes false other) ∙ marked)
    ]

test_from : (m n : ℕ) → IsTrue (nat_le m n) → m ≤ n
test_from m n h = grind (arith, nat_tests)

-- a weight with a lead byte and a second byte from 04 to FE lies between two
pub lies_from : (lead p : ℕ) → lead_byte p ≡ lead → IsTrue (has_second_byte p) → lead * 0x1000000 + 0x40000 ≤ p
lies_from lead p at second =
    let first : 4 ≤ p / 0x10000 % 256 = test_from _ _ (and_parts (nat_le 4 (p / 0x10000 % 256)) _ second).0 in omega (arith, at, first)

pub lies_to : (lead p : ℕ) → lead_byte p ≡ lead → IsTrue (has_second_byte p) → p ≤ lead * 0x1000000 + 0xFEFFFF
lies_to lead p at second =
    let last : p / 0x10000 % 256 ≤ 0xFE = test_from _ _ (and_parts (nat_le 4 (p / 0x10000 % 256)) _ second).1 in omega (arith, at, last)

-- ---- elements

zero_passes : (n : ℕ) (b : Bool) → n ≡ 0 → IsTrue (n == 0 || b)
zero_passes n b is = rw is refl

module _ (all : CollatorTables) (x : Element) (width : IsTrue (reachable_element_meets Width all x)) (backward : IsTrue (reachable_element_meets BackwardLead all x))
    (tertiary : IsTrue (reachable_element_meets TertiaryElement all x)) where
  each : PrimaryPasses all x.primary → (condition : ReachableElementCondition) → IsTrue (reachable_element_meets condition all x)
  each p Width = width
  each p BackwardLead = backward
  each p TertiaryElement = tertiary
  each (inl zero_primary) MiddleLead = zero_passes x.primary _ zero_primary
  each (inl zero_primary) ImplicitLength = zero_passes x.primary _ zero_primary
  each (inl zero_primary) NumericLead = zero_passes x.primary _ zero_primary
  each (inl zero_primary) SharedLead = zero_passes x.primary _ zero_primary
  each (inl zero_primary) SecondByte = zero_passes x.primary _ zero_primary
  each (inr none) MiddleLead = passes_element all (of_primary x.primary) none MiddleLead
  each (inr none) ImplicitLength = passes_element all (of_primary x.primary) none ImplicitLength
  each (inr none) NumericLead = passes_element all (of_primary x.primary) none NumericLead
  each (inr none) SharedLead = passes_element all (of_primary x.primary) none SharedLead
  each (inr none) SecondByte = passes_element all (of_primary x.primary) none SecondByte

  pub passes_by_primary : PrimaryPasses all x.primary → first_condition_failed all x ≡ None
  unfolding first_condition_failed
  passes_by_primary p = none_found (λ condition. not (reachable_element_meets condition all x)) (λ condition. negated (reachable_element_meets condition all x) (each p condition)) element_conditions

nothing_later : (best : Option Violation) → earlier violation_rank best None ≡ best
unfolding earlier
nothing_later None = refl
nothing_later (Some f) = refl

-- an element that passes changes no first violation
pub judged_passing : (all : CollatorTables) (table : DataTable) (best : Option Violation) (x : Element) → first_condition_failed all x ≡ None → judged_element ((all, table), best) x ≡ ((all, table), best)
judged_passing all table best x none = rw none (ap (λ f. ((all, table), f)) (nothing_later best))

-- ---- entries that spell their element

no_mappings_at : (home : Data) (n e : ℕ) (k : EntryKind) → kind_of e ≡ k → (elim k as (λ _. Bool) [ Simple ↦ true | LongPrimary ↦ true | LongSecondary ↦ true | _ ↦ false ]) ≡ true → avoids_diacritics n home e ≡ true
unfolding avoids_diacritics
no_mappings_at home n e Simple is h = rw (is, avoids_diacritics) refl
no_mappings_at home n e LongPrimary is h = rw (is, avoids_diacritics) refl
no_mappings_at home n e LongSecondary is h = rw (is, avoids_diacritics) refl
no_mappings_at home n e _ is h = cc

gives_at : (home : Data) (c e : ℕ) (k : EntryKind) → kind_of e ≡ k → (elim k as (λ _. Bool) [ Simple ↦ true | LongPrimary ↦ true | LongSecondary ↦ true | _ ↦ false ]) ≡ true → final_elements (homed home e) c ≡ self_contained e
unfolding final_elements
gives_at home c e Simple is h = rw (is, final_elements) refl
gives_at home c e LongPrimary is h = rw (is, final_elements) refl
gives_at home c e LongSecondary is h = rw (is, final_elements) refl
gives_at home c e _ is h = cc

-- one whose element passes has no violation, where it fails nothing by itself
pub spelled_passes : (all : CollatorTables) (table : DataTable) (home : Data) (c e : ℕ) (x : Element) → is_self_contained e ≡ true → self_contained e ≡ x ∷ [] → first_condition_failed all x ≡ None → first_failing home c e ≡ None
    → entry_violation all table home c e ≡ None
unfolding is_self_contained earlier
spelled_passes all table home c e x is gives none own =
    without_own all table home c e own
    ∙ rw (no_mappings_at home (length all.tables.diacritics) e (kind_of e) refl is, gives_at home c e (kind_of e) refl is ∙ gives, none) refl
