-- Implicit weights that share their two highest bytes, which reordering takes to one lead byte, first fail the same
-- condition.
use Rattle.std.proofs.Common.{◌≡◌, ◌≢◌, ℕ, ◌+◌, ◌*◌, ◌/◌, ◌%◌, ◌^◌, ◌<◌, ◌≤◌, Bool, true, false, not, nat_eq, nat_lt, fold, List, [], ◌∷◌, Some, None, if◌then◌else◌, refl, sym, ap, ◌∙◌, arith, option_map}
use Rattle.std.specs.Prelude.{find}
use Rattle.std.proofs.lemmas.Bool.Decides.{nat_tests}
use Rattle.icu_table_entries.specs.declared.error.DataTable.{DataTable}
use Rattle.icu_table_entries.specs.Elements.{of_primary}
use Rattle.icu_table_entries.specs.declared.entry.EntryKind.TheVariants.{Implicit}
use Rattle.icu_table_entries.specs.Entries.{kind_of}
use Rattle.icu_table_entries.specs.Weights.{implicit_weight}
use Rattle.icu_table_data.specs.Data.{Data}
use Rattle.icu_table_data.specs.Violations.{earlier}
use Rattle.icu_table_data.proofs.ImplicitLemmas.{implicit_passes}
use Rattle.icu_table_provider.specs.Reorderings.{lead_byte}
use Rattle.icu_table_provider.specs.CollatorTables.{CollatorTables, reorder}
use Rattle.icu_table_provider.specs.declared.well_formed.condition.ReachableElementCondition.{ReachableElementCondition}
use Rattle.icu_table_provider.specs.declared.well_formed.condition.ReachableElementCondition.TheVariants.{Width, BackwardLead, TertiaryElement, MiddleLead, ImplicitLength, NumericLead, SharedLead, SecondByte}
use Rattle.icu_table_provider.specs.well_formed.ElementConditions.{reachable_element_meets, element_conditions}
use Rattle.icu_table_check.specs.inner.Violations.{violation_rank}
use Rattle.icu_table_check.specs.inner.EntryViolations.{first_condition_failed, of_element, after_element, mappings_violation, entry_violation, HasEndsTogether}
use Rattle.icu_table_check.proofs.ImplicitLemmas.{AreBytes, implicit_bytes, implicit_high, high_enough, where_ends}
use Rattle.icu_table_check.proofs.ComparedLevelLemmas.{implicit_elements}
use Rattle.icu_table_check.proofs.EntryViolationLemmas.{without_own}

-- ---- two weights

-- tests that agree find the same
same_found : {X : Type 0} (p q : X → Bool) → ((x : X) → p x ≡ q x) → (xs : List X) → find p xs ≡ find q xs
same_found p q same [] = refl
same_found p q same (x ∷ xs) = ap (λ b. if b then Some x else find p xs) (same x) ∙ ap (λ o. if q x then Some x else o) (same_found p q same xs)

some_lead : (p : ℕ) → lead_byte p ≡ 0xFE → nat_eq p 0 ≡ false
some_lead p lead = isnt p (omega (arith, lead))
  where
    isnt : (n : ℕ) → n ≢ 0 → nat_eq n 0 ≡ false
    isnt n h = grind (arith, nat_tests, h)

in_range : (p : ℕ) → p < 2 ^ 32 → nat_lt p (2 ^ 32) ≡ true
in_range p fits = grind (arith, nat_tests, fits)

-- what each condition asks of an implicit weight goes by the lead byte that it is taken to
module _ (all : CollatorTables) (p q : ℕ) (is_p : AreBytes p) (is_q : AreBytes q) (together : lead_byte (reorder all p) ≡ lead_byte (reorder all q)) where
  same_meets : (condition : ReachableElementCondition) → reachable_element_meets condition all (of_primary p) ≡ reachable_element_meets condition all (of_primary q)
  same_meets Width = rw (in_range p is_p.fits, in_range q is_q.fits) refl
  same_meets BackwardLead = refl
  same_meets TertiaryElement = refl
  same_meets MiddleLead = rw (some_lead p is_p.lead, some_lead q is_q.lead, is_p.lead, is_q.lead, together) refl
  same_meets ImplicitLength = rw (some_lead p is_p.lead, some_lead q is_q.lead, is_p.lead, is_q.lead, is_p.low, is_q.low) refl
  same_meets NumericLead = rw (some_lead p is_p.lead, some_lead q is_q.lead, is_p.lead, is_q.lead) refl
  same_meets SharedLead = rw (some_lead p is_p.lead, some_lead q is_q.lead, is_p.lead, is_q.lead, together) refl
  same_meets SecondByte = rw (some_lead p is_p.lead, some_lead q is_q.lead, is_p.lead, is_q.lead, is_p.second, is_q.second) refl

  same_failing : first_condition_failed all (of_primary p) ≡ first_condition_failed all (of_primary q)
  unfolding first_condition_failed
  same_failing =
      same_found (λ condition. not (reachable_element_meets condition all (of_primary p))) (λ condition. not (reachable_element_meets condition all (of_primary q)))
      (λ condition. ap (λ b. not b) (same_meets condition)) element_conditions

-- ---- characters in a row

quotients : (a b c : ℕ) → a ≤ c → c ≤ b → b ≤ a + 1 → a % 251 ≡ b % 251 → c ≡ a
quotients a b c low high near same = omega (arith, low, high, near, same)

-- a character between two whose weights share their highest bytes has these as well
high_between : (first last c : ℕ) → last ≡ first + 63 → implicit_weight last / 65536 ≡ implicit_weight first / 65536 → first ≤ c → c < first + 64
    → implicit_weight c / 65536 ≡ implicit_weight first / 65536
high_between first last c end same low below =
    let sums : 0xFE00 + (4 + (last + 1) / 4572 % 251) ≡ 0xFE00 + (4 + (first + 1) / 4572 % 251) = sym (implicit_high last) ∙ same ∙ implicit_high first in
    let rests : (first + 1) / 4572 % 251 ≡ (last + 1) / 4572 % 251 = omega (arith, sums) in
    let quotient : (c + 1) / 4572 ≡ (first + 1) / 4572 =
    quotients ((first + 1) / 4572) ((last + 1) / 4572) ((c + 1) / 4572) (omega (arith, low)) (omega (arith, end, below)) (omega (arith, end)) rests in
    implicit_high c ∙ ap (λ n. 0xFE00 + (4 + n % 251)) quotient ∙ sym (implicit_high first)

-- weights with the same highest bytes go where the first weight with them goes
goes_with : (all : CollatorTables) (h p : ℕ) → 256 ≤ h → p / 65536 ≡ h → HasEndsTogether all h → lead_byte (reorder all p) ≡ lead_byte (reorder all (h * 65536))
goes_with all h p high at ends = where_ends (λ to. to ≡ lead_byte (reorder all (h * 65536))) all.reordering h p high at refl (sym ends)

pub run_alike : (all : CollatorTables) (first last : ℕ) → last ≡ first + 63 → implicit_weight last / 65536 ≡ implicit_weight first / 65536 → HasEndsTogether all (implicit_weight first / 65536)
    → (c : ℕ) → first ≤ c → c < first + 64 → first_condition_failed all (of_primary (implicit_weight c)) ≡ first_condition_failed all (of_primary (implicit_weight first))
run_alike all first last end same ends c low below =
    same_failing all (implicit_weight c) (implicit_weight first) (implicit_bytes c) (implicit_bytes first)
    (goes_with all (implicit_weight first / 65536) (implicit_weight c) (high_enough first) (high_between first last c end same low below) ends
    ∙ sym (goes_with all (implicit_weight first / 65536) (implicit_weight first) (high_enough first) refl ends))

-- ---- an entry for one

pub implicit_alike : (all : CollatorTables) (table : DataTable) (home : Data) (c d e : ℕ) → kind_of e ≡ Implicit
    → first_condition_failed all (of_primary (implicit_weight c)) ≡ first_condition_failed all (of_primary (implicit_weight d)) → entry_violation all table home c e ≡ entry_violation all table home d e
implicit_alike all table home c d e is same = judged c ∙ ap (λ f. earlier violation_rank (mappings_violation all home e) (earlier violation_rank None (option_map (of_element table) f))) same ∙ sym (judged d)
  where
    judged : (a : ℕ) → entry_violation all table home a e ≡ earlier violation_rank (mappings_violation all home e) (earlier violation_rank None (option_map (of_element table) (first_condition_failed all (of_primary (implicit_weight a)))))
    judged a =
        without_own all table home a e (implicit_passes home a e is)
        ∙ ap (λ es. earlier violation_rank (mappings_violation all home e) (fold (after_element all table) None es)) (implicit_elements home a e is)
