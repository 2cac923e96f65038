-- Characters in a row with one offset entry: where the first and the last of their weights fail no condition and share
-- a lead byte, which reordering takes to one, none between them fails one.
use Rattle.std.proofs.Common.{◌≡◌, ◌≢◌, ℕ, ◌*◌, ◌/◌, ◌%◌, ◌^◌, ◌≤◌, Bool, true, false, not, ◌==◌, ◌&&◌, ◌||◌, nat_eq, nat_le, nat_lt, List, [], ◌∷◌, map, Some, None, IsTrue, refl, sym, ap, ◌∙◌, subst, arith}
use Rattle.std.specs.Prelude.{slice_index, filter}
use Rattle.std.specs.List.{list_all}
use Rattle.std.proofs.lemmas.Bool.{and_parts}
use Rattle.std.proofs.lemmas.Bool.Decides.{nat_tests}
use Rattle.icu_table_entries.specs.declared.error.DataTable.{DataTable}
use Rattle.icu_table_entries.specs.Elements.{Element, of_primary}
use Rattle.icu_table_entries.specs.declared.entry.EntryKind.TheVariants.{Offset}
use Rattle.icu_table_entries.specs.Entries.{kind_of}
use Rattle.icu_table_entries.specs.EntryConditions.{has_offset_weight}
use Rattle.icu_table_entries.specs.Weights.{weight_at, offset_compressible, offset_ordinal, offset_weight, offset_element}
use Rattle.icu_table_data.specs.Data.{Data, homed, found_data}
use Rattle.icu_table_data.specs.DataConditions.{avoids_diacritics, fits_offset}
use Rattle.icu_table_data.specs.Final.{final_elements}
use Rattle.icu_table_data.specs.ReachableConditions.{first_failing}
use Rattle.icu_table_data.specs.Violations.{earlier}
use Rattle.icu_table_data.proofs.ViolationLemmas.{none_found, negated}
use Rattle.icu_table_data.proofs.RunLemmas.{ordinal_rises}
use Rattle.icu_table_provider.proofs.well_formed.LeadLemmas.{replaced, stays, lead-with_lead}
use Rattle.icu_table_provider.specs.Reorderings.{Reordering, lead_byte, reordered}
use Rattle.icu_table_provider.specs.SpecialPrimaries.{is_compressible}
use Rattle.icu_table_provider.specs.CollatorTables.{CollatorTables, is_forward, reorder}
use Rattle.icu_table_provider.specs.declared.well_formed.condition.ReachableElementCondition.{ReachableElementCondition}
use Rattle.icu_table_provider.specs.declared.well_formed.condition.ReachableElementCondition.TheVariants.{Width, BackwardLead, TertiaryElement, MiddleLead, ImplicitLength, NumericLead, SharedLead, SecondByte}
use Rattle.icu_table_provider.specs.well_formed.ElementConditions.{implicit_lead, has_low_bytes, has_second_byte, primary_meets, reachable_element_meets, element_conditions}
use Rattle.icu_table_check.specs.inner.EntryViolations.{first_condition_failed, entry_violation, KeepsLeadTogether}
use Rattle.icu_table_check.proofs.EntryViolationLemmas.{passes_element, without_own}

-- ---- what a reordering takes whole

pub kept_whole : (b : ℕ) → KeepsLeadTogether None b
kept_whole b p q at_p at_q = at_p ∙ sym at_q

isnt_zero : (b : ℕ) → b ≢ 0 → nat_eq b 0 ≡ false
isnt_zero b h = grind (arith, nat_tests, h)

lead_replaced : (r : Reordering) (b p : ℕ) → slice_index r.leads b ≢ 0 → lead_byte p ≡ b → lead_byte (reordered r p) ≡ slice_index r.leads b
lead_replaced r b p given at =
    ap (λ w. lead_byte w) (replaced r p (ap (λ l. nat_eq (slice_index r.leads l) 0) at ∙ isnt_zero (slice_index r.leads b) given))
    ∙ lead-with_lead (slice_index r.leads (lead_byte p)) p ∙ ap (λ l. slice_index r.leads l) at

pub replaced_whole : (r : Reordering) (b : ℕ) → slice_index r.leads b ≢ 0 → KeepsLeadTogether (Some r) b
replaced_whole r b given p q at_p at_q = lead_replaced r b p given at_p ∙ sym (lead_replaced r b q given at_q)

lead_stays : (r : Reordering) (b p : ℕ) → (slice_index r.leads b == 0) ≡ true → r.limit ≤ b * 0x1000000 → lead_byte p ≡ b → lead_byte (reordered r p) ≡ b
lead_stays r b p zero_byte limit at =
    let high : (nat_le p 1 || nat_le r.limit p) ≡ true = grind (arith, nat_tests) in
    ap (λ w. lead_byte w) (stays r p (ap (λ l. nat_eq (slice_index r.leads l) 0) at ∙ zero_byte) high) ∙ at

pub stays_whole : (r : Reordering) (b : ℕ) → slice_index r.leads b ≡ 0 → r.limit ≤ b * 0x1000000 → KeepsLeadTogether (Some r) b
stays_whole r b zero_byte limit p q at_p at_q =
    let is : (slice_index r.leads b == 0) ≡ true = ap (λ n. nat_eq n 0) zero_byte in
    lead_stays r b p is limit at_p ∙ sym (lead_stays r b q is limit at_q)

-- ---- weights between two

or_second : (a b : Bool) → IsTrue b → IsTrue (a || b)
or_second true b h = refl
or_second false b h = h

or_right : (a b : Bool) → a ≡ false → IsTrue (a || b) → IsTrue b
or_right true b f h = cc
or_right false b f h = h

module _ (all : CollatorTables) (p z q : ℕ) (some : p ≢ 0) (whole_bytes : p % 256 ≡ 0) (one_lead : lead_byte p ≡ lead_byte z) (whole : KeepsLeadTogether all.reordering (lead_byte p))
    (least : first_condition_failed all (of_primary p) ≡ None) (greatest : first_condition_failed all (of_primary z) ≡ None) (low : p ≤ q) (high : q ≤ z) where
  same_lead : lead_byte q ≡ lead_byte p
  same_lead = omega (arith, one_lead)

  same_new : lead_byte (reorder all q) ≡ lead_byte (reorder all p)
  same_new = whole q p same_lead refl

  of_least : (condition : ReachableElementCondition) → IsTrue (reachable_element_meets condition all (of_primary p))
  of_least = passes_element all (of_primary p) least

  of_greatest : (condition : ReachableElementCondition) → IsTrue (reachable_element_meets condition all (of_primary z))
  of_greatest = passes_element all (of_primary z) greatest

  p_some : nat_eq p 0 ≡ false
  p_some = isnt_zero p some

  z_some : nat_eq z 0 ≡ false
  z_some = isnt_zero z (λ h. some (omega arith))

  below : (m n : ℕ) → m ≤ n → nat_lt n (2 ^ 32) ≡ true → nat_lt m (2 ^ 32) ≡ true
  below m n h is = grind (arith, nat_tests)

  width : nat_lt q (2 ^ 32) ≡ true
  width = below q z high (and_parts _ _ (and_parts _ _ (of_greatest Width)).0).0

  middle : IsTrue (primary_meets MiddleLead all q)
  middle = rw (same_lead, same_new) (or_right (nat_eq p 0) _ p_some (of_least MiddleLead))

  no_low : has_low_bytes p ≡ false
  no_low = last (not (nat_eq (p / 0x10000 % 256) 0)) (not (nat_eq (p / 0x100 % 256) 0)) (p % 256) whole_bytes
    where
      last : (a b : Bool) (n : ℕ) → n ≡ 0 → (a && b && not (nat_eq n 0)) ≡ false
      last true true n is = rw is refl
      last false b n is = refl
      last true false n is = refl

  or_left : (a b : Bool) → b ≡ false → IsTrue (a || b) → IsTrue a
  or_left true b f h = refl
  or_left false b f h = cc

  or_first : (a b : Bool) → IsTrue a → IsTrue (a || b)
  or_first true b h = refl
  or_first false b h = cc

  implicit : IsTrue (primary_meets ImplicitLength all q)
  implicit =
      or_first _ (has_low_bytes q) (rw same_lead (or_left (not (nat_eq (lead_byte p) implicit_lead)) (has_low_bytes p) no_low (or_right (nat_eq p 0) _ p_some (of_least ImplicitLength))))

  numeric : IsTrue (primary_meets NumericLead all q)
  numeric = rw same_lead (or_right (nat_eq p 0) _ p_some (of_least NumericLead))

  shared : IsTrue (primary_meets SharedLead all q)
  shared = rw (same_lead, same_new) (or_right (nat_eq p 0) _ p_some (of_least SharedLead))

  second_between : (compressed : Bool) → IsTrue (not compressed || has_second_byte p) → IsTrue (not compressed || has_second_byte z) → IsTrue (not compressed || has_second_byte q)
  second_between false a b = refl
  second_between true a b =
      let first = and_parts (nat_le 4 (p / 0x10000 % 256)) _ a in
      let last = and_parts _ (nat_le (z / 0x10000 % 256) 0xFE) b in
      let above : p / 0x10000 % 256 ≤ q / 0x10000 % 256 = omega (arith, one_lead) in
      let below : q / 0x10000 % 256 ≤ z / 0x10000 % 256 = omega (arith, one_lead) in
      both _ _ (from (p / 0x10000 % 256) (q / 0x10000 % 256) first.0 above) (to (q / 0x10000 % 256) (z / 0x10000 % 256) last.1 below)
    where
      both : (a b : Bool) → a ≡ true → b ≡ true → IsTrue (a && b)
      both true true h k = refl
      both false b h k = cc
      both true false h k = cc

      from : (m n : ℕ) → nat_le 4 m ≡ true → m ≤ n → nat_le 4 n ≡ true
      from m n is h = grind (arith, nat_tests)

      to : (n m : ℕ) → nat_le m 0xFE ≡ true → n ≤ m → nat_le n 0xFE ≡ true
      to n m is h = grind (arith, nat_tests)

  second : IsTrue (primary_meets SecondByte all q)
  second =
      let of_p : IsTrue (not (is_compressible all.special (lead_byte p)) || has_second_byte p) = or_right (nat_eq p 0) _ p_some (of_least SecondByte) in
      let of_z : IsTrue (not (is_compressible all.special (lead_byte z)) || has_second_byte z) = or_right (nat_eq z 0) _ z_some (of_greatest SecondByte) in
      rw same_lead (second_between (is_compressible all.special (lead_byte p)) of_p (subst (λ l. IsTrue (not (is_compressible all.special l) || has_second_byte z)) (sym one_lead) of_z))

  element : (condition : ReachableElementCondition) → IsTrue (reachable_element_meets condition all (of_primary q))
  element Width = rw width refl
  element BackwardLead = or_second (is_forward all) true refl
  element TertiaryElement = refl
  element MiddleLead = or_second (q == 0) _ middle
  element ImplicitLength = or_second (q == 0) _ implicit
  element NumericLead = or_second (q == 0) _ numeric
  element SharedLead = or_second (q == 0) _ shared
  element SecondByte = or_second (q == 0) _ second

  pub between_passes : first_condition_failed all (of_primary q) ≡ None
  unfolding first_condition_failed
  between_passes = none_found (λ condition. not (reachable_element_meets condition all (of_primary q))) (λ condition. negated (reachable_element_meets condition all (of_primary q)) (element condition)) element_conditions

-- ---- weights of characters in a row

weight_rises : (compressible : Bool) (m n : ℕ) → m ≤ n → weight_at compressible m ≤ weight_at compressible n
unfolding weight_at
weight_rises true m n h = omega arith
weight_rises false m n h = omega arith

offset_rises : (d : Element) (a c : ℕ) → a ≤ c → offset_weight d a ≤ offset_weight d c
unfolding offset_weight
offset_rises d a c h = weight_rises (offset_compressible d) (offset_ordinal d a) (offset_ordinal d c) (ordinal_rises d a c h)

-- a character has one element, whose weight is between two
pub record GivesBetween (home : Data) (e c least greatest : ℕ) : Type 0 where
  pub weight : ℕ
  pub given : final_elements (homed home e) c ≡ of_primary weight ∷ []
  pub low : least ≤ weight
  pub high : weight ≤ greatest

-- a test that each member passes keeps the list
all_kept : (p : Element → Bool) (xs : List Element) → IsTrue (list_all p xs) → filter p xs ≡ xs
all_kept p [] h = refl
all_kept p (x ∷ xs) h =
    let both = and_parts (p x) (list_all p xs) h in rw both.0 (ap (λ ys. x ∷ ys) (all_kept p xs both.1))

elements_at : (home : Data) (e c : ℕ) → kind_of e ≡ Offset → IsTrue (fits_offset home c e) → final_elements (homed home e) c ≡ map (λ d. offset_element d c) (found_data home e)
unfolding final_elements fits_offset
elements_at home e c is fits =
    let each : IsTrue (list_all (λ d. has_offset_weight d c) (found_data home e)) = rw (is, fits_offset) at fits in
    rw (is, final_elements, all_kept (λ d. has_offset_weight d c) (found_data home e) each) refl

of_data : (ds : List Element) (a z c : ℕ) (x y : Element) → map (λ d. offset_element d a) ds ≡ x ∷ [] → map (λ d. offset_element d z) ds ≡ y ∷ [] → a ≤ c → c ≤ z
    → (es : List Element) → es ≡ map (λ d. offset_element d c) ds → (home : Data) (e : ℕ) → final_elements (homed home e) c ≡ es → GivesBetween home e c x.primary y.primary
of_data [] a z c x y at_a at_z low high es is home e gives = cc
of_data (d ∷ []) a z c x y at_a at_z low high es is home e gives =
    let first : of_primary (offset_weight d a) ≡ x = cc in
    let last : of_primary (offset_weight d z) ≡ y = cc in
    record {
      weight = offset_weight d c;
      given = gives ∙ is;
      low = subst (λ (x : Element). x.primary ≤ offset_weight d c) first (offset_rises d a c low);
      high = subst (λ (y : Element). offset_weight d c ≤ y.primary) last (offset_rises d c z high);
    }
of_data (d ∷ f ∷ ds) a z c x y at_a at_z low high es is home e gives = cc

pub gives_between : (home : Data) (e a z c : ℕ) (x y : Element) → kind_of e ≡ Offset → ((m : ℕ) → a ≤ m → m ≤ z → IsTrue (fits_offset home m e)) → final_elements (homed home e) a ≡ x ∷ [] → final_elements (homed home e) z ≡ y ∷ [] → a ≤ c → c ≤ z
    → GivesBetween home e c x.primary y.primary
gives_between home e a z c x y is fits at_a at_z low high =
    let first = elements_at home e a is (fits a (omega arith) (omega arith)) in
    let last = elements_at home e z is (fits z (omega arith) (omega arith)) in
    of_data (found_data home e) a z c x y (sym first ∙ at_a) (sym last ∙ at_z) low high
    _ refl home e (elements_at home e c is (fits c low high))

no_mappings : (home : Data) (n e : ℕ) → kind_of e ≡ Offset → avoids_diacritics n home e ≡ true
unfolding avoids_diacritics
no_mappings home n e is = rw (is, avoids_diacritics) refl

-- an offset entry has no violation then
pub offset_no_violation : (all : CollatorTables) (table : DataTable) (home : Data) (c e : ℕ) (p : ℕ) → kind_of e ≡ Offset → first_failing home c e ≡ None → final_elements (homed home e) c ≡ of_primary p ∷ []
    → first_condition_failed all (of_primary p) ≡ None → entry_violation all table home c e ≡ None
unfolding earlier
offset_no_violation all table home c e p is own gives none = without_own all table home c e own ∙ rw (no_mappings home _ e is, gives, none) refl
