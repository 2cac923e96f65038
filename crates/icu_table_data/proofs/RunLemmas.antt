-- Characters in a row with one offset entry: their weights rise, so the ends of the mapping show what holds of each.
use Rattle.std.proofs.Common.{◌≡◌, ◌∙◌, ap, sym, fold, Option, ℕ, suc, ◌-◌, ◌*◌, ◌<◌, ◌≤◌, Bool, true, false, ◌&&◌, nat_le, nat_lt, List, [], ◌∷◌, ◌+◌, if◌then◌else◌, None, refl, arith, IsTrue, take, drop}
use Rattle.std.proofs.lemmas.Bool.{and_parts, and_from}
use Rattle.std.proofs.lemmas.Bool.Decides.{nat_tests}
use Rattle.std.proofs.lemmas.Nat.{mul-le}
use Rattle.icu_table_data.specs.declared.reachable_condition.ReachableCondition.{ReachableCondition}
use Rattle.icu_table_data.specs.declared.reachable_condition.ReachableCondition.TheVariants.{Indices, PrefixMappings, Chains, Digits, Bytes, Offsets, Shapes, Leads, Primaries}
use Rattle.icu_table_entries.specs.Elements.{Element, of_primary}
use Rattle.icu_table_entries.specs.Weights.{lead_at, weight_at, offset_base, offset_compressible, offset_step, offset_ordinal, offset_weight, offset_element}
use Rattle.icu_table_entries.specs.declared.entry.EntryKind.TheVariants.{Offset}
use Rattle.icu_table_entries.specs.Entries.{kind_of, entry_index}
use Rattle.icu_table_entries.specs.EntryConditions.{is_three_byte_weight, has_offset_weight, has_digit, has_known_byte}
use Rattle.icu_table_entries.specs.ElementConditions.{has_shape, has_secondary_lead, has_tertiary_lead, has_primary_lead}
use Rattle.icu_table_data.specs.Data.{Data, homed}
use Rattle.icu_table_data.specs.Final.{final_elements}
use Rattle.icu_table_data.specs.DataConditions.{is_inside, is_readable, has_short_mappings, leads_on, has_known_members, fits_offset}
use Rattle.icu_table_data.specs.ReachableConditions.{meets, first_failing}
use Rattle.icu_table_data.specs.CollectedWeights.{is_stated}
use Rattle.icu_table_data.specs.Walks.{after_run}
use Rattle.icu_table_data.specs.inner.Visitors.{collected, collected_at, given_elements, IsRunData}
use Rattle.icu_table_data.proofs.ViolationLemmas.{meets_passes}
use Rattle.icu_table_data.proofs.ImplicitLemmas.{shape, lead, and_true}

-- ---- ordinals and weights rise

pub lead_rises : (compressible : Bool) (m n : ℕ) → m ≤ n → lead_at compressible m ≤ lead_at compressible n
lead_rises true m n h = omega arith
lead_rises false m n h = omega arith

high_rises : (compressible : Bool) (m n : ℕ) → m ≤ n → 0x03000000 ≤ weight_at compressible m → 0x03000000 ≤ weight_at compressible n
unfolding weight_at
high_rises true m n h high = omega arith
high_rises false m n h high = omega arith

pub ordinal_rises : (d : Element) (a c : ℕ) → a ≤ c → offset_ordinal d a ≤ offset_ordinal d c
unfolding offset_ordinal
ordinal_rises d a c h =
    let more : (a - offset_base d) * offset_step d ≤ (c - offset_base d) * offset_step d = mul-le _ _ _ _ (omega arith) (omega arith) in
    omega (arith, more)

still_from : (b a c : ℕ) → nat_le b a ≡ true → a ≤ c → nat_le b c ≡ true
still_from b a c is h = grind (arith, nat_tests)

still_below : (n m : ℕ) → nat_lt m 256 ≡ true → n ≤ m → nat_lt n 256 ≡ true
still_below n m is h = grind (arith, nat_tests)

-- between two characters that have a weight, each has one
pub has_between : (d : Element) (a c z : ℕ) → a ≤ c → c ≤ z → IsTrue (has_offset_weight d a) → IsTrue (has_offset_weight d z) → IsTrue (has_offset_weight d c)
unfolding has_offset_weight
has_between d a c z low high at_a at_z =
    let compressible : Bool = offset_compressible d in
    let first = and_parts (nat_le (offset_base d) a && is_three_byte_weight compressible d.primary) _ at_a in
    let last = and_parts (nat_le (offset_base d) z && is_three_byte_weight compressible d.primary) _ at_z in
    let start = and_parts (nat_le (offset_base d) a) (is_three_byte_weight compressible d.primary) first.0 in
    and_from _ _
    (and_from _ _ (still_from (offset_base d) a c start.0 low) start.1)
    (still_below _ _ last.1 (lead_rises compressible (offset_ordinal d c) (offset_ordinal d z) (ordinal_rises d c z high)))

lead_below : (d : Element) (c : ℕ) → IsTrue (has_offset_weight d c) → lead_at (offset_compressible d) (offset_ordinal d c) < 256
unfolding has_offset_weight
lead_below d c is =
    let last = (and_parts (nat_le (offset_base d) c && is_three_byte_weight (offset_compressible d) d.primary) _ is).1 in
    by_test _ last
  where
    by_test : (n : ℕ) → nat_lt n 256 ≡ true → n < 256
    by_test n h = grind (arith, nat_tests)

high_between : (d : Element) (a c : ℕ) → a ≤ c → 0x03000000 ≤ offset_weight d a → 0x03000000 ≤ offset_weight d c
unfolding offset_weight
high_between d a c low high = high_rises (offset_compressible d) (offset_ordinal d a) (offset_ordinal d c) (ordinal_rises d a c low) high

-- ---- the elements of such characters

of_ordinal-shape : (compressible : Bool) (n : ℕ) → lead_at compressible n < 256 → 0x03000000 ≤ weight_at compressible n → has_shape (of_primary (weight_at compressible n)) ≡ true
unfolding weight_at
of_ordinal-shape true n small high = shape _ _ _ 0 (omega arith) (omega arith) (omega arith) (omega arith) (omega arith) (omega arith) (omega arith)
of_ordinal-shape false n small high = shape _ _ _ 0 (omega arith) (omega arith) (omega arith) (omega arith) (omega arith) (omega arith) (omega arith)

of_ordinal-lead : (compressible : Bool) (n : ℕ) → lead_at compressible n < 256 → 0x03000000 ≤ weight_at compressible n → has_primary_lead (of_primary (weight_at compressible n)) ≡ true
unfolding weight_at
of_ordinal-lead true n small high = lead _ _ _ 0 (omega arith) (omega arith) (omega arith) (omega arith) (omega arith) (omega arith) (omega arith)
of_ordinal-lead false n small high = lead _ _ _ 0 (omega arith) (omega arith) (omega arith) (omega arith) (omega arith) (omega arith) (omega arith)

offset_shape : (d : Element) (c : ℕ) → IsTrue (has_offset_weight d c) → 0x03000000 ≤ offset_weight d c → has_shape (offset_element d c) ≡ true
unfolding offset_weight
offset_shape d c is high = of_ordinal-shape (offset_compressible d) (offset_ordinal d c) (lead_below d c is) high

offset_lead : (d : Element) (c : ℕ) → IsTrue (has_offset_weight d c) → 0x03000000 ≤ offset_weight d c → has_primary_lead (offset_element d c) ≡ true
unfolding offset_weight
offset_lead d c is high = of_ordinal-lead (offset_compressible d) (offset_ordinal d c) (lead_below d c is) high

-- ---- the conditions

module _ (home : Data) (d : Element) (e : ℕ) (is : kind_of e ≡ Offset) (inside : IsTrue (is_inside home e)) (taken : take 1 (drop (entry_index e) home.elements) ≡ d ∷ []) where
  offset_meets : (c : ℕ) → IsTrue (has_offset_weight d c) → 0x03000000 ≤ offset_weight d c → (condition : ReachableCondition) → IsTrue (meets condition home c e)
  unfolding has_short_mappings leads_on has_digit has_known_byte has_known_members fits_offset final_elements has_secondary_lead has_tertiary_lead
  offset_meets c fits high Indices = inside
  offset_meets c fits high PrefixMappings = rw (is, has_short_mappings) refl
  offset_meets c fits high Chains = rw (is, leads_on) refl
  offset_meets c fits high Digits = rw (is, has_digit) refl
  offset_meets c fits high Bytes = rw (is, has_known_byte, has_known_members) refl
  offset_meets c fits high Offsets = rw (is, fits_offset, taken) (and_true _ fits)
  offset_meets c fits high Shapes = rw (is, final_elements, taken, fits) (and_true _ (offset_shape d c fits high))
  offset_meets c fits high Leads = rw (is, final_elements, taken, fits) refl
  offset_meets c fits high Primaries = rw (is, final_elements, taken, fits) (and_true _ (offset_lead d c fits high))

-- none of the characters by such data fails a condition, if the first one's weight isn't below 03
pub run_passes : (home : Data) (first e : ℕ) (d : Element) → IsRunData home first e d → 0x03000000 ≤ offset_weight d first → (c : ℕ) → first ≤ c → c < first + 64 → first_failing home c e ≡ None
run_passes home first e d r high c low below =
    meets_passes home c e (offset_meets home d e r.offset r.inside r.taken c (r.fits c low below) (high_between d first c low high))

-- ---- what they give

module _ (home : Data) (d : Element) (e : ℕ) (is : kind_of e ≡ Offset) (inside : IsTrue (is_inside home e)) (taken : take 1 (drop (entry_index e) home.elements) ≡ d ∷ []) (c : ℕ) (fits : IsTrue (has_offset_weight d c)) where
  readable : is_readable home c e ≡ true
  unfolding is_readable has_known_members fits_offset
  readable =
      let known : has_known_members home e ≡ true = rw (is, has_known_members) refl in
      let all : fits_offset home c e ≡ true = rw (is, fits_offset, taken) (and_true _ fits) in
      and_from _ _ (and_from _ _ inside known) all

  stated : is_stated home c e ≡ true
  unfolding is_stated
  stated = rw (is, is_stated) readable

  finals : final_elements (homed home e) c ≡ offset_element d c ∷ []
  unfolding final_elements
  finals = rw (is, final_elements, taken, fits) refl

  if_so : (b : Bool) (xs ys : List Element) → b ≡ true → xs ≡ ys → (if b then xs else []) ≡ ys
  if_so true xs ys h same = same
  if_so false xs ys h same = cc

  given : given_elements home c e ≡ offset_element d c ∷ []
  unfolding given_elements
  given = if_so _ _ _ stated finals

pub run_given : (home : Data) (first e : ℕ) (d : Element) → IsRunData home first e d → (c : ℕ) → first ≤ c → c < first + 64 → given_elements home c e ≡ offset_element d c ∷ []
run_given home first e d r c low below = given home d e r.offset r.inside r.taken c (r.fits c low below)

-- ---- what collects, after so many of them

-- the visit with one more character of a run
module _ {W : Type 0} (weight : W → Element → Option ℕ) (home : Data) (first e : ℕ) where
  abbrev pub RanTo : W × (ℕ → Bool) → W × (ℕ → Bool) → ℕ → Type 0
  RanTo old new n = new ≡ after_run (collected_at weight) old home first e n

  pub ran_none : (s : W × (ℕ → Bool)) (n : ℕ) → n ≡ 0 → RanTo s s n
  unfolding after_run
  ran_none s n h = rw h refl

  next_run : (s : W × (ℕ → Bool)) (n m : ℕ) → m ≡ suc n → after_run (collected_at weight) s home first e m ≡ collected_at weight (after_run (collected_at weight) s home first e n) home (first + n) e
  unfolding after_run
  next_run s n m h = rw h refl

  pub ran_on : (d : Element) → IsRunData home first e d → (old s t : W × (ℕ → Bool)) (n m c : ℕ) → m ≡ suc n → c ≡ first + n → n < 64 → RanTo old s n → t ≡ collected weight s (offset_element d c) → RanTo old t m
  ran_on d r old s t n m c next at h ran is =
      let given : given_elements home c e ≡ offset_element d c ∷ [] = run_given home first e d r c (omega arith) (omega arith) in
      is ∙ sym (ap (λ xs. fold (collected weight) s xs) given) ∙ ap (λ k. collected_at weight s home k e) at ∙ ap (λ s. collected_at weight s home (first + n) e) ran ∙ sym (next_run old n m next)
