-- The primaries that well-formed tables give are as the primary and the quaternary level ask.
use Rattle.std.proofs.Common.{◌≡◌, ◌≢◌, ◌⊎◌, ℕ, ◌/◌, ◌%◌, ◌^◌, ◌<◌, ◌≤◌, true, ◌&&◌, nat_le, nat_lt, Option, Some, None, refl, sym, ap, ◌∙◌, subst, arith, inl, inr}
use Rattle.std.specs.Option.{ForSome}
use Rattle.std.proofs.lemmas.Bool.{cases_eq, and_parts}
use Rattle.std.proofs.lemmas.Bool.Decides.{nat_tests}
use Rattle.icu_element_matches.proofs.steady_matches.LongestLemmas.{implied}
use Rattle.icu_order_levels.specs.ListOrder.{IsBeginning}
use Rattle.icu_order_levels.specs.WeightBytes.{weight_bytes}
use Rattle.icu_order_levels.specs.Primaries.{lead, second_byte}
use Rattle.icu_order_levels.specs.Premises.{ArePrimaries, AreShifted}
use Rattle.icu_table_entries.specs.Elements.{Element}
use Rattle.icu_table_entries.specs.ElementConditions.{has_primary_lead, separator_primary}
use Rattle.icu_table_provider.specs.Reorderings.{Reordering, lead_byte}
use Rattle.icu_table_provider.specs.SpecialPrimaries.{is_compressible}
use Rattle.icu_table_provider.specs.declared.well_formed.condition.Condition.TheVariants as conditions
use Rattle.icu_table_provider.specs.declared.well_formed.condition.ReachableElementCondition.TheVariants.{Width, MiddleLead, NumericLead, SharedLead, SecondByte}
use Rattle.icu_table_provider.specs.declared.well_formed.condition.PairCondition.TheVariants.{Primaries, Compression}
use Rattle.icu_table_provider.specs.declared.well_formed.condition.LeadCondition.TheVariants as leads
use Rattle.icu_table_provider.specs.CollatorTables.{CollatorTables, reorder_by, reorder, new_lead}
use Rattle.icu_table_provider.specs.well_formed.Leads.{is_middle}
use Rattle.icu_table_provider.specs.well_formed.ElementConditions.{primary_meets, implicit_lead, is_apart, has_second_byte}
use Rattle.icu_table_provider.specs.well_formed.WellFormedTables.{IsReordering, IsWellFormedTables}
use Rattle.icu_table_provider.proofs.well_formed.LeadLemmas.{reordered-rest, reordered-bound}
use Rattle.icu_order_texts.specs.weighting.Levels.{primary_of}
use Rattle.icu_order_texts.specs.weighting.Forms.{compression_of}
use Rattle.icu_order_texts.specs.ReachableWeights.{IsReachablePrimary, IsShiftedPrimary}
use Rattle.icu_order_texts.proofs.ReachableElementLemmas.{reachable-primary_lead, where_some}

-- ---- reordering, where there is one

rest_by : (o : Option Reordering) (p : ℕ) → reorder_by o p % 2 ^ 24 ≡ p % 2 ^ 24
rest_by None p = refl
rest_by (Some r) p = reordered-rest r p

bound_by : (o : Option Reordering) → ForSome o IsReordering → (p : ℕ) → p < 2 ^ 32 → reorder_by o p < 2 ^ 32
bound_by None is p small = small
bound_by (Some r) is p small = reordered-bound r p (is r refl).bytes small

-- ---- tests of one primary

second_from_test : (p : ℕ) → has_second_byte p ≡ true → (4 ≤ second_byte p) × (second_byte p ≤ 0xFE)
second_from_test p h =
    let parts = and_parts (nat_le 4 (p / 0x10000 % 256)) (nat_le (p / 0x10000 % 256) 0xFE) h in
    let low : 4 ≤ p / 0x10000 % 256 = grind (arith, nat_tests) in
    let high : p / 0x10000 % 256 ≤ 0xFE = grind (arith, nat_tests) in
    (omega (arith, low), omega (arith, high))

middle_from_test : (b : ℕ) → is_middle b ≡ true → 3 ≤ b
middle_from_test b h = grind (arith, nat_tests)

-- the separator's, one with a lead byte from 03 to FE, or one with FF
abbrev HasPlace : ℕ → Type 0
HasPlace p = (p ≡ separator_primary) ⊎ ((is_middle (lead_byte p) ≡ true) ⊎ (lead_byte p ≡ 0xFF))

place_from_test : (x : Element) → has_primary_lead x ≡ true → x.primary ≢ 0 → x.primary < 2 ^ 32 → HasPlace x.primary
unfolding has_primary_lead
place_from_test x h some small =
    elim (cases_eq x.primary separator_primary) [
      | inl is ↦ inl is
      | inr other ↦
          let high : 0x03000000 ≤ x.primary = grind (arith, nat_tests) in
          elim (cases_eq (lead_byte x.primary) 0xFF) [
            | inl last ↦ inr (inr last)
            | inr below ↦ inr (inl (grind (arith, nat_tests)))
          ]
    ]

module _ (all : CollatorTables) (well_formed : IsWellFormedTables all) where
  fits : (p : ℕ) → IsReachablePrimary all p → p < 2 ^ 32
  fits p w =
      let x = w.element in
      let widths = and_parts (nat_lt x.primary (2 ^ 32) && nat_lt x.secondary (2 ^ 16)) (nat_lt x.lower (2 ^ 16))
      (well_formed.each (conditions.Element Width) w.table x w.reachable) in
      let width = and_parts (nat_lt x.primary (2 ^ 32)) (nat_lt x.secondary (2 ^ 16)) widths.0 in
      subst (λ p. p < 2 ^ 32) (sym w.is) (grind (arith, nat_tests))

  bound : (p : ℕ) → p < 2 ^ 32 → reorder all p < 2 ^ 32
  bound = bound_by all.reordering well_formed.tables.reordering

  place : (p : ℕ) → IsReachablePrimary all p → HasPlace p
  place p w =
      let x = w.element in
      let small : x.primary < 2 ^ 32 = subst (λ p. p < 2 ^ 32) w.is (fits p w) in
      subst HasPlace (sym w.is) (place_from_test x (reachable-primary_lead all well_formed w.table x w.reachable) w.some small)

  -- reordering keeps the separator, and leaves the others above it
  abbrev IsKept : ℕ → Type 0
  IsKept w = (w ≡ 0x02000000) ⊎ (3 ≤ lead_byte w)

  kept_at : (p : ℕ) → p < 2 ^ 32 → primary_meets MiddleLead all p ≡ true → HasPlace p → IsKept (reorder all p)
  kept_at p small h (inl is) = inl (ap (reorder all) is ∙ well_formed.each (conditions.Lead leads.Separator))
  kept_at p small h (inr (inl middle)) =
      inr (middle_from_test (lead_byte (reorder all p)) (implied (is_middle (lead_byte p)) (is_middle (lead_byte (reorder all p))) h middle))
  kept_at p small h (inr (inr last)) =
      let stays : lead_byte (reorder all p) ≡ 0xFF = well_formed.each (conditions.Lead leads.HighLead) p small last in inr (omega (arith, stays))

  middle_lead : (p : ℕ) → IsReachablePrimary all p → primary_meets MiddleLead all p ≡ true
  middle_lead p w =
      let x = w.element in
      subst (λ p. primary_meets MiddleLead all p ≡ true) (sym w.is)
      (where_some x.primary (primary_meets MiddleLead all x.primary) (well_formed.each (conditions.Element MiddleLead) w.table x w.reachable) w.some)

  kept : (p : ℕ) → IsReachablePrimary all p → IsKept (reorder all p)
  kept p w = kept_at p (fits p w) (middle_lead p w) (place p w)

  from_two : (w : ℕ) → IsKept w → 2 ≤ lead w
  from_two w (inl is) = omega (arith, is)
  from_two w (inr high) = omega (arith, high)

  only_two : (w : ℕ) → IsKept w → lead w ≡ 2 → w ≡ 0x02000000
  only_two w (inl is) e = is
  only_two w (inr high) e = absurd (omega (arith, high, e))

  free : (v w : ℕ) → IsReachablePrimary all v → IsReachablePrimary all w → reorder all v ≢ reorder all w
      → IsBeginning (weight_bytes 4 (reorder all v)) (weight_bytes 4 (reorder all w)) → ⊥
  free v w p q n b =
      well_formed.each (conditions.Pair Primaries) p.table q.table p.element p.reachable q.element q.reachable p.some q.some
      (λ e. n (ap (reorder all) (p.is ∙ e ∙ sym q.is))) (rw (p.is, q.is) at b)

  alike : (v w : ℕ) → IsReachablePrimary all v → IsReachablePrimary all w → lead_byte (reorder all v) ≡ lead_byte (reorder all w)
      → is_compressible all.special (lead_byte v) ≡ is_compressible all.special (lead_byte w)
  alike v w p q e =
      ap (λ v. is_compressible all.special (lead_byte v)) p.is
      ∙ well_formed.each (conditions.Pair Compression) p.table q.table p.element p.reachable q.element q.reachable p.some q.some (rw (p.is, q.is) at e)
      ∙ sym (ap (λ w. is_compressible all.special (lead_byte w)) q.is)

  seconds : (p : ℕ) → IsReachablePrimary all p → is_compressible all.special (lead_byte p) ≡ true → (4 ≤ second_byte p) × (second_byte p ≤ 0xFE)
  seconds p w e =
      let x = w.element in
      let meets = subst (λ p. primary_meets SecondByte all p ≡ true) (sym w.is)
      (where_some x.primary (primary_meets SecondByte all x.primary) (well_formed.each (conditions.Element SecondByte) w.table x w.reachable) w.some) in
      second_from_test p (implied (is_compressible all.special (lead_byte p)) (has_second_byte p) meets e)

  not_numeric : (p : ℕ) → IsReachablePrimary all p → lead_byte p ≢ all.special.numeric
  not_numeric p w =
      let x = w.element in
      let meets = subst (λ p. primary_meets NumericLead all p ≡ true) (sym w.is)
      (where_some x.primary (primary_meets NumericLead all x.primary) (well_formed.each (conditions.Element NumericLead) w.table x w.reachable) w.some) in
      λ e. grind (arith, nat_tests)

  numbers_apart : (p : ℕ) → IsReachablePrimary all p → lead_byte (reorder all p) ≢ new_lead all all.special.numeric
  numbers_apart p w =
      let x = w.element in
      let meets = subst (λ p. primary_meets SharedLead all p ≡ true) (sym w.is)
      (where_some x.primary (primary_meets SharedLead all x.primary) (well_formed.each (conditions.Element SharedLead) w.table x w.reachable) w.some) in
      let apart = and_parts (is_apart all implicit_lead p) (is_apart all all.special.numeric p) meets in
      let other = not_numeric p w in
      λ e. grind (arith, nat_tests)

  pub reachable_primaries : ArePrimaries (compression_of all) all.special.numeric (IsReachablePrimary all)
  reachable_primaries = record {
    reordered_fits = λ w small. bound w small;
    lead_alone = λ w small. rest_by all.reordering w;
    fits = fits;
    leads = λ w h. from_two (reorder all w) (kept w h);
    separator = λ w h. only_two (reorder all w) (kept w h);
    prefix_free = free;
    seconds = seconds;
    alike = alike;
    not_numeric = not_numeric;
    numbers_together = λ w small e. (well_formed.each (conditions.Lead leads.NumericLead)).together w small e;
    numbers_apart = numbers_apart;
    numbers_high = middle_from_test (new_lead all all.special.numeric) (well_formed.each (conditions.Lead leads.NumericLead)).middle;
    numbers_whole = well_formed.each (conditions.Lead leads.NumericWhole);
  }

  -- ---- shifted ones

  of_shifted : (w : ℕ) (s : IsShiftedPrimary all w) → IsReachablePrimary all (primary_of s.element)
  of_shifted w s = record { table = s.table; element = s.element; reachable = s.reachable; some = s.some; is = refl }

  pub reachable_shifted : AreShifted (IsShiftedPrimary all)
  reachable_shifted = record {
    fits = λ w s. subst (λ w. w < 2 ^ 32) (sym s.is) (bound (primary_of s.element) (fits (primary_of s.element) (of_shifted w s)));
    leads = λ w s. subst (λ w. 2 ≤ lead w) (sym s.is)
        (from_two (reorder all (primary_of s.element)) (kept (primary_of s.element) (of_shifted w s)));
    prefix_free = λ v w s t n b.
        free (primary_of s.element) (primary_of t.element) (of_shifted v s) (of_shifted w t) (λ e. n (s.is ∙ e ∙ sym t.is)) (rw (s.is, t.is) at b);
  }
