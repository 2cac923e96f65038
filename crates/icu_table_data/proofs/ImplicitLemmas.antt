-- Implicit weights meet every condition, so that entries for them need no look at the weight.
use Rattle.std.proofs.Common.{◌≡◌, ℕ, ◌<◌, ◌≤◌, Bool, true, false, not, ◌&&◌, nat_eq, nat_le, [], ◌∷◌, Option, None, refl, ap, arith, IsTrue}
use Rattle.std.specs.Prelude.{◌||◌}
use Rattle.std.proofs.lemmas.Bool.Decides.{nat_tests}
use Rattle.std.proofs.Math.Bool.{or-true}
use Rattle.std.specs.Int.{byte_at}
use Rattle.icu_table_data.specs.declared.reachable_condition.ReachableCondition.{ReachableCondition}
use Rattle.icu_table_data.specs.declared.reachable_condition.ReachableCondition.TheVariants.{Indices, PrefixMappings, Chains, Digits, Bytes, Offsets, Shapes, Leads, Primaries}
use Rattle.icu_table_entries.specs.Elements.{Element, of_primary}
use Rattle.icu_table_entries.specs.Weights.{weight, implicit_weight}
use Rattle.icu_table_entries.specs.declared.entry.EntryKind.TheVariants.{Implicit}
use Rattle.icu_table_entries.specs.Entries.{kind_of}
use Rattle.icu_table_data.specs.Data.{Data}
use Rattle.icu_table_data.specs.Final.{final_elements}
use Rattle.icu_table_entries.specs.ElementConditions.{four_bytes, ends_at_zero, has_shape, has_secondary_lead, has_tertiary_lead, has_primary_lead, is_separator}
use Rattle.icu_table_data.specs.DataConditions.{is_inside, has_short_mappings, leads_on, has_known_members, fits_offset}
use Rattle.icu_table_entries.specs.EntryConditions.{has_digit, has_known_byte}
use Rattle.icu_table_data.specs.ReachableConditions.{meets, first_failing}
use Rattle.icu_table_data.specs.CollectedWeights.{is_stated}
use Rattle.icu_table_data.specs.inner.Visitors.{given_elements, collected_at}
use Rattle.icu_table_data.proofs.ViolationLemmas.{meets_passes}

or_right : (a b c : Bool) → b ≡ true → (a || b || c) ≡ true
or_right true b c h = refl
or_right false true c h = refl
or_right false false c h = cc

isnt_zero : (b : ℕ) → 1 ≤ b → nat_eq b 0 ≡ false
isnt_zero b h = grind (arith, nat_tests)

may : (b next : ℕ) → 1 ≤ b → (not (nat_eq b 0) || nat_eq next 0) ≡ true
may b next h = ap (λ t. not t || nat_eq next 0) (isnt_zero b h)

-- three nonzero bytes, and any fourth one
ends : (a b c d : ℕ) → 1 ≤ a → 1 ≤ b → 1 ≤ c → ends_at_zero (a ∷ b ∷ c ∷ d ∷ []) ≡ true
unfolding ends_at_zero
ends a b c d p q r =
    rw (may a b p, may b c q, may c d r) refl

-- the element of a weight with at least three nonzero bytes, whose lead isn't below 03
module _ (b1 b2 b3 b4 : ℕ) (low1 : 3 ≤ b1) (high1 : b1 < 256) (low2 : 1 ≤ b2) (high2 : b2 < 256) (low3 : 1 ≤ b3) (high3 : b3 < 256) (high4 : b4 < 256) where
  first : 1 ≤ byte_at 3 (weight b1 b2 b3 b4)
  first = omega arith

  second : 1 ≤ byte_at 2 (weight b1 b2 b3 b4)
  second = omega arith

  third : 1 ≤ byte_at 1 (weight b1 b2 b3 b4)
  third = omega arith

  four_end : ends_at_zero (four_bytes (weight b1 b2 b3 b4)) ≡ true
  four_end = ends _ _ _ _ first second third

  pub shape : has_shape (of_primary (weight b1 b2 b3 b4)) ≡ true
  unfolding has_shape ends_at_zero
  shape = rw (four_end, or-true (nat_eq (weight b1 b2 b3 b4) 0)) refl

  is_high : nat_le 0x03000000 (weight b1 b2 b3 b4) ≡ true
  is_high = grind (arith, nat_tests)

  pub lead : has_primary_lead (of_primary (weight b1 b2 b3 b4)) ≡ true
  unfolding has_primary_lead
  lead = or_right (nat_eq (weight b1 b2 b3 b4) 0) _ (is_separator (of_primary (weight b1 b2 b3 b4))) is_high

implicit_shape : (c : ℕ) → has_shape (of_primary (implicit_weight c)) ≡ true
unfolding implicit_weight
implicit_shape c = shape 0xFE _ _ _ (omega arith) (omega arith) (omega arith) (omega arith) (omega arith) (omega arith) (omega arith)

implicit_lead : (c : ℕ) → has_primary_lead (of_primary (implicit_weight c)) ≡ true
unfolding implicit_weight
implicit_lead c = lead 0xFE _ _ _ (omega arith) (omega arith) (omega arith) (omega arith) (omega arith) (omega arith) (omega arith)

pub and_true : (a : Bool) → a ≡ true → (a && true) ≡ true
and_true true h = refl
and_true false h = cc

implicit_meets : (home : Data) (c e : ℕ) → kind_of e ≡ Implicit → (condition : ReachableCondition) → IsTrue (meets condition home c e)
unfolding is_inside has_short_mappings leads_on has_digit has_known_byte has_known_members fits_offset final_elements has_secondary_lead has_tertiary_lead
implicit_meets home c e is Indices = rw (is, is_inside) refl
implicit_meets home c e is PrefixMappings = rw (is, has_short_mappings) refl
implicit_meets home c e is Chains = rw (is, leads_on) refl
implicit_meets home c e is Digits = rw (is, has_digit) refl
implicit_meets home c e is Bytes = rw (is, has_known_byte, has_known_members) refl
implicit_meets home c e is Offsets = rw (is, fits_offset) refl
implicit_meets home c e is Shapes = rw (is, final_elements) (and_true _ (implicit_shape c))
implicit_meets home c e is Leads = rw (is, final_elements) refl
implicit_meets home c e is Primaries = rw (is, final_elements) (and_true _ (implicit_lead c))

-- an entry for an implicit weight fails no condition
pub implicit_passes : (home : Data) (c e : ℕ) → kind_of e ≡ Implicit → first_failing home c e ≡ None
implicit_passes home c e is = meets_passes home c e (implicit_meets home c e is)

-- of an entry for an implicit weight nothing is collected
pub collects_nothing : {W : Type 0} (weight : W → Element → Option ℕ) (w : W) (ws : ℕ → Bool) (home : Data) (c e : ℕ) → kind_of e ≡ Implicit → collected_at weight (w, ws) home c e ≡ (w, ws)
unfolding given_elements is_stated
collects_nothing weight w ws home c e is = rw is refl
