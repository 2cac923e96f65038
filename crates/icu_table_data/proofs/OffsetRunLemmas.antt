-- The weight of a character by offset data, from that of the character before: the third byte goes on, where it can.
use Rattle.std.proofs.Common.{◌≡◌, ◌∙◌, ap, sym, ℕ, ◌+◌, ◌-◌, ◌*◌, ◌/◌, ◌%◌, ◌≤◌, Bool, true, false, ◌&&◌, nat_le, IsTrue, arith}
use Rattle.std.proofs.lemmas.Bool.{and_parts}
use Rattle.std.proofs.lemmas.Bool.Decides.{nat_tests}
use Rattle.icu_table_entries.specs.Elements.{Element, of_primary}
use Rattle.icu_table_entries.specs.Weights.{weight_at, offset_base, offset_compressible, offset_step, offset_ordinal, offset_weight, offset_element}
use Rattle.icu_table_entries.specs.EntryConditions.{is_three_byte_weight, has_offset_weight}

weight_on : (compressible : Bool) (n m s : ℕ) → m ≡ n + s → weight_at compressible n / 256 % 256 + s ≤ 255 → weight_at compressible m ≡ weight_at compressible n + s * 256
unfolding weight_at
weight_on true n m s at fits = omega (arith, at, fits)
weight_on false n m s at fits = omega (arith, at, fits)

is_low : (b c : ℕ) → nat_le b c ≡ true → b ≤ c
is_low b c h = grind (arith, nat_tests)

-- a character that has a weight isn't before the base
base_below : (d : Element) (c : ℕ) → IsTrue (has_offset_weight d c) → offset_base d ≤ c
unfolding has_offset_weight
base_below d c is =
    let first = and_parts (nat_le (offset_base d) c && is_three_byte_weight (offset_compressible d) d.primary) _ is in
    let start = and_parts (nat_le (offset_base d) c) (is_three_byte_weight (offset_compressible d) d.primary) first.0 in
    is_low _ _ start.0

module _ (d : Element) (before c : ℕ) (next : c ≡ before + 1) (is : IsTrue (has_offset_weight d before)) where
  ordinal_on : offset_ordinal d c ≡ offset_ordinal d before + offset_step d
  unfolding offset_ordinal
  ordinal_on =
      let low : offset_base d ≤ before = base_below d before is in
      let far : c - offset_base d ≡ (before - offset_base d) + 1 = omega (arith, next, low) in
      let product : (c - offset_base d) * offset_step d ≡ ((before - offset_base d) + 1) * offset_step d = ap (λ n. n * offset_step d) far in
      omega (arith, product)

  next_element : offset_weight d before / 256 % 256 + offset_step d ≤ 255 → of_primary (offset_weight d before + offset_step d * 256) ≡ offset_element d c
  unfolding offset_weight
  next_element fits = ap of_primary (sym (weight_on (offset_compressible d) (offset_ordinal d before) (offset_ordinal d c) (offset_step d) ordinal_on fits))

  pub next_by : (w s : ℕ) → w ≡ offset_weight d before → s ≡ offset_step d → w / 256 % 256 + s ≤ 255 → of_primary (w + s * 256) ≡ offset_element d c
  next_by w s w_is s_is fits =
      let room : offset_weight d before / 256 % 256 + offset_step d ≤ 255 = omega (arith, w_is, s_is, fits) in
      let same : w + s * 256 ≡ offset_weight d before + offset_step d * 256 = omega (arith, w_is, s_is) in
      ap of_primary same ∙ next_element room
