-- Where the lead of numbers and the ends of the variable groups stand, in tables that meet the conditions.
use Rattle.std.proofs.Common.{ℕ, ◌*◌, ◌-◌, ◌^◌, ◌<◌, ◌≤◌, List, length, take, nat_le, slice_index, IsTrue, subst, arith}
use Rattle.std.proofs.lemmas.Bool.{and_parts}
use Rattle.std.proofs.lemmas.Bool.Decides.{nat_tests}
use Rattle.std.proofs.lemmas.List.{get_or-take, length-take-le}
use Rattle.icu_options.specs.declared.settings.AlternateHandling.{AlternateHandling}
use Rattle.icu_options.specs.declared.settings.AlternateHandling.TheVariants.{NonIgnorable, Shifted, Blanked}
use Rattle.icu_options.specs.declared.settings.MaxVariable.{MaxVariable}
use Rattle.icu_options.specs.declared.settings.MaxVariable.TheVariants.{Space, Punctuation, Symbol, Currency}
use Rattle.icu_table_provider.specs.SpecialPrimaries.{IsSpecialPrimaries, ends_below, group_index, last_primary}
use Rattle.icu_table_provider.specs.CollatorTables.{CollatorTables}
use Rattle.icu_table_provider.specs.well_formed.WellFormedTables.{IsWellFormedTables}
use Rattle.icu_order_texts.specs.weighting.Collations.{Collation}
use Rattle.icu_order_texts.specs.weighting.Forms.{last_variable, last_variable_by}

numeric_bounds : (last : List ℕ) (n : ℕ) → IsSpecialPrimaries last n → (3 ≤ n) × (n < 256)
numeric_bounds last n special =
    let parts = and_parts (nat_le 3 n) (nat_le n 0xFD) special.group_ends.numeric in
    (grind (arith, nat_tests), grind (arith, nat_tests))

group_small : (group : MaxVariable) → group_index group < 4
group_small Space = omega arith
group_small Punctuation = omega arith
group_small Symbol = omega arith
group_small Currency = omega arith

end_under : (n p : ℕ) → IsTrue (ends_below n p) → p * 0x10000 - 1 < n * 256 ^ 3
end_under n p h =
    let parts = and_parts (nat_le 1 p) (nat_le p (256 * n)) h in
    let some : 1 ≤ p = grind (arith, nat_tests) in
    let low : p ≤ 256 * n = grind (arith, nat_tests) in
    omega (arith, some, low)

module _ (all : CollatorTables) (well_formed : IsWellFormedTables all) where
  pub numeric_high : 3 ≤ all.special.numeric
  numeric_high = (numeric_bounds all.special.last all.special.numeric well_formed.tables.special).0

  pub numeric_low : all.special.numeric < 256
  numeric_low = (numeric_bounds all.special.last all.special.numeric well_formed.tables.special).1

  group_under : (group : MaxVariable) → last_primary all.special group < all.special.numeric * 256 ^ 3
  group_under group =
      let last = all.special.last in
      let inside : group_index group < length (take 4 last) = omega (arith, length-take-le 4 last well_formed.tables.special.count, group_small group) in
      let at = well_formed.tables.special.group_ends.ends (group_index group) 0 inside in
      end_under all.special.numeric (slice_index last (group_index group))
      (subst (λ p. IsTrue (ends_below all.special.numeric p)) (get_or-take 4 last (group_index group) 0 (group_small group)) at)

  -- the variable groups end below the primaries of numbers
  last_under : (handling : AlternateHandling) (group : MaxVariable) → last_variable all.special handling group < all.special.numeric * 256 ^ 3
  last_under NonIgnorable group = let high = numeric_high in omega (arith, high)
  last_under Shifted group = group_under group
  last_under Blanked group = group_under group

module _ (collation : Collation) (well_formed : IsWellFormedTables collation.tables) where
  pub under : last_variable_by collation < collation.tables.special.numeric * 256 ^ 3
  under = last_under collation.tables well_formed collation.settings.alternate_handling collation.settings.max_variable
