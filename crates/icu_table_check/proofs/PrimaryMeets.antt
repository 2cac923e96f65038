-- Collected primary weights that don't clash give the conditions on the elements of all tables: that none begins
-- another, and that those that share a lead byte after reordering compress alike.
use Rattle.std.proofs.Common.{◌≡◌, ◌≢◌, ◌⊎◌, ℕ, ◌%◌, ◌^◌, ◌<◌, ◌≤◌, Bool, true, false, not, ◌==◌, ◌||◌, nat_lt, nat_le, List, Option, Some, None, refl, sym, ap, ◌∙◌, subst, arith, inl, inr, IsTrue}
use Rattle.std.specs.List.{Contains}
use Rattle.std.proofs.lemmas.Bool.{cases_eq, and_parts}
use Rattle.std.proofs.lemmas.Bool.Decides.{nat_tests}
use Rattle.icu_order_levels.specs.WeightBytes.{weight_bytes}
use Rattle.icu_order_levels.specs.Premises.{IsPrefixFree}
use Rattle.icu_table_entries.specs.declared.error.DataTable.{DataTable}
use Rattle.icu_table_entries.specs.declared.error.DataTable.TheVariants.{Root, Jamo, SpecialPrimaries, Metadata, Tailoring, Diacritics}
use Rattle.icu_table_entries.specs.declared.error.DataTable.TheVariants as tables
use Rattle.icu_table_data.specs.declared.reachable_condition.ReachableCondition.TheVariants as reachable
use Rattle.icu_table_entries.specs.Elements.{Element, common}
use Rattle.icu_table_entries.specs.ElementConditions.{separator_primary, is_separator, has_primary_lead}
use Rattle.icu_table_data.specs.Final.{final_elements}
use Rattle.icu_table_provider.specs.Reorderings.{Reordering, lead_byte}
use Rattle.icu_table_provider.specs.SpecialPrimaries.{is_compressible}
use Rattle.icu_table_data.specs.Data.{homed}
use Rattle.icu_table_provider.specs.declared.well_formed.condition.Condition.TheVariants as conditions
use Rattle.icu_table_provider.specs.declared.well_formed.condition.ReachableElementCondition.TheVariants.{Width, MiddleLead, ImplicitLength, SharedLead}
use Rattle.icu_table_provider.specs.declared.well_formed.condition.LeadCondition.TheVariants.{ImplicitLead, Separator, HighLead}
use Rattle.icu_table_provider.specs.declared.well_formed.condition.PairCondition.TheVariants as of_pair
use Rattle.icu_table_check.specs.declared.check.weights.WeightList.TheVariants.{Primaries}
use Rattle.icu_table_provider.specs.CollatorTables.{CollatorTables, reorder_by, reorder, new_lead}
use Rattle.icu_table_provider.specs.well_formed.ReachableElements.{IsElementBy, IsOfEntryBy}
use Rattle.icu_table_provider.specs.well_formed.ElementConditions.{implicit_lead, has_low_bytes, is_apart, primary_meets}
use Rattle.icu_table_check.specs.inner.EntryViolations.{MeetsIn, ReachableMeets}
use Rattle.icu_table_provider.specs.well_formed.WellFormedTables.{AreTables, Meets}
use Rattle.icu_table_provider.specs.well_formed.LeadConditions.{LeadMeets}
use Rattle.icu_table_provider.specs.well_formed.Leads.{is_middle}
use Rattle.icu_table_provider.proofs.well_formed.LeadLemmas.{reordered-rest}
use Rattle.icu_table_check.proofs.PrimaryLemmas.{AreApart, none_begins, compress_alike}
use Rattle.icu_table_check.proofs.ComparedLevelLemmas.{meets_in, primary_kept, lead_explicit, first_of_three, implied, passes}
use Rattle.icu_table_check.proofs.LevelMeets.{Collected, IsReachableWeight, collected_at}

-- ---- one weight

same_if : (a b : ℕ) → IsTrue (a == b) → a ≡ b
same_if a b h = grind (arith, nat_tests)

below_four_bytes : (p : ℕ) → IsTrue (nat_lt p (2 ^ 32)) → p < 2 ^ 32
below_four_bytes p h = grind (arith, nat_tests)

of_nonzero : (p : ℕ) (b : Bool) → p ≢ 0 → IsTrue (p == 0 || b) → IsTrue b
of_nonzero p true some h = refl
of_nonzero p false some h = grind (arith, nat_tests)

high_or : (p : ℕ) (b : Bool) → p ≢ 0 → IsTrue (p == 0 || nat_le 0x03000000 p || b) → (0x03000000 ≤ p) ⊎ IsTrue b
high_or p true some h = inr refl
high_or p false some h = inl (grind (arith, nat_tests))

-- a nonzero primary weight is the separator's, or leads with 03 or more
lead_cases : (x : Element) → IsTrue (has_primary_lead x) → x.primary ≢ 0 → (0x03000000 ≤ x.primary) ⊎ (x.primary ≡ separator_primary)
unfolding has_primary_lead
lead_cases x h some =
    elim (high_or x.primary (is_separator x) some h) [
      | inl high ↦ inl high
      | inr is ↦ inr (same_if x.primary separator_primary (first_of_three (x.primary == separator_primary) (x.secondary == common) (x.lower == common) is))
    ]

middle_lead : (p : ℕ) → 0x03000000 ≤ p → p < 2 ^ 32 → lead_byte p ≢ 0xFF → IsTrue (is_middle (lead_byte p))
middle_lead p high fits other = grind (arith, nat_tests)

middle_some : (b : ℕ) → IsTrue (is_middle b) → 1 ≤ b
middle_some b h = grind (arith, nat_tests)

if_implicit : (l : ℕ) (b : Bool) → IsTrue (not (l == implicit_lead) || b) → l ≡ implicit_lead → IsTrue b
if_implicit l true h is = refl
if_implicit l false h is = grind (arith, nat_tests)

goes_apart : (a b c d : ℕ) → IsTrue (a == b || not (c == d)) → a ≢ b → c ≢ d
goes_apart a b c d h other same = grind (arith, nat_tests)

separator_leads : (p : ℕ) → p ≡ separator_primary → 1 ≤ lead_byte p
separator_leads p is = omega (arith, is)

rest_stays : (r : Option Reordering) (p : ℕ) → reorder_by r p % 0x1000000 ≡ p % 0x1000000
rest_stays None p = refl
rest_stays (Some r) p = reordered-rest r p

module _ (all : CollatorTables) where
  abbrev IsReachable : ℕ → Type 0
  IsReachable = IsReachableWeight all (λ x. x.primary)

module _ (all : CollatorTables) (met : ReachableMeets all) where
  entry_lead : (table : DataTable) → MeetsIn table all → (x : Element) → IsOfEntryBy table all.tables x → IsTrue (has_primary_lead x)
  entry_lead table meets x is =
      passes (λ x. has_primary_lead x) (final_elements (homed is.home is.entry) is.char) x (meets.entries reachable.Primaries is.home is.char is.entry is.reachable) is.member

  -- diacritics have no primary weight
  lead_of : (table : DataTable) (x : Element) → IsElementBy table all.tables x → x.primary ≢ 0 → IsTrue (has_primary_lead x)
  lead_of Root x is some = entry_lead Root met.root x is
  lead_of Jamo x is some = entry_lead Jamo met.jamo x is
  lead_of Tailoring x is some = entry_lead Tailoring met.tailoring x is
  lead_of Diacritics x is some = absurd (some (ap (λ (x : Element). x.primary) is.is))
  lead_of SpecialPrimaries x is some = absurd is.reachable
  lead_of Metadata x is some = absurd is.reachable
  lead_of tables.Reordering x is some = absurd is.reachable

  fits : (p : ℕ) → IsReachable all p → p < 2 ^ 32
  fits p l =
      subst (λ p. p < 2 ^ 32) l.is (below_four_bytes l.x.primary
      (first_of_three (nat_lt l.x.primary (2 ^ 32)) (nat_lt l.x.secondary (2 ^ 16)) (nat_lt l.x.lower (2 ^ 16))
      ((meets_in all met l.table).elements Width l.x l.reachable)))

  some_primary : (p : ℕ) (l : IsReachable all p) → l.x.primary ≢ 0
  some_primary p l = λ e. l.some (sym l.is ∙ e)

  stays_between : (p : ℕ) → IsReachable all p → IsTrue (not (is_middle (lead_byte p)) || is_middle (lead_byte (reorder all p)))
  stays_between p l =
      subst (λ p. IsTrue (primary_meets MiddleLead all p)) l.is
      (of_nonzero l.x.primary (primary_meets MiddleLead all l.x.primary) (some_primary p l) ((meets_in all met l.table).elements MiddleLead l.x l.reachable))

  lengths : (p : ℕ) → IsReachable all p → lead_byte p ≡ implicit_lead → IsTrue (has_low_bytes p)
  lengths p l =
      if_implicit (lead_byte p) (has_low_bytes p) (subst (λ p. IsTrue (primary_meets ImplicitLength all p)) l.is
      (of_nonzero l.x.primary (primary_meets ImplicitLength all l.x.primary) (some_primary p l) ((meets_in all met l.table).elements ImplicitLength l.x l.reachable)))

  apart : (p : ℕ) → IsReachable all p → lead_byte p ≢ implicit_lead → lead_byte (reorder all p) ≢ new_lead all implicit_lead
  apart p l =
      goes_apart (lead_byte p) implicit_lead (lead_byte (reorder all p)) (new_lead all implicit_lead)
      (and_parts (is_apart all implicit_lead p) (is_apart all all.special.numeric p) (subst (λ p. IsTrue (primary_meets SharedLead all p)) l.is
      (of_nonzero l.x.primary (primary_meets SharedLead all l.x.primary) (some_primary p l) ((meets_in all met l.table).elements SharedLead l.x l.reachable)))).0

  cases_of : (p : ℕ) → IsReachable all p → (0x03000000 ≤ p) ⊎ (p ≡ separator_primary)
  cases_of p l =
      subst (λ p. (0x03000000 ≤ p) ⊎ (p ≡ separator_primary)) l.is
      (lead_cases l.x (lead_of l.table l.x l.reachable (some_primary p l)) (some_primary p l))

module _ (all : CollatorTables) (met : ReachableMeets all) (given : AreTables all) (together : LeadMeets ImplicitLead all)
    (separator : LeadMeets Separator all) (high : LeadMeets HighLead all) where
  lead_some : (p : ℕ) → IsReachable all p → 1 ≤ lead_byte (reorder all p)
  lead_some p l =
      elim (cases_of all met p l) [
        | inr is ↦ separator_leads (reorder all p) (ap (reorder all) is ∙ separator)
        | inl above ↦ elim (cases_eq (lead_byte p) 0xFF) [
          | inl top ↦ omega (arith, high p (fits all met p l) top)
          | inr other ↦ middle_some (lead_byte (reorder all p))
              (implied (is_middle (lead_byte p)) (is_middle (lead_byte (reorder all p))) (stays_between all met p l)
              (middle_lead p above (fits all met p l) other))
        ]
      ]

  known : AreApart all (IsReachable all)
  known = record {
    together = together;
    fits = fits all met;
    leads = lead_some;
    lengths = lengths all met;
    apart = apart all met;
    lead_alone = λ p l. rest_stays all.reordering p;
  }

  collected : (ws : List ℕ) → Collected all Primaries ws → (p : ℕ) → IsReachable all p → lead_byte p ≢ implicit_lead → Contains ws p
  collected ws has p l other =
      collected_at all met Primaries ws has l.table l.x l.reachable (lead_explicit l.x (λ e. other (ap (λ p. lead_byte p) (sym l.is) ∙ e))) p
      (primary_kept l.x (some_primary all met p l) ∙ ap Some l.is)

  pub primaries_meet : (ws : List ℕ) → Collected all Primaries ws → IsPrefixFree (λ p. weight_bytes 4 (reorder all p)) (Contains ws)
      → Meets (conditions.Pair of_pair.Primaries) all
  primaries_meet ws has free first second x is_x y is_y some_x some_y differ begins =
      none_begins all (IsReachable all) known
      (λ v w reachable_v reachable_w other_v other_w. free v w (collected ws has v reachable_v other_v) (collected ws has w reachable_w other_w)) x.primary y.primary
      (record { table = first; x = x; reachable = is_x; is = refl; some = some_x }) (record { table = second; x = y; reachable = is_y; is = refl; some = some_y })
      differ begins

  pub compression_meets : (ws : List ℕ) → Collected all Primaries ws
      → ((v w : ℕ) → Contains ws v → Contains ws w → lead_byte (reorder all v) ≡ lead_byte (reorder all w)
      → is_compressible all.special (lead_byte v) ≡ is_compressible all.special (lead_byte w))
      → Meets (conditions.Pair of_pair.Compression) all
  compression_meets ws has alike first second x is_x y is_y some_x some_y same =
      compress_alike all (IsReachable all) known (is_compressible all.special)
      (λ v w reachable_v reachable_w other_v other_w. alike v w (collected ws has v reachable_v other_v) (collected ws has w reachable_w other_w)) x.primary y.primary
      (record { table = first; x = x; reachable = is_x; is = refl; some = some_x }) (record { table = second; x = y; reachable = is_y; is = refl; some = some_y })
      same
