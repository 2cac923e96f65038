-- Entries that spell their element: they lead to no other, can be read, and fail what that element fails.
use Rattle.std.proofs.Common.{◌≡◌, ℕ, Bool, true, false, not, ◌&&◌, ◌∷◌, [], ◌/◌, ◌*◌, Option, Some, None, refl, ap, ◌∙◌}
use Rattle.std.specs.Prelude.{if◌then◌else◌}
use Rattle.icu_table_entries.specs.declared.entry.EntryKind.{EntryKind}
use Rattle.icu_table_entries.specs.declared.entry.EntryKind.TheVariants.{Simple, LongPrimary, LongSecondary}
use Rattle.icu_table_entries.specs.declared.element_conditions.ElementCondition.TheVariants as of_element
use Rattle.icu_table_entries.specs.Elements.{Element, of_primary}
use Rattle.icu_table_entries.specs.ElementConditions.{element_meets}
use Rattle.icu_table_entries.specs.Entries.{kind_of, is_self_contained, self_contained, long_primary_element}
use Rattle.icu_table_entries.specs.EntryConditions.{has_digit, has_known_byte}
use Rattle.icu_table_data.specs.declared.character_walk.Part.{Part}
use Rattle.icu_table_data.specs.declared.character_walk.Part.TheVariants.{Counted, Implicit}
use Rattle.icu_table_data.specs.declared.reachable_condition.ReachableCondition.TheVariants.{Shapes, Leads, Primaries}
use Rattle.icu_table_data.specs.Data.{Data, homed}
use Rattle.icu_table_data.specs.Final.{final_elements}
use Rattle.icu_table_data.specs.DataConditions.{is_inside, has_short_mappings, leads_on, has_known_members, fits_offset, is_readable}
use Rattle.icu_table_data.specs.ReachableConditions.{first_failing}
use Rattle.icu_table_data.specs.CollectedWeights.{is_stated}
use Rattle.icu_table_data.specs.inner.BlockWalks.{is_wanted, leads_to, leads_further}
use Rattle.icu_table_data.specs.inner.Visitors.{first_failing_element, given_elements, and_found, collected, collected_at}
use Rattle.icu_table_data.proofs.ReachLemmas.{leaf_leads}

-- what holds of such an entry
record IsSpelled (home : Data) (c e : ℕ) : Type 0 where
  leads : leads_further (kind_of e) ≡ false
  inside : is_inside home e ≡ true
  short : has_short_mappings home e ≡ true
  chains : leads_on home e ≡ true
  digit : has_digit e ≡ true
  byte : has_known_byte e ≡ true
  members : has_known_members home e ≡ true
  fits : fits_offset home c e ≡ true
  stated : is_stated home c e ≡ is_readable home c e
  gives : final_elements (homed home e) c ≡ self_contained e
  counted : is_wanted Counted e ≡ false
  implicit : is_wanted Implicit e ≡ false

spelled_by : (home : Data) (c e : ℕ) (k : EntryKind) → kind_of e ≡ k → (elim k as (λ _. Bool) [ Simple ↦ true | LongPrimary ↦ true | LongSecondary ↦ true | _ ↦ false ]) ≡ true → IsSpelled home c e
unfolding is_inside has_short_mappings leads_on has_digit has_known_byte has_known_members fits_offset is_stated final_elements is_wanted
spelled_by home c e Simple is h = record {
  leads = rw is refl;
  inside = rw (is, is_inside) refl;
  short = rw (is, has_short_mappings) refl;
  chains = rw (is, leads_on) refl;
  digit = rw (is, has_digit) refl;
  byte = rw (is, has_known_byte) refl;
  members = rw (is, has_known_members) refl;
  fits = rw (is, fits_offset) refl;
  stated = rw (is, is_stated) refl;
  gives = rw (is, final_elements) refl;
  counted = rw (is, is_wanted) refl;
  implicit = rw (is, is_wanted) refl;
}
spelled_by home c e LongPrimary is h = record {
  leads = rw is refl;
  inside = rw (is, is_inside) refl;
  short = rw (is, has_short_mappings) refl;
  chains = rw (is, leads_on) refl;
  digit = rw (is, has_digit) refl;
  byte = rw (is, has_known_byte) refl;
  members = rw (is, has_known_members) refl;
  fits = rw (is, fits_offset) refl;
  stated = rw (is, is_stated) refl;
  gives = rw (is, final_elements) refl;
  counted = rw (is, is_wanted) refl;
  implicit = rw (is, is_wanted) refl;
}
spelled_by home c e LongSecondary is h = record {
  leads = rw is refl;
  inside = rw (is, is_inside) refl;
  short = rw (is, has_short_mappings) refl;
  chains = rw (is, leads_on) refl;
  digit = rw (is, has_digit) refl;
  byte = rw (is, has_known_byte) refl;
  members = rw (is, has_known_members) refl;
  fits = rw (is, fits_offset) refl;
  stated = rw (is, is_stated) refl;
  gives = rw (is, final_elements) refl;
  counted = rw (is, is_wanted) refl;
  implicit = rw (is, is_wanted) refl;
}
spelled_by home c e _ is h = cc

module _ (home : Data) (c e : ℕ) (is : is_self_contained e ≡ true) where
  spelled : IsSpelled home c e
  unfolding is_self_contained
  spelled = spelled_by home c e (kind_of e) refl is

  pub spelled_leads : leads_further (kind_of e) ≡ false
  spelled_leads = spelled.leads

  pub spelled_clear : (part : Part) → leads_to part home e ≡ false
  spelled_clear Counted = leaf_leads Counted home e spelled.leads ∙ spelled.counted
  spelled_clear Implicit = leaf_leads Implicit home e spelled.leads ∙ spelled.implicit

  spelled_readable : is_readable home c e ≡ true
  unfolding is_readable
  spelled_readable = rw (spelled.inside, spelled.members, spelled.fits) refl

  module _ (x : Element) (gives : self_contained e ≡ x ∷ []) where
    one_member : (b : Bool) → (b && true) ≡ b
    one_member true = refl
    one_member false = refl

    -- what the search comes to, where the conditions before elements are met
    found : (a b d : Bool) → (if not (a && true) then Some Shapes else if not (b && true) then Some Leads else if not (d && true) then Some Primaries else None)
        ≡ (if not a then Some Shapes else if not b then Some Leads else if not d then Some Primaries else None)
    found a b d = rw (one_member a, one_member b, one_member d) refl

    -- it fails what its element fails
    pub spelled_failing : first_failing home c e ≡ first_failing_element x
    unfolding first_failing
    spelled_failing =
        rw (spelled.inside, spelled.short, spelled.chains, spelled.digit, spelled.byte, spelled.members, spelled.fits, spelled.gives, gives)
        (found (element_meets of_element.Shape x) (element_meets of_element.Leads x) (element_meets of_element.Primary x))

    -- of it what is collected of its element is
    pub spelled_collected : {W : Type 0} (weight : W → Element → Option ℕ) (s : W × (ℕ → Bool)) → collected_at weight s home c e ≡ collected weight s x
    unfolding given_elements
    spelled_collected weight s = rw (given_elements, spelled.stated ∙ spelled_readable, spelled.gives, gives) refl

-- of one that spells a primary weight alone nothing is, where no weight of its element is collected
pub passes_long_primary : {W : Type 0} (weight : W → Element → Option ℕ) (w : W) → ((p : ℕ) → weight w (of_primary p) ≡ None) → (ws : ℕ → Bool) (home : Data) (c e : ℕ) → kind_of e ≡ LongPrimary
    → collected_at weight (w, ws) home c e ≡ (w, ws)
unfolding is_self_contained self_contained
passes_long_primary weight w none ws home c e is =
    let spelled : is_self_contained e ≡ true = rw (is, is_self_contained) refl in
    let gives : self_contained e ≡ long_primary_element e ∷ [] = rw (is, self_contained) refl in
    spelled_collected home c e spelled (long_primary_element e) gives weight (w, ws) ∙ ap (λ found. (w, and_found ws found)) (none (e / 256 * 256))
