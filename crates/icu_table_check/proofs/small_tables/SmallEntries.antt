-- The entries of the small tables, and what the conditions on entries ask of them.
use Rattle.std.proofs.Common.{◌≡◌, ◌<◌, ◌-◌, ◌==◌, ℕ, List, [], ◌∷◌, replicate, refl, sym, ap, subst, ◌∙◌, arith, inl, inr, IsTrue, slice_index}
use Rattle.std.proofs.lemmas.Bool.{cases_Bool, cond-true, cond-false}
use Rattle.std.proofs.lemmas.Bool.Decides.{nat_tests}
use Rattle.std.proofs.lemmas.List.{get_or-replicate}
use Rattle.std.specs.Char.{IsScalar}
use Rattle.std.specs.List.{Contains, list_all}
use Rattle.icu_table_entries.specs.declared.error.DataTable.{DataTable}
use Rattle.icu_table_entries.specs.declared.error.DataTable.TheVariants as tables
use Rattle.icu_table_entries.specs.declared.entry.EntryKind.TheVariants.{Implicit}
use Rattle.icu_table_entries.specs.Elements.{Element, of_secondary}
use Rattle.icu_table_entries.specs.Entries.{kind_of, self_contained, is_self_contained, simple_element}
use Rattle.icu_table_entries.specs.EntryConditions.{has_digit, has_known_byte}
use Rattle.icu_table_entries.specs.ElementConditions.{has_shape, ends_at_zero, has_secondary_lead, has_tertiary_lead, has_primary_lead}
use Rattle.icu_table_entries.specs.EncodedEntries.{implicit_entry}
use Rattle.icu_table_data.specs.declared.reachable_condition.ReachableCondition.{ReachableCondition}
use Rattle.icu_table_data.specs.declared.reachable_condition.ReachableCondition.TheVariants as of_entry
use Rattle.icu_table_data.specs.CodePointTables.{code_point_count}
use Rattle.icu_table_data.specs.Data.{Data, homed}
use Rattle.icu_table_data.specs.DataConditions.{is_inside, has_short_mappings, leads_on, has_known_members, fits_offset, avoids_diacritics}
use Rattle.icu_table_data.specs.Final.{final_elements}
use Rattle.icu_table_data.specs.Reachable.{reachable_from, reachable_contraction, reachable_digit}
use Rattle.icu_table_data.specs.ReachableConditions.{meets}
use Rattle.icu_table_provider.specs.well_formed.ReachableElements.{IsReachableBy, IsElementBy, IsOfEntryBy, IsOfReachableDiacritic}
use Rattle.icu_table_provider.specs.ReachableTables.{jamo_entry}
use Rattle.icu_table_provider.specs.Tables.{is_jamo}
use Rattle.icu_table_data.proofs.CharLemmas.{scalar_below}
use Rattle.icu_table_data.proofs.ImplicitLemmas.{implicit_passes}
use Rattle.icu_table_data.proofs.ListLemmas.{all_members, of_member, nothing_in}
use Rattle.icu_table_data.proofs.ViolationLemmas.{passes_meets}
use Rattle.icu_table_check.proofs.ComparedLevelLemmas.{implicit_elements, passes}
use Rattle.icu_table_check.specs.small_tables.SmallTables.{letter_a, letter_b, letter_a_grave, grave, entry_of_a, context_of_a, small_entry, tables_with}
use Rattle.icu_table_check.proofs.small_tables.SmallElements.{IsSmallElement, stated, implicit, stated_elements}

-- a root with these entries of characters
abbrev pub root_by : (ℕ → ℕ) → Data
root_by value = record { value = value; elements = []; entries = []; contexts = context_of_a ∷ [] }

-- the entries that a text may come to are these and the implicit one
pub stated_entries : List ℕ
stated_entries = entry_of_a ∷ letter_a ∷ letter_a_grave ∷ letter_b ∷ []

-- ---- what each condition asks of an entry

stated_meet : (condition : ReachableCondition) (value : ℕ → ℕ) (c : ℕ) → IsTrue (list_all (meets condition (root_by value) c) stated_entries)
unfolding stated_entries is_inside has_short_mappings leads_on has_digit has_known_byte has_known_members fits_offset final_elements self_contained is_self_contained kind_of has_shape ends_at_zero has_secondary_lead has_tertiary_lead has_primary_lead
stated_meet of_entry.Indices value c = refl
stated_meet of_entry.PrefixMappings value c = refl
stated_meet of_entry.Chains value c = refl
stated_meet of_entry.Digits value c = refl
stated_meet of_entry.Bytes value c = refl
stated_meet of_entry.Offsets value c = refl
stated_meet of_entry.Shapes value c = refl
stated_meet of_entry.Leads value c = refl
stated_meet of_entry.Primaries value c = refl

is_implicit : kind_of implicit_entry ≡ Implicit
unfolding kind_of
is_implicit = refl

implicit_meets : (condition : ReachableCondition) (home : Data) (c : ℕ) → IsTrue (meets condition home c implicit_entry)
implicit_meets condition home c = passes_meets home c implicit_entry (implicit_passes home c implicit_entry is_implicit) condition

mappings_avoid : (n : ℕ) (value : ℕ → ℕ) → IsTrue (list_all (avoids_diacritics n (root_by value)) stated_entries)
unfolding stated_entries avoids_diacritics kind_of
mappings_avoid n value = refl

implicit_avoids : (n : ℕ) (home : Data) → IsTrue (avoids_diacritics n home implicit_entry)
unfolding avoids_diacritics kind_of
implicit_avoids n home = refl

-- ---- which entries are reachable

-- the entry of a character is one of three
data IsEntry (e : ℕ) : Type 0 where
  contracts : e ≡ entry_of_a → IsEntry e
  alone : e ≡ letter_b → IsEntry e
  counted : e ≡ implicit_entry → IsEntry e

has_entry : (c : ℕ) → IsEntry (small_entry c)
has_entry c =
    elim (cases_Bool (c == 0x61)) [
      | inl a ↦ contracts (cond-true _ _ _ a)
      | inr other ↦ elim (cases_Bool (c == 0x62)) [
        | inl b ↦ alone (cond-false _ _ _ other ∙ cond-true _ _ _ b)
        | inr none ↦ counted (cond-false _ _ _ other ∙ cond-false _ _ _ none)
      ]
    ]

contracted : (value : ℕ → ℕ) → reachable_from (root_by value) entry_of_a ≡ entry_of_a ∷ letter_a ∷ letter_a_grave ∷ []
unfolding reachable_from reachable_contraction reachable_digit kind_of
contracted value = refl

letter_alone : (value : ℕ → ℕ) → reachable_from (root_by value) letter_b ≡ letter_b ∷ []
unfolding reachable_from reachable_contraction reachable_digit kind_of
letter_alone value = refl

implicit_alone : (home : Data) → reachable_from home implicit_entry ≡ implicit_entry ∷ []
unfolding reachable_from reachable_contraction reachable_digit kind_of
implicit_alone home = refl

jamo_implicit : (i : ℕ) → i < 256 → slice_index (replicate 256 implicit_entry) i ≡ implicit_entry
jamo_implicit i few = get_or-replicate 256 i implicit_entry 0 few

in_jamo : (c : ℕ) → IsTrue (is_jamo c) → c - 0x1100 < 256
in_jamo c is = grind (arith, nat_tests)

module _ (P : ℕ → ℕ → Type 0) (value : ℕ → ℕ) (says : (c : ℕ) → c < code_point_count → value c ≡ small_entry c)
    (each : (c e : ℕ) → Contains stated_entries e → P c e) (others : (c : ℕ) → P c implicit_entry) where
  reachable_entry : (c v e : ℕ) → IsEntry v → Contains (reachable_from (root_by value) v) e → P c e
  unfolding stated_entries
  reachable_entry c v e (contracts is) member =
      let here = subst (λ es. Contains es e) (ap (reachable_from (root_by value)) is ∙ contracted value) member in
      let all = all_members stated_entries in
      of_member (P c) (entry_of_a ∷ letter_a ∷ letter_a_grave ∷ []) e (each c _ all.0, (each c _ all.1.0, (each c _ all.1.1.0, tt))) here
  reachable_entry c v e (alone is) member =
      let here = subst (λ es. Contains es e) (ap (reachable_from (root_by value)) is ∙ letter_alone value) member in
      let all = all_members stated_entries in
      of_member (P c) (letter_b ∷ []) e (each c _ all.1.1.1.0, tt) here
  reachable_entry c v e (counted is) member =
      let here = subst (λ es. Contains es e) (ap (reachable_from (root_by value)) is ∙ implicit_alone (root_by value)) member in
      of_member (P c) (implicit_entry ∷ []) e (others c, tt) here

  reachable_in_root : (c e : ℕ) → IsScalar c → Contains (reachable_from (root_by value) (value c)) e → P c e
  reachable_in_root c e scalar member = reachable_entry c (value c) e (subst IsEntry (sym (says c (scalar_below c scalar))) (has_entry c)) member

  reachable_in_jamo : (c e : ℕ) → IsTrue (is_jamo c) → Contains (reachable_from (root_by value) (jamo_entry (tables_with (root_by value)) c)) e → P c e
  reachable_in_jamo c e jamo member = reachable_entry c _ e (counted (jamo_implicit (c - 0x1100) (in_jamo c jamo))) member

-- what holds of the root and those entries with each character holds of each reachable entry
pub by_entry : (P : Data → ℕ → ℕ → Type 0) (value : ℕ → ℕ) → ((c : ℕ) → c < code_point_count → value c ≡ small_entry c)
    → ((c e : ℕ) → Contains stated_entries e → P (root_by value) c e) → ((c : ℕ) → P (root_by value) c implicit_entry)
    → (table : DataTable) (home : Data) (c e : ℕ) → IsReachableBy table (tables_with (root_by value)) home c e → P home c e
by_entry P value says each others tables.Root home c e reachable =
    let member = subst (λ (d : Data). Contains (reachable_from d (d.value c)) e) reachable.0 reachable.2 in
    subst (λ d. P d c e) (sym reachable.0) (reachable_in_root (P (root_by value)) value says each others c e reachable.1 member)
by_entry P value says each others tables.Jamo home c e reachable =
    let member = subst (λ d. Contains (reachable_from d (jamo_entry (tables_with (root_by value)) c)) e) reachable.0 reachable.2 in
    subst (λ d. P d c e) (sym reachable.0) (reachable_in_jamo (P (root_by value)) value says each others c e reachable.1 member)
by_entry P value says each others tables.Tailoring home c e reachable = let clash = reachable.0 in cc
by_entry P value says each others tables.SpecialPrimaries home c e reachable = absurd reachable
by_entry P value says each others tables.Metadata home c e reachable = absurd reachable
by_entry P value says each others tables.Reordering home c e reachable = absurd reachable
by_entry P value says each others tables.Diacritics home c e reachable = absurd reachable

-- ---- their elements

gives_nothing : (home : Data) (c : ℕ) → final_elements (homed home entry_of_a) c ≡ []
unfolding final_elements self_contained kind_of
gives_nothing home c = refl

gives_a : (home : Data) (c : ℕ) → final_elements (homed home letter_a) c ≡ simple_element letter_a ∷ []
unfolding final_elements self_contained kind_of
gives_a home c = refl

gives_a_grave : (home : Data) (c : ℕ) → final_elements (homed home letter_a_grave) c ≡ simple_element letter_a_grave ∷ []
unfolding final_elements self_contained kind_of
gives_a_grave home c = refl

gives_b : (home : Data) (c : ℕ) → final_elements (homed home letter_b) c ≡ simple_element letter_b ∷ []
unfolding final_elements self_contained kind_of
gives_b home c = refl

Gives : Data → ℕ → ℕ → Type 0
Gives home c e = (x : Element) → Contains (final_elements (homed home e) c) x → IsSmallElement x

gives_one : (home : Data) (c e : ℕ) (y : Element) → IsSmallElement y → final_elements (homed home e) c ≡ y ∷ [] → Gives home c e
unfolding Gives
gives_one home c e y small is x member = of_member IsSmallElement (y ∷ []) x (small, tt) (subst (λ xs. Contains xs x) is member)

stated_give : (home : Data) (c e : ℕ) → Contains stated_entries e → Gives home c e
unfolding stated_entries Gives
stated_give home c e member =
    let all = all_members stated_elements in
    of_member (Gives home c) stated_entries e (
      (λ x there. absurd (nothing_in x (subst (λ xs. Contains xs x) (gives_nothing home c) there))),
      (
        gives_one home c letter_a _ (stated all.0) (gives_a home c),
        (
          gives_one home c letter_a_grave _ (stated all.1.1.0) (gives_a_grave home c),
          (
            gives_one home c letter_b _ (stated all.1.0) (gives_b home c),
            tt,
          ),
        ),
      ),
    ) member

implicit_gives : (home : Data) (c : ℕ) → Gives home c implicit_entry
implicit_gives home c = gives_one home c implicit_entry _ (implicit c refl) (implicit_elements home c implicit_entry is_implicit)

of_reachable_entry : (value : ℕ → ℕ) → ((c : ℕ) → c < code_point_count → value c ≡ small_entry c)
    → (table : DataTable) (x : Element) → IsOfEntryBy table (tables_with (root_by value)) x → IsSmallElement x
unfolding Gives
of_reachable_entry value says table x is =
    by_entry Gives value says (stated_give (root_by value)) (implicit_gives (root_by value)) table is.home is.char is.entry is.reachable x is.member

of_diacritic : (x : Element) → IsOfReachableDiacritic (grave ∷ []) x → IsSmallElement x
of_diacritic x is =
    let inside = is.inside in let first : is.place ≡ 0 = omega arith in
    subst IsSmallElement (sym (is.is ∙ ap (λ n. of_secondary (slice_index (grave ∷ []) n)) first)) (stated (all_members stated_elements).1.1.1.0)

-- all reachable elements are those of the small tables
pub reachable_element : (value : ℕ → ℕ) → ((c : ℕ) → c < code_point_count → value c ≡ small_entry c)
    → (table : DataTable) (x : Element) → IsElementBy table (tables_with (root_by value)) x → IsSmallElement x
reachable_element value says tables.Root x is = of_reachable_entry value says tables.Root x is
reachable_element value says tables.Jamo x is = of_reachable_entry value says tables.Jamo x is
reachable_element value says tables.Tailoring x is = of_reachable_entry value says tables.Tailoring x is
reachable_element value says tables.SpecialPrimaries x is = of_reachable_entry value says tables.SpecialPrimaries x is
reachable_element value says tables.Metadata x is = of_reachable_entry value says tables.Metadata x is
reachable_element value says tables.Reordering x is = of_reachable_entry value says tables.Reordering x is
reachable_element value says tables.Diacritics x is = of_diacritic x is

-- ---- each reachable entry

pub entry_is_well_formed : (value : ℕ → ℕ) → ((c : ℕ) → c < code_point_count → value c ≡ small_entry c)
    → (condition : ReachableCondition) (table : DataTable) (home : Data) (c e : ℕ) → IsReachableBy table (tables_with (root_by value)) home c e → IsTrue (meets condition home c e)
entry_is_well_formed value says condition =
    by_entry (λ home c e. IsTrue (meets condition home c e)) value says
    (λ c e member. passes (meets condition (root_by value) c) stated_entries e (stated_meet condition value c) member)
    (λ c. implicit_meets condition (root_by value) c)

pub mappings_are_plain : (n : ℕ) (value : ℕ → ℕ) → ((c : ℕ) → c < code_point_count → value c ≡ small_entry c)
    → (table : DataTable) (home : Data) (c e : ℕ) → IsReachableBy table (tables_with (root_by value)) home c e → IsTrue (avoids_diacritics n home e)
mappings_are_plain n value says =
    by_entry (λ home c e. IsTrue (avoids_diacritics n home e)) value says
    (λ c e member. passes (avoids_diacritics n (root_by value)) stated_entries e (mappings_avoid n value) member)
    (λ c. implicit_avoids n (root_by value))
