-- What an entry gives that doesn't go by its character is the same with each character, and with another entry that
-- refers to the same context.
use Rattle.std.proofs.Common.{◌≡◌, ℕ, Bool, true, false, not, ◌&&◌, List, [], ◌∷◌, Some, refl, sym, ap, ◌∙◌, if◌then◌else◌, inl, inr}
use Rattle.std.proofs.lemmas.Bool.{or_parts}
use Rattle.std.specs.Prelude.{find}
use Rattle.std.specs.List.{AllByRecursion, list_all, list_any}
use Rattle.icu_table_entries.specs.declared.entry.EntryKind.{EntryKind}
use Rattle.icu_table_entries.specs.declared.entry.EntryKind.TheVariants.{Expansion32, Expansion, Prefix, Contraction, Offset, Implicit}
use Rattle.icu_table_entries.specs.declared.element_conditions.ElementCondition.TheVariants as of_element
use Rattle.icu_table_entries.specs.ElementConditions.{element_meets}
use Rattle.icu_table_entries.specs.Elements.{Element}
use Rattle.icu_table_entries.specs.Entries.{kind_of, entry_index, self_contained}
use Rattle.icu_table_entries.specs.EntryConditions.{has_digit, has_known_byte}
use Rattle.icu_table_data.specs.declared.reachable_condition.ReachableCondition.{ReachableCondition}
use Rattle.icu_table_data.specs.declared.reachable_condition.ReachableCondition.TheVariants.{Indices, PrefixMappings, Chains, Digits, Bytes, Offsets, Shapes, Leads, Primaries}
use Rattle.icu_table_data.specs.Data.{Data, homed}
use Rattle.icu_table_data.specs.Final.{final_elements}
use Rattle.icu_table_data.specs.Reachable.{goes_by_character, names_context, SameContext, AreAlike}
use Rattle.icu_table_data.specs.DataConditions.{is_inside, has_short_mappings, leads_on, has_known_members, fits_offset, is_readable}
use Rattle.icu_table_data.specs.ReachableConditions.{meets, reachable_conditions, first_failing}
use Rattle.icu_table_data.specs.CollectedWeights.{is_stated}
use Rattle.icu_table_data.specs.inner.Visitors.{given_elements}

abbrev by_kind : EntryKind → Bool
by_kind k = elim k as (λ _. Bool) [ Offset ↦ true | Implicit ↦ true | _ ↦ false ]

alike_elements : {X : Type 0} (k : EntryKind) (a b o p i j z : X) → by_kind k ≡ false
    → (elim k as (λ _. X) [ Expansion32 ↦ a | Expansion ↦ b | Offset ↦ o | Implicit ↦ i | _ ↦ z ]) ≡ (elim k as (λ _. X) [ Expansion32 ↦ a | Expansion ↦ b | Offset ↦ p | Implicit ↦ j | _ ↦ z ])
alike_elements Offset a b o p i j z h = cc
alike_elements Implicit a b o p i j z h = cc
alike_elements _ a b o p i j z h = refl

alike_offset : {X : Type 0} (k : EntryKind) (o p z : X) → by_kind k ≡ false → (elim k as (λ _. X) [ Offset ↦ o | _ ↦ z ]) ≡ (elim k as (λ _. X) [ Offset ↦ p | _ ↦ z ])
alike_offset Offset o p z h = cc
alike_offset _ o p z h = refl

module _ (home : Data) (c d e : ℕ) (same : goes_by_character e ≡ false) where
  kind_same : by_kind (kind_of e) ≡ false
  unfolding goes_by_character
  kind_same = same

  pub elements_alike : final_elements (homed home e) c ≡ final_elements (homed home e) d
  unfolding final_elements
  elements_alike = alike_elements (kind_of e) _ _ _ _ _ _ _ kind_same

  pub offset_alike : fits_offset home c e ≡ fits_offset home d e
  unfolding fits_offset
  offset_alike = alike_offset (kind_of e) _ _ _ kind_same

  pub readable_alike : is_readable home c e ≡ is_readable home d e
  unfolding is_readable
  readable_alike = ap (λ b. is_inside home e && has_known_members home e && b) offset_alike

  pub given_alike : given_elements home c e ≡ given_elements home d e
  unfolding given_elements is_stated
  given_alike = rw (readable_alike, elements_alike) refl

  meets_alike : (condition : ReachableCondition) → meets condition home c e ≡ meets condition home d e
  meets_alike Indices = refl
  meets_alike PrefixMappings = refl
  meets_alike Chains = refl
  meets_alike Digits = refl
  meets_alike Bytes = refl
  meets_alike Offsets = offset_alike
  meets_alike Shapes = ap (list_all (element_meets of_element.Shape)) elements_alike
  meets_alike Leads = ap (list_all (element_meets of_element.Leads)) elements_alike
  meets_alike Primaries = ap (list_all (element_meets of_element.Primary)) elements_alike

  found_alike : (conditions : List ReachableCondition) → find (λ condition. not (meets condition home c e)) conditions ≡ find (λ condition. not (meets condition home d e)) conditions
  found_alike [] = refl
  found_alike (condition ∷ conditions) =
      ap (λ b. if not b then Some condition else find (λ condition. not (meets condition home c e)) conditions) (meets_alike condition)
      ∙ ap (λ o. if not (meets condition home d e) then Some condition else o) (found_alike conditions)

  pub failing_alike : first_failing home c e ≡ first_failing home d e
  unfolding first_failing
  failing_alike = found_alike reachable_conditions

-- ---- entries that refer to one context

inside_same : (k : EntryKind) (home : Data) (e f : ℕ) → names_context k ≡ true → kind_of e ≡ k → kind_of f ≡ k → entry_index e ≡ entry_index f → is_inside home e ≡ is_inside home f
unfolding is_inside
inside_same Prefix home e f h is_e is_f index = rw (is_e, is_f, index, is_inside) refl
inside_same Contraction home e f h is_e is_f index = rw (is_e, is_f, index, is_inside) refl
inside_same _ home e f h is_e is_f index = cc

short_same : (k : EntryKind) (home : Data) (e f : ℕ) → names_context k ≡ true → kind_of e ≡ k → kind_of f ≡ k → entry_index e ≡ entry_index f → has_short_mappings home e ≡ has_short_mappings home f
unfolding has_short_mappings
short_same Prefix home e f h is_e is_f index = rw (is_e, is_f, index, has_short_mappings) refl
short_same Contraction home e f h is_e is_f index = rw (is_e, is_f, has_short_mappings) refl
short_same _ home e f h is_e is_f index = cc

leads_same : (k : EntryKind) (home : Data) (e f : ℕ) → names_context k ≡ true → kind_of e ≡ k → kind_of f ≡ k → entry_index e ≡ entry_index f → leads_on home e ≡ leads_on home f
unfolding leads_on
leads_same Prefix home e f h is_e is_f index = rw (is_e, is_f, index, leads_on) refl
leads_same Contraction home e f h is_e is_f index = rw (is_e, is_f, index, leads_on) refl
leads_same _ home e f h is_e is_f index = cc

-- no such entry has a digit, members, a weight by offset data or elements
digit_met : (k : EntryKind) (e : ℕ) → names_context k ≡ true → kind_of e ≡ k → has_digit e ≡ true
unfolding has_digit
digit_met Prefix e h is = rw (is, has_digit) refl
digit_met Contraction e h is = rw (is, has_digit) refl
digit_met _ e h is = cc

byte_met : (k : EntryKind) (e : ℕ) → names_context k ≡ true → kind_of e ≡ k → has_known_byte e ≡ true
unfolding has_known_byte
byte_met Prefix e h is = rw (is, has_known_byte) refl
byte_met Contraction e h is = rw (is, has_known_byte) refl
byte_met _ e h is = cc

members_met : (k : EntryKind) (home : Data) (e : ℕ) → names_context k ≡ true → kind_of e ≡ k → has_known_members home e ≡ true
unfolding has_known_members
members_met Prefix home e h is = rw (is, has_known_members) refl
members_met Contraction home e h is = rw (is, has_known_members) refl
members_met _ home e h is = cc

offset_met : (k : EntryKind) (home : Data) (c e : ℕ) → names_context k ≡ true → kind_of e ≡ k → fits_offset home c e ≡ true
unfolding fits_offset
offset_met Prefix home c e h is = rw (is, fits_offset) refl
offset_met Contraction home c e h is = rw (is, fits_offset) refl
offset_met _ home c e h is = cc

none_itself : (k : EntryKind) (e : ℕ) → names_context k ≡ true → kind_of e ≡ k → self_contained e ≡ []
unfolding self_contained
none_itself Prefix e h is = rw (is, self_contained) refl
none_itself Contraction e h is = rw (is, self_contained) refl
none_itself _ e h is = cc

none_final : (k : EntryKind) (home : Data) (c e : ℕ) → names_context k ≡ true → kind_of e ≡ k → final_elements (homed home e) c ≡ []
unfolding final_elements
none_final Prefix home c e h is = rw (is, final_elements) (none_itself Prefix e h is)
none_final Contraction home c e h is = rw (is, final_elements) (none_itself Contraction e h is)
none_final _ home c e h is = cc

-- such an entry gives no elements
pub context_elements : (home : Data) (c e : ℕ) → names_context (kind_of e) ≡ true → final_elements (homed home e) c ≡ []
context_elements home c e h = none_final (kind_of e) home c e h refl

no_elements : (b : Bool) (xs : List Element) → xs ≡ [] → (if b then xs else []) ≡ []
no_elements true xs h = h
no_elements false xs h = refl

context_given : (home : Data) (c e : ℕ) → names_context (kind_of e) ≡ true → given_elements home c e ≡ []
unfolding given_elements
context_given home c e h = no_elements (is_stated home c e) (final_elements (homed home e) c) (context_elements home c e h)

module _ (home : Data) (c d e f : ℕ) (same : SameContext e f) where
  context_too : names_context (kind_of f) ≡ true
  context_too = ap names_context (sym same.kind) ∙ same.context

  meets_context : (condition : ReachableCondition) → meets condition home c e ≡ meets condition home d f
  meets_context Indices = inside_same (kind_of f) home e f context_too same.kind refl same.index
  meets_context PrefixMappings = short_same (kind_of f) home e f context_too same.kind refl same.index
  meets_context Chains = leads_same (kind_of f) home e f context_too same.kind refl same.index
  meets_context Digits = digit_met (kind_of e) e same.context refl ∙ sym (digit_met (kind_of f) f context_too refl)
  meets_context Bytes =
      rw (byte_met (kind_of e) e same.context refl, members_met (kind_of e) home e same.context refl, byte_met (kind_of f) f context_too refl, members_met (kind_of f) home f context_too refl) refl
  meets_context Offsets = offset_met (kind_of e) home c e same.context refl ∙ sym (offset_met (kind_of f) home d f context_too refl)
  meets_context Shapes = ap (list_all (element_meets of_element.Shape)) (context_elements home c e same.context ∙ sym (context_elements home d f context_too))
  meets_context Leads = ap (list_all (element_meets of_element.Leads)) (context_elements home c e same.context ∙ sym (context_elements home d f context_too))
  meets_context Primaries = ap (list_all (element_meets of_element.Primary)) (context_elements home c e same.context ∙ sym (context_elements home d f context_too))

  found_context : (conditions : List ReachableCondition) → find (λ condition. not (meets condition home c e)) conditions ≡ find (λ condition. not (meets condition home d f)) conditions
  found_context [] = refl
  found_context (condition ∷ conditions) =
      ap (λ b. if not b then Some condition else find (λ condition. not (meets condition home c e)) conditions) (meets_context condition)
      ∙ ap (λ o. if not (meets condition home d f) then Some condition else o) (found_context conditions)

  pub failing_context : first_failing home c e ≡ first_failing home d f
  unfolding first_failing
  failing_context = found_context reachable_conditions

  pub readable_context : is_readable home c e ≡ is_readable home d f
  unfolding is_readable
  readable_context =
      ap (λ b. b && has_known_members home e && fits_offset home c e) (inside_same (kind_of f) home e f context_too same.kind refl same.index)
      ∙ ap (λ b. is_inside home f && b && fits_offset home c e) (members_met (kind_of e) home e same.context refl ∙ sym (members_met (kind_of f) home f context_too refl))
      ∙ ap (λ b. is_inside home f && has_known_members home f && b) (offset_met (kind_of e) home c e same.context refl ∙ sym (offset_met (kind_of f) home d f context_too refl))

  pub elements_context : final_elements (homed home e) c ≡ final_elements (homed home f) d
  elements_context = context_elements home c e same.context ∙ sym (context_elements home d f context_too)

-- ---- entries that say the same

-- what is found by entries and characters is the same of entries that say the same
pub by_alike : {X : Type 0} (found : ℕ → ℕ → X) → ((c d e : ℕ) → goes_by_character e ≡ false → found c e ≡ found d e) → ((c d e f : ℕ) → SameContext e f → found c e ≡ found d f)
    → (c d e f : ℕ) → AreAlike e f → found c e ≡ found d f
by_alike found one other c d e f alike =
    elim alike.same [
      | inl same ↦ ap (found c) same ∙ one c d f alike.shared
      | inr context ↦ other c d e f context
    ]

pub says_alike : (home : Data) (c d e f : ℕ) → AreAlike e f → first_failing home c e ≡ first_failing home d f
says_alike home = by_alike (first_failing home) (failing_alike home) (failing_context home)

pub gives_alike : (home : Data) (c d e f : ℕ) → AreAlike e f → given_elements home c e ≡ given_elements home d f
gives_alike home =
    by_alike (given_elements home) (given_alike home)
    (λ c d e f same. context_given home c e same.context ∙ sym (context_given home d f (ap names_context (sym same.kind) ∙ same.context)))

-- ---- what is reachable

pub none_passes : {X : Type 0} (p : X → Bool) (xs : List X) → list_any p xs ≡ false → AllByRecursion (λ x. p x ≡ false) xs
none_passes p [] h = tt
none_passes p (x ∷ xs) h = let both = or_parts (p x) (list_any p xs) h in (both.0, none_passes p xs both.1)
