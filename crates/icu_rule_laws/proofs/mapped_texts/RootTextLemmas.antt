-- Texts are read by a root as by the mappings that it has.
use Rattle.std.proofs.Common.{◌≡◌, ℕ, zero, suc, ◌<◌, ◌≤◌, ◌⊎◌, inl, inr, true, false, bytes_eq, nat_eq, List, [], ◌∷◌, ◌++◌, length, map, take, Option, Some, None, if◌then◌else◌, refl, ap, ap₂, sym, subst, ◌∙◌, arith, append-nil}
use Rattle.std.specs.List.{starts_with}
use Rattle.std.specs.Option.{option_map}
use Rattle.std.proofs.lemmas.Bool.{cases_Bool}
use Rattle.std.proofs.lemmas.List.{map-append, length-take, length-take-le}
use Rattle.std.proofs.Math.Nat.{min-le_right}
use Rattle.std.proofs.lemmas.List.Elements.{filter-append}
use Rattle.icu_table_entries.specs.Elements.{Element, of_secondary}
use Rattle.icu_table_entries.specs.Entries.{kind_of}
use Rattle.icu_table_entries.specs.declared.entry.EntryKind.{EntryKind}
use Rattle.icu_table_entries.specs.declared.entry.EntryKind.TheVariants.{Prefix}
use Rattle.icu_table_data.specs.Data.{Data, Mapping, Context, HomedEntry, homed, context_of, mapping_entry, longest_mapping}
use Rattle.icu_table_provider.specs.Tables.{Tables, is_jamo, entry_of, diacritic_of}
use Rattle.icu_element_matches.specs.Matches.{after_prefix}
use Rattle.icu_element_matches.proofs.CharacterOrderLemmas.{same_lists}
use Rattle.icu_rule_root.specs.RootEntries.{prefixed_mappings, mappings_of_prefixes, entry_mappings, root_entry, diacritic_mapping, root_mappings_of}
use Rattle.icu_rule_meaning.specs.declared.symbolic.SymbolicElement.{SymbolicElement}
use Rattle.icu_rule_meaning.specs.SymbolicElements.{of_root}
use Rattle.icu_rule_meaning.specs.TailoredRoots.{RootMapping}
use Rattle.icu_rule_meaning.specs.TailoredMappings.{SymbolicMapping, mapping_of_root, stands_after_prefix, beginnings, mapping_with, mappings_behind}
use Rattle.icu_rule_laws.specs.mapped_texts.MappedTexts.{weighted, context_behind_prefix, entry_of_suffix, HaveSameElements, SaysMappings, SayAllMappings}
use Rattle.icu_rule_laws.specs.mapped_texts.RootTexts.{GivesBackElements, mappings_of_root, RootsAreReadByMappings}
use Rattle.icu_rule_laws.proofs.mapped_texts.LongestBeginningLemmas.{first_with, IsFound, IsChosen, chosen_is, same_itself}
use Rattle.icu_rule_laws.proofs.mapped_texts.MappedMatchLemmas.{chars_of, entry_first, longest_same, begins_is}
use Rattle.icu_rule_laws.proofs.mapped_texts.MappedTextLemmas.{read_by_mappings}
use Rattle.icu_rule_laws.proofs.mapped_texts.DistinctLemmas.{AreDistinct, HasDistinctMappings, ascending_are_distinct}
use Rattle.icu_rule_laws.proofs.mapped_texts.LongestPrefixLemmas.{own_of, has_bare, behind_longest}
use Rattle.icu_rule_laws.proofs.mapped_texts.RootMappingLemmas.{group_of, group_has_prefix, group_has_bare, own_all, own_none, group_same}

-- ---- an entry that is no prefix

take_nothing : (text : List ℕ) → take 0 text ≡ []
take_nothing text = refl

pub something_taken : (i : ℕ) (text : List ℕ) → 0 < i → i ≤ length text → bytes_eq [] (take i text) ≡ false
something_taken zero text h k = absurd (omega arith)
something_taken (suc i) [] h k = absurd (omega (arith, k))
something_taken (suc i) (c ∷ text) h k = refl

group_alone : (home : Data) (c e : ℕ) (before : List ℕ)
    → mappings_behind (group_of home c [] e) (beginnings before) ≡ group_of home c [] e
group_alone home c e before =
    let all = group_has_prefix home c [] e in
    let own : own_of (group_of home c [] e) [] ≡ group_of home c [] e = own_all [] [] (group_of home c [] e) all refl in
    behind_longest (group_of home c [] e) before 0 (omega arith)
    (λ i h k. own_none [] (take i before) (group_of home c [] e) all (something_taken i before h k))
    (ap has_bare own ∙ group_has_bare home c [] e)
    ∙ own

-- ---- an entry that names prefixes

-- the mappings behind prefixes, and the one that has these characters
abbrev groups_of : Data → ℕ → List Mapping → List SymbolicMapping
groups_of home c prefixes = map mapping_of_root (mappings_of_prefixes home c prefixes)

abbrev group_or_none : Data → ℕ → Option Mapping → List SymbolicMapping
group_or_none home c None = []
group_or_none home c (Some m) = group_of home c m.chars m.entry

none_mapped : (o : Option Mapping) → option_map (λ (m : Mapping). m.entry) o ≡ None → o ≡ None
none_mapped None e = refl
none_mapped (Some m) e = cc

pub none_first : (mappings : List Mapping) (chars : List ℕ) → mapping_entry mappings chars ≡ None
    → first_with chars_of mappings chars ≡ None
none_first mappings chars e = none_mapped (first_with chars_of mappings chars) (sym (entry_first mappings chars) ∙ e)

own_groups : (home : Data) (c : ℕ) (prefixes : List Mapping) → AreDistinct prefixes → (chars : List ℕ)
    → own_of (groups_of home c prefixes) chars ≡ group_or_none home c (first_with chars_of prefixes chars)
unfolding first_with
own_groups home c [] distinct chars = refl
own_groups home c (m ∷ prefixes) (none, distinct) chars =
    let group = group_of home c m.chars m.entry in
    let rest = groups_of home c prefixes in
    let parted : own_of (groups_of home c (m ∷ prefixes)) chars ≡ own_of group chars ++ own_of rest chars =
    ap (λ ms. own_of ms chars)
    (map-append mapping_of_root (prefixed_mappings home c m.chars m.entry) (mappings_of_prefixes home c prefixes))
    ∙ filter-append (stands_after_prefix chars) group rest in
    let all = group_has_prefix home c m.chars m.entry in
    elim (cases_Bool (bytes_eq m.chars chars)) [
      | inl b ↦
          let is : m.chars ≡ chars = same_lists m.chars chars b in
          let no_others : own_of rest chars ≡ [] =
          own_groups home c prefixes distinct chars
          ∙ ap (group_or_none home c) (ap (first_with chars_of prefixes) (sym is) ∙ none_first prefixes m.chars none) in
          parted ∙ ap₂ (λ (xs ys : List SymbolicMapping). xs ++ ys) (own_all m.chars chars group all b) no_others
          ∙ append-nil group
          ∙ sym (ap (group_or_none home c) (if_true b))
      | inr b ↦
          parted ∙ ap (λ xs. xs ++ own_of rest chars) (own_none m.chars chars group all b)
          ∙ own_groups home c prefixes distinct chars
          ∙ sym (ap (group_or_none home c) (if_false b))
    ]
  where
    if_true : bytes_eq m.chars chars ≡ true
        → (if bytes_eq m.chars chars then Some m else first_with chars_of prefixes chars) ≡ Some m
    if_true b = rw b refl

    if_false : bytes_eq m.chars chars ≡ false
        → (if bytes_eq m.chars chars then Some m else first_with chars_of prefixes chars) ≡ first_with chars_of prefixes chars
    if_false b = rw b refl

pub begins_taken : (i : ℕ) (text : List ℕ) → i ≤ length text → starts_with nat_eq text (take i text) ≡ true
begins_taken i text h =
    ap (λ n. bytes_eq (take i text) (take n text)) (length-take-le i text h) ∙ same_itself (take i text)

-- all mappings of an entry that names prefixes: those behind none, and those behind prefixes
abbrev prefix_groups : Data → ℕ → Context → List SymbolicMapping
prefix_groups home c context = group_of home c [] context.default ++ groups_of home c context.mappings

own_prefix_groups : (home : Data) (c : ℕ) (context : Context) → AreDistinct context.mappings → (chars : List ℕ)
    → own_of (prefix_groups home c context) chars
    ≡ own_of (group_of home c [] context.default) chars ++ group_or_none home c (first_with chars_of context.mappings chars)
own_prefix_groups home c context distinct chars =
    filter-append (stands_after_prefix chars) (group_of home c [] context.default) (groups_of home c context.mappings)
    ∙ ap (λ xs. own_of (group_of home c [] context.default) chars ++ xs) (own_groups home c context.mappings distinct chars)

-- the entry of the longest prefix, or the default
abbrev pub chosen_entry : Context → Option Mapping → ℕ
chosen_entry context None = context.default
chosen_entry context (Some m) = m.entry

-- behind a context stand the mappings of the entry that the context comes to, behind some prefix
record AreOfEntry (home : Data) (c e : ℕ) (mappings : List SymbolicMapping) : Type 0 where
  prefix : List ℕ
  are : mappings ≡ group_of home c prefix e

behind_prefixes : (home : Data) (c : ℕ) (context : Context) → AreDistinct context.mappings
    → mapping_entry context.mappings [] ≡ None → (before : List ℕ) (o : Option Mapping)
    → IsChosen chars_of context.mappings before None o
    → AreOfEntry home c (chosen_entry context o) (mappings_behind (prefix_groups home c context) (beginnings before))
behind_prefixes home c context distinct some before None h =
    let own = group_of home c [] context.default in
    let all = group_has_prefix home c [] context.default in
    let at : (i : ℕ) → i ≤ length before → own_of (prefix_groups home c context) (take i before) ≡ own_of own (take i before) =
    λ i k. own_prefix_groups home c context distinct (take i before)
    ∙ ap (λ o. own_of own (take i before) ++ group_or_none home c o)
    (h.over (take i before) (begins_taken i before k) (omega arith))
    ∙ append-nil (own_of own (take i before)) in
    let first : own_of (prefix_groups home c context) [] ≡ own = at 0 (omega arith) ∙ own_all [] [] own all refl in
    record {
      prefix = [];
      are = behind_longest (prefix_groups home c context) before 0 (omega arith)
          (λ i j k. at i k ∙ own_none [] (take i before) own all (something_taken i before j k))
          (ap has_bare first ∙ group_has_bare home c [] context.default)
          ∙ first;
    }
behind_prefixes home c context distinct some before (Some m) h =
    let own = group_of home c [] context.default in
    let all = group_has_prefix home c [] context.default in
    let f = found_of m h.found in
    let (first, begins) = f in
    let is : m.chars ≡ take (length m.chars) before = begins_is before m.chars begins in
    let fits : length m.chars ≤ length before = begins_fits before m.chars is in
    let there : 0 < length m.chars = not_empty m.chars (λ e.
    absurd_some m (sym first ∙ ap (first_with chars_of context.mappings) e ∙ none_first context.mappings [] some)) in
    let at : (i : ℕ) → 0 < i → i ≤ length before → (o : Option Mapping) → first_with chars_of context.mappings (take i before) ≡ o
    → own_of (prefix_groups home c context) (take i before) ≡ group_or_none home c o =
    λ i j k o e. own_prefix_groups home c context distinct (take i before)
    ∙ ap₂ (λ (xs ys : List SymbolicMapping). xs ++ ys)
    (own_none [] (take i before) own all (something_taken i before j k)) (ap (group_or_none home c) e) in
    let own_is : own_of (prefix_groups home c context) (take (length m.chars) before) ≡ group_of home c m.chars m.entry =
    at (length m.chars) there fits (Some m) (ap (first_with chars_of context.mappings) (sym is) ∙ first) in
    record {
      prefix = m.chars;
      are = behind_longest (prefix_groups home c context) before (length m.chars) fits
          (λ i j k. at i (omega (arith, j)) k None
          (h.over (take i before) (begins_taken i before k) (longer_taken i j k)))
          (ap has_bare own_is ∙ group_has_bare home c m.chars m.entry)
          ∙ own_is;
    }
  where
    value_or : Mapping → Option Mapping → Mapping
    value_or d None = d
    value_or d (Some x) = x

    found_of : (m : Mapping) → (Some m ≡ None) ⊎ IsFound chars_of context.mappings before 0 (Some m)
        → (first_with chars_of context.mappings m.chars ≡ Some m) × (starts_with nat_eq before m.chars ≡ true)
    found_of m (inl e) = cc
    found_of m (inr f) =
        let is : f.item ≡ m = sym (ap (value_or m) f.is) in (
          subst (λ (x : Mapping). first_with chars_of context.mappings x.chars ≡ Some x) is f.first,
          subst (λ (x : Mapping). starts_with nat_eq before x.chars ≡ true) is f.begins,
        )

    begins_fits : (text chars : List ℕ) → chars ≡ take (length chars) text → length chars ≤ length text
    begins_fits text chars e = omega (arith, ap length e, length-take (length chars) text, min-le_right (length chars) (length text))

    not_empty : (chars : List ℕ) → (chars ≡ [] → ⊥) → 0 < length chars
    not_empty [] n = absurd (n refl)
    not_empty (x ∷ xs) n = omega arith

    absurd_some : (m : Mapping) → Some m ≡ None → ⊥
    absurd_some m e = cc

    longer_taken : (i : ℕ) → length m.chars < i → i ≤ length before → suc (length m.chars) ≤ length (take i before)
    longer_taken i j k = omega (arith, j, length-take-le i before k)

-- ---- each entry

at_prefix : (home : Data) (c e : ℕ) (before : List ℕ) → HasDistinctMappings home → (k : EntryKind)
    → AreOfEntry home c
    (elim k as (λ _. ℕ) [ Prefix ↦ chosen_entry (context_of (homed home e)) (longest_mapping (context_of (homed home e)).mappings before) | _ ↦ e ])
    (mappings_behind (map mapping_of_root (elim k as (λ _. List RootMapping) [
      | Prefix ↦
          prefixed_mappings home c [] (context_of (homed home e)).default
          ++ mappings_of_prefixes home c (context_of (homed home e)).mappings
      | _ ↦ prefixed_mappings home c [] e
    ])) (beginnings before))
at_prefix home c e before d Prefix =
    let context = context_of (homed home e) in
    let o = longest_mapping context.mappings before in
    let chosen : IsChosen chars_of context.mappings before None o =
    subst (IsChosen chars_of context.mappings before None) (sym (longest_same None context.mappings before))
    (chosen_is chars_of None context.mappings before) in
    subst (λ ms. AreOfEntry home c (chosen_entry context o) (mappings_behind ms (beginnings before)))
    (sym (map-append mapping_of_root (prefixed_mappings home c [] context.default) (mappings_of_prefixes home c context.mappings)))
    (behind_prefixes home c context (d.distinct _) (d.some _) before o chosen)
at_prefix home c e before d _ = record { prefix = []; are = group_alone home c e before }

pub chosen_after : (h : HomedEntry) (before : List ℕ) → after_prefix h before
    ≡ (elim (kind_of h.entry) as (λ _. ℕ) [ Prefix ↦ chosen_entry (context_of h) (longest_mapping (context_of h).mappings before) | _ ↦ h.entry ])
unfolding after_prefix
chosen_after h before =
    ap (λ (x : ℕ). elim (kind_of h.entry) as (λ _. ℕ) [ Prefix ↦ x | _ ↦ h.entry ])
    (at (longest_mapping (context_of h).mappings before))
  where
    at : (o : Option Mapping) → (elim o as (λ _. ℕ) [ Some m ↦ m.entry | None ↦ (context_of h).default ])
        ≡ chosen_entry (context_of h) o
    at None = refl
    at (Some m) = refl

pub says_own_mappings : (number : SymbolicElement → Element) (home : Data) → HasDistinctMappings home
    → GivesBackElements number home → (c e : ℕ)
    → SaysMappings number home c e (map mapping_of_root (entry_mappings home c e))
unfolding entry_mappings
says_own_mappings number home d g c e before suffix =
    let behind = mappings_behind (map mapping_of_root (entry_mappings home c e)) (beginnings before) in
    let a = at_prefix home c e before d (kind_of e) in
    let own : AreOfEntry home c (after_prefix (homed home e) before) behind =
    subst (λ f. AreOfEntry home c f behind) (sym (chosen_after (homed home e) before)) a in
    subst (λ ms. HaveSameElements number home c (entry_of_suffix (context_behind_prefix home (after_prefix (homed home e) before)) suffix) (mapping_with ms suffix))
    (sym own.are) (group_same number home g d c own.prefix (after_prefix (homed home e) before) suffix)

-- ---- the tables of a root

own_entry : (tables : Tables) (c : ℕ) → tables.tailoring ≡ None → entry_of tables c ≡ homed tables.root (root_entry tables c)
unfolding entry_of root_entry
own_entry tables c none = elim (cases_Bool (is_jamo c)) [
  | inl j ↦ rw j refl
  | inr j ↦ rw (j, none) refl
]

pub no_diacritic_mappings : (tables : Tables) (c : ℕ) → diacritic_of tables c ≡ None
    → root_mappings_of tables c ≡ entry_mappings tables.root c (root_entry tables c)
unfolding root_mappings_of
no_diacritic_mappings tables c e = rw (e, root_mappings_of) refl

pub diacritic_mappings : (tables : Tables) (c secondary : ℕ) → diacritic_of tables c ≡ Some secondary
    → root_mappings_of tables c ≡ diacritic_mapping secondary ∷ []
unfolding root_mappings_of
diacritic_mappings tables c secondary e = rw (e, root_mappings_of) refl

-- the mapping of a character alone that gives these elements
abbrev pub plain_mapping : List SymbolicElement → SymbolicMapping
plain_mapping elements = record { prefix = []; suffix = []; elements = elements }

-- a character that has no other is mapped so whatever stands before it
pub plain_behind : (elements : List SymbolicElement) (before : List ℕ)
    → mappings_behind (plain_mapping elements ∷ []) (beginnings before) ≡ plain_mapping elements ∷ []
plain_behind elements before =
    behind_longest (plain_mapping elements ∷ []) before 0 (omega arith)
    (λ i h k. own_none [] (take i before) (plain_mapping elements ∷ []) (refl, tt) (something_taken i before h k)) refl

roots_say : (number : SymbolicElement → Element) (tables : Tables) → tables.tailoring ≡ None
    → HasDistinctMappings tables.root → GivesBackElements number tables.root
    → SayAllMappings number tables (mappings_of_root tables)
roots_say number tables none d g = record {
  entries = λ c e.
      subst (λ (h : HomedEntry). SaysMappings number h.home c h.entry (mappings_of_root tables c)) (sym (own_entry tables c none))
      (subst (λ ms. SaysMappings number tables.root c (root_entry tables c) (map mapping_of_root ms))
      (sym (no_diacritic_mappings tables c e)) (says_own_mappings number tables.root d g c (root_entry tables c)));
  diacritics = λ c secondary e. record {
    prefix = [];
    elements = of_root (of_secondary secondary) ∷ [];
    alone = λ before.
        ap (λ ms. mappings_behind (map mapping_of_root ms) (beginnings before)) (diacritic_mappings tables c secondary e)
        ∙ plain_behind (of_root (of_secondary secondary) ∷ []) before;
    weights = ap (λ x. weighted (x ∷ [])) (g.diacritics secondary);
  };
}

pub roots_read_by_mappings : RootsAreReadByMappings
roots_read_by_mappings number tables none d g text =
    read_by_mappings number tables (mappings_of_root tables)
    (roots_say number tables none (ascending_are_distinct tables.root d) g) text
