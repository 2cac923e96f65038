-- The entries of a root say the mappings that it has.
use Rattle.std.proofs.Common.{◌≡◌, ℕ, inl, inr, true, false, bytes_eq, List, [], ◌∷◌, ◌++◌, map, Some, None, refl, ap, ap₂, sym, ◌∙◌}
use Rattle.std.specs.List.{AllByRecursion}
use Rattle.std.proofs.lemmas.Bool.{cases_Bool}
use Rattle.icu_table_entries.specs.Elements.{Element}
use Rattle.icu_table_entries.specs.Entries.{kind_of}
use Rattle.icu_table_entries.specs.declared.entry.EntryKind.{EntryKind}
use Rattle.icu_table_entries.specs.declared.entry.EntryKind.TheVariants.{Contraction}
use Rattle.icu_table_data.specs.Data.{Data, Mapping, Context, homed, context_of, mapping_entry}
use Rattle.icu_rule_root.specs.RootEntries.{entry_elements, entry_mapping, suffix_mappings, prefixed_mappings}
use Rattle.icu_rule_meaning.specs.declared.symbolic.SymbolicElement.{SymbolicElement}
use Rattle.icu_rule_meaning.specs.SymbolicElements.{of_root}
use Rattle.icu_rule_meaning.specs.TailoredMappings.{SymbolicMapping, mapping_of_root, mapping_with}
use Rattle.icu_rule_laws.specs.mapped_texts.MappedTexts.{weighted, context_behind_prefix, entry_of_suffix, HaveSameElements}
use Rattle.icu_rule_laws.specs.mapped_texts.RootTexts.{GivesBack, GivesBackElements}
use Rattle.icu_rule_laws.proofs.mapped_texts.DistinctLemmas.{HasDistinctMappings}
use Rattle.icu_rule_laws.proofs.mapped_texts.MappedMatchLemmas.{longer_than_default}
use Rattle.icu_rule_laws.proofs.mapped_texts.LongestPrefixLemmas.{own_of, has_bare}

-- ---- the mappings of one prefix

-- the symbolic mappings of an entry behind a prefix
abbrev pub group_of : Data → ℕ → List ℕ → ℕ → List SymbolicMapping
group_of home c prefix e = map mapping_of_root (prefixed_mappings home c prefix e)

abbrev HasPrefix : List ℕ → SymbolicMapping → Type 0
HasPrefix prefix m = m.prefix ≡ prefix

suffixes_have_prefix : (home : Data) (c : ℕ) (prefix : List ℕ) (mappings : List Mapping)
    → AllByRecursion (HasPrefix prefix) (map mapping_of_root (suffix_mappings home c prefix mappings))
suffixes_have_prefix home c prefix [] = tt
suffixes_have_prefix home c prefix (m ∷ mappings) = (refl, suffixes_have_prefix home c prefix mappings)

pub group_has_prefix : (home : Data) (c : ℕ) (prefix : List ℕ) (e : ℕ)
    → AllByRecursion (HasPrefix prefix) (group_of home c prefix e)
unfolding prefixed_mappings
group_has_prefix home c prefix e = at (kind_of e)
  where
    context : Context
    context = context_of (homed home e)

    at : (k : EntryKind) → AllByRecursion (HasPrefix prefix) (map mapping_of_root (elim k [
      | Contraction ↦
          entry_mapping home c prefix [] (context_of (homed home e)).default
          ∷ suffix_mappings home c prefix (context_of (homed home e)).mappings
      | _ ↦ entry_mapping home c prefix [] e ∷ []
    ]))
    at Contraction = (refl, suffixes_have_prefix home c prefix (context_of (homed home e)).mappings)
    at _ = (refl, tt)

pub group_has_bare : (home : Data) (c : ℕ) (prefix : List ℕ) (e : ℕ) → has_bare (group_of home c prefix e) ≡ true
unfolding prefixed_mappings
group_has_bare home c prefix e = at (kind_of e)
  where
    at : (k : EntryKind) → has_bare (map mapping_of_root (elim k [
      | Contraction ↦
          entry_mapping home c prefix [] (context_of (homed home e)).default
          ∷ suffix_mappings home c prefix (context_of (homed home e)).mappings
      | _ ↦ entry_mapping home c prefix [] e ∷ []
    ])) ≡ true
    at Contraction = refl
    at _ = refl

pub own_all : (prefix other : List ℕ) (xs : List SymbolicMapping) → AllByRecursion (HasPrefix prefix) xs
    → bytes_eq prefix other ≡ true → own_of xs other ≡ xs
own_all prefix other [] all e = refl
own_all prefix other (x ∷ xs) (a, all) e =
    let h : bytes_eq x.prefix other ≡ true = ap (λ p. bytes_eq p other) a ∙ e in
    rw h (ap (λ ys. x ∷ ys) (own_all prefix other xs all e))

pub own_none : (prefix other : List ℕ) (xs : List SymbolicMapping) → AllByRecursion (HasPrefix prefix) xs
    → bytes_eq prefix other ≡ false → own_of xs other ≡ []
own_none prefix other [] all e = refl
own_none prefix other (x ∷ xs) (a, all) e =
    let h : bytes_eq x.prefix other ≡ false = ap (λ p. bytes_eq p other) a ∙ e in
    rw h (own_none prefix other xs all e)

-- ---- an entry and its group have the same elements before each suffix

given_back : (number : SymbolicElement → Element) (xs : List Element) → AllByRecursion (GivesBack number) xs
    → map number (map of_root xs) ≡ xs
given_back number [] all = refl
given_back number (x ∷ xs) (a, all) = ap₂ (λ (y : Element) (ys : List Element). y ∷ ys) a (given_back number xs all)

same_weighted : (number : SymbolicElement → Element) (home : Data) → GivesBackElements number home → (c e : ℕ)
    → weighted (entry_elements home c e) ≡ weighted (map number (map of_root (entry_elements home c e)))
same_weighted number home g c e = ap weighted (sym (given_back number (entry_elements home c e) (g.entries c e)))

suffixes_same : (number : SymbolicElement → Element) (home : Data) → GivesBackElements number home → (c : ℕ)
    (prefix : List ℕ) (mappings : List Mapping) (suffix : List ℕ)
    → HaveSameElements number home c (mapping_entry mappings suffix)
    (mapping_with (map mapping_of_root (suffix_mappings home c prefix mappings)) suffix)
unfolding mapping_entry
suffixes_same number home g c prefix [] suffix = tt
suffixes_same number home g c prefix (m ∷ mappings) suffix = elim (cases_Bool (bytes_eq m.chars suffix)) [
  | inl b ↦ rw b (same_weighted number home g c m.entry)
  | inr b ↦ rw b (suffixes_same number home g c prefix mappings suffix)
]

pub default_of_nothing : (mappings : List Mapping) (e : ℕ) → mapping_entry mappings [] ≡ None
    → mapping_entry (mappings ++ record { chars = []; entry = e } ∷ []) [] ≡ Some e
unfolding mapping_entry
default_of_nothing [] e n = refl
default_of_nothing (m ∷ mappings) e n = elim (cases_Bool (bytes_eq m.chars [])) [
  | inl b ↦ let n : Some m.entry ≡ None = rw b at n in cc
  | inr b ↦ rw b (default_of_nothing mappings e (rw b at n))
]

contraction_same : (number : SymbolicElement → Element) (home : Data) → GivesBackElements number home → (c : ℕ)
    (prefix : List ℕ) (context : Context) → mapping_entry context.mappings [] ≡ None → (suffix : List ℕ)
    → HaveSameElements number home c (entry_of_suffix context suffix)
    (mapping_with (map mapping_of_root (entry_mapping home c prefix [] context.default
    ∷ suffix_mappings home c prefix context.mappings)) suffix)
contraction_same number home g c prefix context n [] =
    rw (default_of_nothing context.mappings context.default n) (same_weighted number home g c context.default)
contraction_same number home g c prefix context n (s ∷ suffix) =
    rw (longer_than_default context.mappings context.default (s ∷ suffix) refl)
    (suffixes_same number home g c prefix context.mappings (s ∷ suffix))

alone_same : (number : SymbolicElement → Element) (home : Data) → GivesBackElements number home → (c : ℕ)
    (prefix : List ℕ) (e : ℕ) (suffix : List ℕ)
    → HaveSameElements number home c (entry_of_suffix (record { default = e; mappings = [] }) suffix)
    (mapping_with (map mapping_of_root (entry_mapping home c prefix [] e ∷ [])) suffix)
unfolding mapping_entry
alone_same number home g c prefix e [] = same_weighted number home g c e
alone_same number home g c prefix e (s ∷ suffix) = tt

pub group_same : (number : SymbolicElement → Element) (home : Data) → GivesBackElements number home
    → HasDistinctMappings home → (c : ℕ) (prefix : List ℕ) (e : ℕ) (suffix : List ℕ)
    → HaveSameElements number home c (entry_of_suffix (context_behind_prefix home e) suffix)
    (mapping_with (group_of home c prefix e) suffix)
unfolding prefixed_mappings context_behind_prefix
group_same number home g d c prefix e suffix = at (kind_of e)
  where
    at : (k : EntryKind) → HaveSameElements number home c
        (entry_of_suffix (elim k as (λ _. Context) [ Contraction ↦ context_of (homed home e) | _ ↦ record { default = e; mappings = [] } ]) suffix)
        (mapping_with (map mapping_of_root (elim k [
          | Contraction ↦
              entry_mapping home c prefix [] (context_of (homed home e)).default
              ∷ suffix_mappings home c prefix (context_of (homed home e)).mappings
          | _ ↦ entry_mapping home c prefix [] e ∷ []
        ])) suffix)
    at Contraction = contraction_same number home g c prefix (context_of (homed home e)) (d.some _) suffix
    at _ = alone_same number home g c prefix e suffix
