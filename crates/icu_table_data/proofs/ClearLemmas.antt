-- Entries that lead to none of a part: by all that they lead to, and of a prefix by its default and its mappings.
use Rattle.std.proofs.Common.{◌≡◌, ℕ, ◌+◌, ◌<◌, false, List, [], ◌∷◌, ◌++◌, ◌⊎◌, inl, inr, refl, sym, ap, ◌∙◌, subst, length, take, get_or}
use Rattle.std.specs.List.{Contains, list_any}
use Rattle.std.proofs.lemmas.List.{take_more}
use Rattle.std.proofs.lemmas.List.Elements.{Contains-append_cases}
use Rattle.std.proofs.lemmas.Bool.{or_from}
use Rattle.icu_table_entries.specs.declared.entry.EntryKind.TheVariants.{Prefix}
use Rattle.icu_table_entries.specs.Entries.{kind_of}
use Rattle.icu_table_data.specs.declared.character_walk.Part.{Part}
use Rattle.icu_table_data.specs.declared.context.ContextMapping.{ContextMapping}
use Rattle.icu_table_data.specs.Contexts.{mappings_of}
use Rattle.icu_table_data.specs.Data.{Data, homed, context_of}
use Rattle.icu_table_data.specs.Reachable.{reachable_contraction, reachable_from, names_context}
use Rattle.icu_table_data.specs.inner.BlockWalks.{is_wanted, leads_to, contraction_entries, AreUnwanted}
use Rattle.icu_table_data.proofs.ListLemmas.{of_member, nothing_in, in_first, at_first, at_rest}
use Rattle.icu_table_data.proofs.SameEntryLemmas.{none_passes}
use Rattle.icu_table_data.proofs.ReachLemmas.{context_unwanted, prefix_alone, prefix_all, contraction_within, in_pushed}

none_any : (part : Part) (es : List ℕ) → AreUnwanted part es → list_any (is_wanted part) es ≡ false
none_any part [] none = refl
none_any part (e ∷ es) none =
    or_from (is_wanted part e) (list_any (is_wanted part) es) (none e (at_first e es)) (none_any part es (λ f has. none f (at_rest e f es has)))

-- what an entry leads to that leads to none of the part
pub none_unwanted : (part : Part) (home : Data) (e : ℕ) → leads_to part home e ≡ false → AreUnwanted part (reachable_from home e)
unfolding leads_to
none_unwanted part home e none f has =
    of_member (λ f. is_wanted part f ≡ false) (reachable_from home e) f (none_passes (is_wanted part) (reachable_from home e) none) has

pub contraction_clear : (part : Part) (home : Data) (e : ℕ) → leads_to part home e ≡ false → AreUnwanted part (reachable_contraction home e)
contraction_clear part home e none f has = none_unwanted part home e none f (contraction_within home e f has)

-- a prefix that another one leads to
pub unopened_clear : (part : Part) (home : Data) (e : ℕ) → kind_of e ≡ Prefix → AreUnwanted part (reachable_contraction home e)
unopened_clear part home e is f has = by_cases (in_first e f [] (subst (λ es. Contains es f) (prefix_alone home e is) has))
  where
    by_cases : (e ≡ f) ⊎ Contains [] f → is_wanted part f ≡ false
    by_cases (inl same) = subst (λ f. is_wanted part f ≡ false) same (context_unwanted part e (ap names_context is))
    by_cases (inr none) = absurd (nothing_in f none)

-- none of the mappings, and one more
pub no_mappings_clear : (part : Part) (home : Data) → AreUnwanted part (contraction_entries home [])
no_mappings_clear part home f has = absurd (nothing_in f has)

pub mapping_clear : (part : Part) (home : Data) (mappings : List ContextMapping) (i : ℕ) (mapping d : ContextMapping) → i < length mappings → mapping ≡ get_or mappings i d
    → AreUnwanted part (contraction_entries home (take i mappings)) → AreUnwanted part (reachable_contraction home mapping.entry) → AreUnwanted part (contraction_entries home (take (i + 1) mappings))
mapping_clear part home mappings i mapping d inside is before here f has =
    let more_is : take (i + 1) mappings ≡ take i mappings ++ mapping ∷ [] = take_more mappings i d inside ∙ ap (λ m. take i mappings ++ m ∷ []) (sym is) in
    elim (in_pushed home (take i mappings) mapping f (subst (λ ms. Contains (contraction_entries home ms) f) more_is has)) [
      | inl first ↦ before f first
      | inr last ↦ here f last
    ]

-- a prefix, by its default and its mappings
pub prefix_clear : (part : Part) (home : Data) (e default : ℕ) (chars : List ℕ) (mappings : List ContextMapping) → kind_of e ≡ Prefix
    → record { default = default; mappings = mappings_of chars mappings } ≡ context_of (homed home e)
    → AreUnwanted part (reachable_contraction home default) → AreUnwanted part (contraction_entries home mappings) → leads_to part home e ≡ false
unfolding leads_to
prefix_clear part home e default chars mappings is found of_default of_mappings =
    ap (list_any (is_wanted part)) (prefix_all home e default chars mappings is found) ∙ none_any part (e ∷ rest) each
  where
    rest : List ℕ
    rest = reachable_contraction home default ++ contraction_entries home mappings

    later : (f : ℕ) → Contains (reachable_contraction home default) f ⊎ Contains (contraction_entries home mappings) f → is_wanted part f ≡ false
    later f (inl has) = of_default f has
    later f (inr has) = of_mappings f has

    by_cases : (f : ℕ) → (e ≡ f) ⊎ Contains rest f → is_wanted part f ≡ false
    by_cases f (inl same) = subst (λ f. is_wanted part f ≡ false) same (context_unwanted part e (ap names_context is))
    by_cases f (inr has) = later f (Contains-append_cases (reachable_contraction home default) (contraction_entries home mappings) f has)

    each : AreUnwanted part (e ∷ rest)
    each f has = by_cases f (in_first e f rest has)
