-- What an entry comes to with nothing before it and nothing after it.
use Rattle.std.proofs.Common.{◌≡◌, ℕ, ◌<◌, zero, suc, List, [], ◌∷◌, Option, Some, None, refl, sym, ap, ◌∙◌, subst, drop, length}
use Rattle.icu_table_entries.specs.declared.entry.EntryKind.{EntryKind}
use Rattle.icu_table_entries.specs.declared.entry.EntryKind.TheVariants.{Prefix, Contraction, Digit}
use Rattle.icu_table_entries.specs.Entries.{digit_value, kind_of}
use Rattle.icu_table_data.specs.Data.{Data, HomedEntry, Mapping, Context, homed, longest_mapping}
use Rattle.icu_table_provider.specs.Tables.{Tables, entry_of}
use Rattle.icu_element_matches.specs.Matches.{Match, after_prefix, with_marks, contracted, match_from, match_of}
use Rattle.icu_element_matches.specs.WellFormedEntries.{IsWellFormedFrom}
use Rattle.icu_element_matches.proofs.MatchLemmas.{well_formed_match}
use Rattle.icu_element_reading.specs.TextElements.{entry_alone}
use Rattle.icu_element_reading.proofs.ReadableLemmas.{match_decimal}

no_marks : (mappings : List Mapping) (entry : ℕ) (suffix passed text : List ℕ) → text ≡ [] → (with_marks mappings entry suffix passed text).entry ≡ entry
unfolding with_marks
no_marks mappings entry suffix passed [] is = refl
no_marks mappings entry suffix passed (x ∷ text) is = cc

nothing_left : (n : ℕ) → drop {A = ℕ} n [] ≡ []
nothing_left zero = refl
nothing_left (suc n) = refl

at_longest : (context : Context) (found : Option Mapping) → longest_mapping context.mappings [] ≡ found → (contracted context []).entry ≡ (elim found [ Some m ↦ m.entry | None ↦ context.default ])
unfolding contracted
at_longest context (Some m) is = rw (is, contracted) (no_marks context.mappings m.entry m.chars [] (drop (length m.chars) []) (nothing_left (length m.chars)))
at_longest context None is = rw (is, contracted) (no_marks context.mappings context.default [] [] [] refl)

-- a mapping of no characters
pub by_mapping : (context : Context) (m : Mapping) → longest_mapping context.mappings [] ≡ Some m → (contracted context []).entry ≡ m.entry
by_mapping context m is = at_longest context (Some m) is

-- the default
pub by_default : (context : Context) → longest_mapping context.mappings [] ≡ None → (contracted context []).entry ≡ context.default
by_default context is = at_longest context None is

-- a digit's digit is one
pub alone_decimal : (home : Data) (c e alone : ℕ) → IsWellFormedFrom home c e → alone ≡ (match_of (homed home e) [] []).entry → kind_of alone ≡ Digit → digit_value alone < 10
alone_decimal home c e alone well_formed is =
    subst (λ f. kind_of f ≡ Digit → digit_value f < 10) (sym is) (match_decimal home c (match_of (homed home e) [] []).entry (well_formed_match home c e [] [] well_formed))

-- ---- a digit's entry

at_prefix : (k : EntryKind) (x y : ℕ) → k ≡ Digit → (elim k as (λ _. ℕ) [ Prefix ↦ x | _ ↦ y ]) ≡ y
at_prefix Digit x y h = refl
at_prefix _ x y h = cc

at_contraction : (k : EntryKind) (x y : Match) → k ≡ Digit → (elim k as (λ _. Match) [ Contraction ↦ x | _ ↦ y ]) ≡ y
at_contraction Digit x y h = refl
at_contraction _ x y h = cc

-- it takes nothing
pub digit_match : (h : HomedEntry) (before text : List ℕ) → kind_of h.entry ≡ Digit → match_of h before text ≡ record { entry = h.entry; suffix = []; rest = text }
unfolding after_prefix match_from
digit_match h before text is =
    let same : after_prefix h before ≡ h.entry = at_prefix (kind_of h.entry) _ h.entry is in
    ap (λ e. match_from h.home e text) same ∙ at_contraction (kind_of h.entry) _ _ is

pub digit_alone : (tables : Tables) (c : ℕ) → kind_of (entry_of tables c).entry ≡ Digit → entry_alone tables c ≡ (entry_of tables c).entry
digit_alone tables c is = ap (λ (m : Match). m.entry) (digit_match (entry_of tables c) [] [] is)
