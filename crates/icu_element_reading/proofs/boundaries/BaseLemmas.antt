-- A base of contractions before a starter that none of its mappings names.
use Rattle.std.proofs.Common.{length, ◌≤◌, arith, ◌≡◌, ℕ, true, false, ◌&&◌, List, [], ◌∷◌, ◌++◌, is_some, refl, sym, ap, ◌∙◌}
use Rattle.unicode_normalization.specs.Order.{is_starter}
use Rattle.icu_table_entries.specs.declared.entry.EntryKind.{EntryKind}
use Rattle.icu_table_entries.specs.declared.entry.EntryKind.TheVariants.{Prefix}
use Rattle.icu_table_entries.specs.Entries.{kind_of}
use Rattle.icu_table_data.specs.Data.{HomedEntry, context_of}
use Rattle.icu_table_provider.specs.Tables.{entry_of}
use Rattle.icu_element_matches.specs.Matches.{after_prefix, match_from, match_of}
use Rattle.icu_element_reading.specs.TextElements.{Reading, Step, continues_number, step, consumed, last_two, elements_after}
use Rattle.icu_table_provider.specs.well_formed.MappingCharacters.{is_named_in}
use Rattle.icu_element_reading.specs.boundaries.Cuts.{is_prefix_kind, has_prefix}
use Rattle.icu_element_matches.specs.MatchesAhead.{and_then}
use Rattle.icu_element_matches.proofs.ChoiceLemmas.{contraction_by}
use Rattle.icu_element_reading.specs.ReadAhead.{and_more}
use Rattle.icu_element_reading.proofs.StepLemmas.{Rests-step, elements_after_cons}
use Rattle.icu_element_reading.proofs.boundaries.MatchCuts.{contracted-append}
use Rattle.icu_element_reading.proofs.boundaries.StepCuts.{step-by_match}

not_prefix : (k : EntryKind) (a b : ℕ) → is_prefix_kind k ≡ false → (elim k as (λ _. ℕ) [ Prefix ↦ a | _ ↦ b ]) ≡ b
not_prefix Prefix a b h = cc
not_prefix _ a b h = refl

after_prefix-none : (h : HomedEntry) (before : List ℕ) → is_prefix_kind (kind_of h.entry) ≡ false → after_prefix h before ≡ h.entry
unfolding after_prefix
after_prefix-none h before p = not_prefix (kind_of h.entry) _ _ p

match_from-unnamed : (h : HomedEntry) (text : List ℕ) (x : ℕ) (more : List ℕ) → is_starter x ≡ true → is_named_in x (context_of h) ≡ false
    → match_from h.home h.entry (text ++ x ∷ more) ≡ and_then (match_from h.home h.entry text) (x ∷ more)
unfolding match_from
match_from-unnamed h text x more starter unnamed =
    contraction_by (λ n. and_then n (x ∷ more)) (kind_of h.entry) _ _ _ _ (λ is. contracted-append x (context_of h) text more starter unnamed) refl

match_of-unnamed : (h : HomedEntry) (before text : List ℕ) (x : ℕ) (more : List ℕ) → is_prefix_kind (kind_of h.entry) ≡ false → is_starter x ≡ true → is_named_in x (context_of h) ≡ false
    → match_of h before (text ++ x ∷ more) ≡ and_then (match_of h before text) (x ∷ more)
match_of-unnamed h before text x more p starter unnamed =
    let same = after_prefix-none h before p in
    ap (λ e. match_from h.home e (text ++ x ∷ more)) same
    ∙ match_from-unnamed h text x more starter unnamed
    ∙ ap (λ e. and_then (match_from h.home e text) (x ∷ more)) (sym same)

-- only the base's own mappings matter
pub base_step : (reading : Reading) (before : List ℕ) (c : ℕ) (text : List ℕ) (x : ℕ) (more : List ℕ) → has_prefix reading.tables c ≡ false → is_starter x ≡ true
    → is_named_in x (context_of (entry_of reading.tables c)) ≡ false → (is_some reading.numeric && continues_number reading.tables x) ≡ false
    → step reading before c (text ++ x ∷ more) ≡ and_more (step reading before c text) (x ∷ more)
base_step reading before c text x more no_prefix starter unnamed no_number =
    step-by_match reading before c text x more starter no_number
    (match_of-unnamed (entry_of reading.tables c) before text x more no_prefix starter unnamed)

-- nothing is left of nothing
step-nothing : (reading : Reading) (before : List ℕ) (c : ℕ) → (step reading before c []).rest ≡ []
step-nothing reading before c = nil_by_length (step reading before c []).rest (Rests-step reading before c []).fits
  where
    nil_by_length : (l : List ℕ) → length l ≤ 0 → l ≡ []
    nil_by_length [] h = refl
    nil_by_length (x ∷ xs) h = absurd (omega (arith, h))

-- what it gives at the end of a text it gives before such a starter
pub base_alone : (reading : Reading) (before : List ℕ) (c x : ℕ) (more : List ℕ) → has_prefix reading.tables c ≡ false → is_starter x ≡ true
    → is_named_in x (context_of (entry_of reading.tables c)) ≡ false → (is_some reading.numeric && continues_number reading.tables x) ≡ false
    → elements_after reading before (c ∷ x ∷ more)
    ≡ (step reading before c []).elements ++ elements_after reading (last_two before (consumed c (step reading before c []))) (x ∷ more)
base_alone reading before c x more no_prefix starter unnamed no_number =
    let s = step reading before c [] in
    elements_after_cons reading before c (x ∷ more)
    ∙ ap (λ (s : Step). s.elements ++ elements_after reading (last_two before (consumed c s)) s.rest) (base_step reading before c [] x more no_prefix starter unnamed no_number)
    ∙ ap (λ (r : List ℕ). s.elements ++ elements_after reading (last_two before (consumed c s)) (r ++ x ∷ more)) (step-nothing reading before c)
