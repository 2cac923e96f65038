-- What stands before a character that begins contractions changes nothing of what it gives at the end of a text.
use Rattle.std.proofs.Common.{◌≡◌, ℕ, ◌<◌, ◌≤◌, List, [], ◌∷◌, ◌++◌, length, get_or, refl, sym, ap, ◌∙◌, append-nil, arith}
use Rattle.ucd_normal.specs.declared.forms.Form.TheVariants.{Nfd}
use Rattle.unicode_normalization.specs.Decompose.{decompose}
use Rattle.unicode_normalization.specs.Forms.{nfd}
use Rattle.icu_table_entries.specs.Elements.{Element}
use Rattle.icu_table_entries.specs.declared.entry.EntryKind.{EntryKind}
use Rattle.icu_table_entries.specs.declared.entry.EntryKind.TheVariants.{Prefix, Contraction}
use Rattle.icu_table_entries.specs.Entries.{kind_of}
use Rattle.icu_table_data.specs.Data.{HomedEntry}
use Rattle.icu_table_provider.specs.Tables.{entry_of}
use Rattle.icu_element_matches.specs.Matches.{after_prefix, match_from}
use Rattle.icu_element_reading.specs.TextElements.{Reading, matched_step, step, consumed, last_two, elements_after, elements_of}
use Rattle.icu_element_reading.proofs.StepLemmas.{Rests-step, elements_after_cons, elements_after_nil}
use Rattle.icu_element_reading.specs.boundaries.Alone.{stays_first}
use Rattle.icu_element_reading.proofs.boundaries.NfdLemmas.{nfd-mark, nfd-nil}

not_prefix : (k : EntryKind) (a b : ℕ) → k ≡ Contraction → (elim k as (λ _. ℕ) [ Prefix ↦ a | _ ↦ b ]) ≡ b
not_prefix Prefix a b h = cc
not_prefix _ a b h = refl

pub own_entry : (h : HomedEntry) (before : List ℕ) → kind_of h.entry ≡ Contraction → after_prefix h before ≡ h.entry
unfolding after_prefix
own_entry h before is = not_prefix (kind_of h.entry) _ _ is

nil_by_length : (l : List ℕ) → length l ≤ 0 → l ≡ []
nil_by_length [] h = refl
nil_by_length (x ∷ xs) h = absurd (omega (arith, h))

-- no prefix is looked for
same_step : (reading : Reading) (before : List ℕ) (c : ℕ) → kind_of (entry_of reading.tables c).entry ≡ Contraction → step reading before c [] ≡ step reading [] c []
same_step reading before c is =
    let h = entry_of reading.tables c in
    ap (λ e. matched_step reading c [] (match_from h.home e [])) (own_entry h before is ∙ sym (own_entry h [] is))

-- a text of one character gives what its step does
one_step : (reading : Reading) (before : List ℕ) (c : ℕ) → elements_after reading before (c ∷ []) ≡ (step reading before c []).elements
one_step reading before c =
    let s = step reading before c [] in
    let left = last_two before (consumed c s) in
    elements_after_cons reading before c []
    ∙ ap (λ (l : List ℕ). s.elements ++ elements_after reading left l) (nil_by_length s.rest (Rests-step reading before c []).fits)
    ∙ ap (λ (es : List Element). s.elements ++ es) (elements_after_nil reading left)
    ∙ append-nil s.elements

itself_alone : (c : ℕ) → decompose Nfd c ≡ c ∷ [] → nfd (c ∷ []) ≡ c ∷ []
unfolding stays_first
itself_alone c split = nfd-mark c [] split refl ∙ ap (λ (l : List ℕ). c ∷ l) nfd-nil

pub forgets_before : (reading : Reading) (c : ℕ) → decompose Nfd c ≡ c ∷ [] → kind_of (entry_of reading.tables c).entry ≡ Contraction
    → (before : List ℕ) → elements_after reading before (nfd (c ∷ [])) ≡ elements_of reading (nfd (c ∷ []))
forgets_before reading c split is before =
    ap (elements_after reading before) (itself_alone c split)
    ∙ one_step reading before c
    ∙ ap (λ s. s.elements) (same_step reading before c is)
    ∙ sym (one_step reading [] c)
    ∙ sym (ap (elements_after reading []) (itself_alone c split))

pub one_item : (xs : List ℕ) (x d : ℕ) → 1 ≤ length xs → length xs < 2 → x ≡ get_or xs 0 d → xs ≡ x ∷ []
one_item [] x d some few is = absurd (omega arith)
one_item (y ∷ []) x d some few is = ap (λ z. z ∷ []) (sym is)
one_item (y ∷ (z ∷ zs)) x d some few is = absurd (omega arith)
