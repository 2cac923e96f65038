-- A character that gives the same wherever it stands is read by itself.
use Rattle.std.proofs.Common.{◌≡◌, ℕ, Bool, true, false, ◌&&◌, ◌||◌, List, [], ◌∷◌, ◌++◌, flat_map, Option, Some, None, is_some, if◌then◌else◌, refl, sym, ap, ◌∙◌, append_assoc}
use Rattle.std.proofs.lemmas.Bool.{and_left, and_parts, not-true}
use Rattle.std.specs.List.{list_all}
use Rattle.ucd_normal.specs.declared.forms.Form.TheVariants.{Nfd}
use Rattle.unicode_normalization.specs.Decompose.{decompose}
use Rattle.unicode_normalization.specs.Order.{is_starter}
use Rattle.unicode_normalization.specs.Forms.{nfd}
use Rattle.icu_table_entries.specs.Elements.{Element, of_secondary}
use Rattle.icu_table_entries.specs.declared.entry.EntryKind.{EntryKind}
use Rattle.icu_table_entries.specs.declared.entry.EntryKind.TheVariants.{Prefix, Contraction, Digit}
use Rattle.icu_table_entries.specs.Entries.{kind_of}
use Rattle.icu_table_data.specs.Data.{Data, HomedEntry, homed}
use Rattle.icu_table_provider.specs.Tables.{entry_of, diacritic_of}
use Rattle.icu_table_data.specs.Final.{final_elements}
use Rattle.icu_element_matches.specs.Matches.{Match, after_prefix, match_from, match_of}
use Rattle.icu_element_matches.specs.MatchesAhead.{lone_match}
use Rattle.icu_element_reading.specs.TextElements.{Reading, Step, is_digit_kind, is_diacritic_above, is_silent_dot, entry_step, matched_step, step, consumed, last_two, elements_after}
use Rattle.icu_element_reading.specs.boundaries.Alone.{names_no_context, plain_entry, elements_of_char, looks_at_nothing, has_own_elements, is_dot, is_alone, context_after, stays_first, all_stay}
use Rattle.icu_element_reading.proofs.StepLemmas.{elements_after_cons}
use Rattle.icu_element_reading.proofs.boundaries.NfdLemmas.{nfd-starters, nfd-begins, rest_after, nfd-append, nfd-mark, nfd-stay}

not_prefix : (k : EntryKind) (a b : ℕ) → names_no_context k ≡ true → (elim k as (λ _. ℕ) [ Prefix ↦ a | _ ↦ b ]) ≡ b
not_prefix Prefix a b h = cc
not_prefix _ a b h = refl

not_contraction : (k : EntryKind) (a b : Match) → names_no_context k ≡ true → (elim k as (λ _. Match) [ Contraction ↦ a | _ ↦ b ]) ≡ b
not_contraction Contraction a b h = cc
not_contraction _ a b h = refl

-- a step that takes its own character alone
abbrev pub single : List Element → List ℕ → Step
single es text = record { elements = es; suffix = []; rest = text }

pub match_of-alone : (h : HomedEntry) (before text : List ℕ) → names_no_context (kind_of h.entry) ≡ true → match_of h before text ≡ lone_match h.entry text
unfolding match_from after_prefix
match_of-alone h before text p =
    let same : after_prefix h before ≡ h.entry = not_prefix (kind_of h.entry) _ _ p in
    ap (λ e. match_from h.home e text) same ∙ not_contraction (kind_of h.entry) _ _ p

at_digit : (k : EntryKind) (numeric : Option ℕ) (number : ℕ → Step) (home : Data) (c e p : ℕ) (text : List ℕ) → (is_some numeric && is_digit_kind k) ≡ false
    → (elim k as (λ _. Step) [ Digit ↦ elim numeric as (λ _. Step) [ None ↦ single (final_elements (homed home p) c) text | Some lead ↦ number lead ] | _ ↦ single (final_elements (homed home e) c) text ])
    ≡ single (final_elements (elim k as (λ _. HomedEntry) [ Digit ↦ homed home p | _ ↦ homed home e ]) c) text
at_digit Digit None number home c e p text h = refl
at_digit Digit (Some lead) number home c e p text h = cc
at_digit _ numeric number home c e p text h = refl

entry_step-alone : (reading : Reading) (h : HomedEntry) (c : ℕ) (text : List ℕ) → (is_some reading.numeric && is_digit_kind (kind_of h.entry)) ≡ false
    → entry_step reading h.home c (lone_match h.entry text) ≡ single (final_elements (plain_entry h) c) text
unfolding entry_step
entry_step-alone reading h c text no_number = at_digit (kind_of h.entry) reading.numeric _ h.home c h.entry _ text no_number

at_accent : (o : Option ℕ) (own silent : Bool) (text : List ℕ) (matched : Step) (es : List Element) → (is_some o || own) ≡ true → silent ≡ false → (own ≡ true → matched ≡ single es text)
    → (elim o as (λ _. Step) [ Some s ↦ (if silent then single [] text else single (of_secondary s ∷ []) text) | None ↦ matched ])
    ≡ single (elim o as (λ _. List Element) [ Some s ↦ of_secondary s ∷ [] | None ↦ es ]) text
at_accent (Some s) own silent text matched es o q h = rw q
at_accent None own silent text matched es o q h = h o

-- whatever stands before and after it
pub step-alone : (reading : Reading) (before : List ℕ) (c : ℕ) (text : List ℕ) → is_alone reading c ≡ true → step reading before c text ≡ single (elements_of_char reading.tables c) text
unfolding matched_step elements_of_char
step-alone reading before c text h =
    let home = entry_of reading.tables c in
    let parts = and_parts (has_own_elements reading c) _ h in
    let quiet : is_silent_dot reading.lithuanian c text ≡ false = and_left (is_dot reading c) (is_diacritic_above text) (not-true _ parts.1) in
    at_accent (diacritic_of reading.tables c) (looks_at_nothing reading.numeric (kind_of home.entry)) (is_silent_dot reading.lithuanian c text) text _ _ parts.0 quiet
    (λ own.
    let kinds = and_parts (names_no_context (kind_of home.entry)) _ own in
    ap (entry_step reading home.home c) (match_of-alone home before text kinds.0) ∙ entry_step-alone reading home c text (not-true _ kinds.1))

-- characters that stand alone, before any text
pub elements_after-alone : (reading : Reading) (before ds text : List ℕ) → list_all (is_alone reading) ds ≡ true
    → elements_after reading before (ds ++ text) ≡ flat_map (elements_of_char reading.tables) ds ++ elements_after reading (context_after before ds) text
unfolding context_after
elements_after-alone reading before [] text h = refl
elements_after-alone reading before (d ∷ ds) text h =
    let parts = and_parts (is_alone reading d) _ h in
    let of_char = elements_of_char reading.tables d in
    elements_after_cons reading before d (ds ++ text)
    ∙ ap (λ (s : Step). s.elements ++ elements_after reading (last_two before (consumed d s)) s.rest) (step-alone reading before d (ds ++ text) parts.0)
    ∙ ap (λ (es : List Element). of_char ++ es) (elements_after-alone reading (last_two before (d ∷ [])) ds text parts.1)
    ∙ sym (append_assoc of_char (flat_map (elements_of_char reading.tables) ds) (elements_after reading (context_after (last_two before (d ∷ [])) ds) text))

-- one character that stands alone
pub elements_after-lone : (reading : Reading) (before : List ℕ) (c : ℕ) (text : List ℕ) → is_alone reading c ≡ true
    → elements_after reading before (c ∷ text) ≡ elements_of_char reading.tables c ++ elements_after reading (last_two before (c ∷ [])) text
elements_after-lone reading before c text h =
    elements_after_cons reading before c text
    ∙ ap (λ (s : Step). s.elements ++ elements_after reading (last_two before (consumed c s)) s.rest) (step-alone reading before c text h)

-- ---- texts as they are given

-- a character that decomposes to starters that stand alone, as most letters and each Hangul syllable: nothing is read
-- ahead
pub letter_of_starters : (reading : Reading) (before : List ℕ) (c : ℕ) (ds cs : List ℕ) → decompose Nfd c ≡ ds → list_all is_starter ds ≡ true → list_all (is_alone reading) ds ≡ true
    → elements_after reading before (nfd (c ∷ cs)) ≡ flat_map (elements_of_char reading.tables) ds ++ elements_after reading (context_after before ds) (nfd cs)
letter_of_starters reading before c ds cs split starters alone =
    ap (elements_after reading before) (nfd-starters c ds cs split starters) ∙ elements_after-alone reading before ds (nfd cs) alone

-- so is one that stands for itself
pub lone_starter : (reading : Reading) (before : List ℕ) (c : ℕ) (cs : List ℕ) → decompose Nfd c ≡ c ∷ [] → is_starter c ≡ true → is_alone reading c ≡ true
    → elements_after reading before (nfd (c ∷ cs)) ≡ elements_of_char reading.tables c ++ elements_after reading (last_two before (c ∷ [])) (nfd cs)
lone_starter reading before c cs split starter alone =
    ap (elements_after reading before) (nfd-starters c (c ∷ []) cs split (rw starter refl)) ∙ elements_after-lone reading before c (nfd cs) alone

-- a letter, composed or not, before a character whose decomposition begins with a starter
pub composed_letter : (reading : Reading) (before : List ℕ) (letter c s : ℕ) (ts cs : List ℕ) → decompose Nfd c ≡ s ∷ ts → is_starter s ≡ true → list_all (is_alone reading) (nfd (letter ∷ [])) ≡ true
    → elements_after reading before (nfd (letter ∷ c ∷ cs))
    ≡ flat_map (elements_of_char reading.tables) (nfd (letter ∷ [])) ++ elements_after reading (context_after before (nfd (letter ∷ []))) (nfd (c ∷ cs))
composed_letter reading before letter c s ts cs split starter alone =
    ap (elements_after reading before) (nfd-append c s ts cs split starter (letter ∷ []))
    ∙ elements_after-alone reading before (nfd (letter ∷ [])) (nfd (c ∷ cs)) alone

-- a mark that no mark of its run goes before
pub lone_mark : (reading : Reading) (before : List ℕ) (m : ℕ) (cs : List ℕ) → decompose Nfd m ≡ m ∷ [] → stays_first m (flat_map (decompose Nfd) cs) ≡ true → is_alone reading m ≡ true
    → elements_after reading before (nfd (m ∷ cs)) ≡ elements_of_char reading.tables m ++ elements_after reading (last_two before (m ∷ [])) (nfd cs)
lone_mark reading before m cs split stays alone =
    ap (elements_after reading before) (nfd-mark m cs split stays) ∙ elements_after-lone reading before m (nfd cs) alone

-- all of these: a character whose decomposition stays where it is
pub letter_that_stays : (reading : Reading) (before : List ℕ) (c : ℕ) (ds cs : List ℕ) → decompose Nfd c ≡ ds → all_stay ds (flat_map (decompose Nfd) cs) ≡ true → list_all (is_alone reading) ds ≡ true
    → elements_after reading before (nfd (c ∷ cs)) ≡ flat_map (elements_of_char reading.tables) ds ++ elements_after reading (context_after before ds) (nfd cs)
letter_that_stays reading before c ds cs split stay alone =
    ap (elements_after reading before) (nfd-stay c ds cs split stay) ∙ elements_after-alone reading before ds (nfd cs) alone

-- the first elements at any place, whatever follows
pub leading : (reading : Reading) (before : List ℕ) (c s : ℕ) (ts cs : List ℕ) → (split : decompose Nfd c ≡ s ∷ ts) → (starter : is_starter s ≡ true) → is_alone reading s ≡ true
    → (rest : List Element) × (elements_after reading before (nfd (c ∷ cs)) ≡ elements_of_char reading.tables s ++ rest)
leading reading before c s ts cs split starter alone =
    let after = rest_after c s ts cs split starter in (
      elements_after reading (last_two before (s ∷ [])) after,
      ap (elements_after reading before) (nfd-begins c s ts cs split starter) ∙ elements_after-lone reading before s after alone,
    )
