-- Before a starter that no mapping names, a step, and the elements of a text, don't look past it.
use Rattle.std.proofs.Common.{◌≡◌, ℕ, zero, suc, ◌≤◌, Bool, true, false, not, ◌&&◌, ◌==◌, List, [], ◌∷◌, ◌++◌, length, drop, take, take_while, reverse, map, Option, Some, None, is_some, if◌then◌else◌, refl, sym, ap, ◌∙◌, arith, inl, inr, append_assoc, length-append, cond}
use Rattle.std.proofs.lemmas.Bool.{cases_Bool, or_from, eqb-true, true≢false}
use Rattle.std.proofs.lemmas.List.{drop-append-le, reverse-append}
use Rattle.std.proofs.lemmas.List.Sums.{prefix_len-le-length, take_while-cons}
use Rattle.std.proofs.lemmas.List.Folds.{length-prefix_len}
use Rattle.unicode_normalization.specs.Order.{is_starter}
use Rattle.icu_table_entries.specs.declared.entry.EntryKind.{EntryKind}
use Rattle.icu_table_entries.specs.declared.entry.EntryKind.TheVariants.{Prefix}
use Rattle.icu_table_entries.specs.Elements.{Element, of_secondary}
use Rattle.icu_table_entries.specs.Entries.{kind_of, digit_value}
use Rattle.icu_table_data.specs.Data.{Data, HomedEntry, homed}
use Rattle.icu_table_provider.specs.Tables.{Tables, is_jamo, tailored_entry, entry_of, diacritic_of}
use Rattle.icu_element_matches.specs.Matches.{Match, after_prefix, match_of, match_from}
use Rattle.icu_element_reading.specs.TextElements.{Reading, Step, is_diacritic_above, is_silent_dot, continues_number, digit_of_char, begins_with_mark, number_elements, number_step, entry_step, step, consumed, matched_step, last_two, elements_along, elements_after, elements_of}
use Rattle.icu_element_reading.proofs.Computing.{icu_elements}
use Rattle.icu_table_provider.specs.well_formed.MappingCharacters.{is_named, is_named_by_tailoring}
use Rattle.icu_element_reading.specs.boundaries.Cuts.{cut, is_prefix_kind, has_prefix, IsBoundary}
use Rattle.icu_element_reading.proofs.boundaries.MatchCuts.{same_cut, cut-append, match_of-append, match_of-same}
use Rattle.icu_element_matches.specs.MatchesAhead.{and_then}
use Rattle.icu_element_matches.proofs.ChoiceLemmas.{either as either_of, either_by, maybe_by, nil_by, digit_by}
use Rattle.icu_element_reading.specs.ReadAhead.{and_more}
use Rattle.icu_element_reading.proofs.StepLemmas.{Rests-step, elements_along-enough}

-- ---- numbers

take_while-stop : (p : ℕ → Bool) (text : List ℕ) (x : ℕ) (more : List ℕ) → p x ≡ false → take_while p (text ++ x ∷ more) ≡ take_while p text
take_while-stop p [] x more h = take_while-cons p x more ∙ rw h refl
take_while-stop p (c ∷ cs) x more h =
    take_while-cons p c (cs ++ x ∷ more)
    ∙ ap (λ (l : List ℕ). cond (p c) (c ∷ l) []) (take_while-stop p cs x more h)
    ∙ sym (take_while-cons p c cs)

begins_with_mark-append : (text : List ℕ) (x : ℕ) (more : List ℕ) → is_starter x ≡ true → begins_with_mark (text ++ x ∷ more) ≡ begins_with_mark text
begins_with_mark-append [] x more h = ap not h
begins_with_mark-append (c ∷ cs) x more h = refl

number_step-append : (tables : Tables) (lead x : ℕ) (m : Match) (more : List ℕ) → is_starter x ≡ true → continues_number tables x ≡ false → number_step tables lead (and_then m (x ∷ more)) ≡ and_more (number_step tables lead m) (x ∷ more)
unfolding number_step
number_step-append tables lead x m more starter stops =
    let run = take_while (continues_number tables) m.rest in
    let fits : length run ≤ length m.rest = omega (arith, length-prefix_len (continues_number tables) m.rest, prefix_len-le-length (continues_number tables) m.rest) in
    let alone : List ℕ → Step = λ r. record { elements = number_elements lead (digit_value m.entry ∷ []); suffix = m.suffix; rest = r } in
    let together : List ℕ → List ℕ → Step = λ run r. record { elements = number_elements lead (digit_value m.entry ∷ map (digit_of_char tables) run); suffix = run; rest = drop (length run) r } in
    let whole = m.rest ++ x ∷ more in
    let whole_run = take_while (continues_number tables) whole in
    let left : List ℕ → Step = λ r. record { elements = number_elements lead (digit_value m.entry ∷ map (digit_of_char tables) run); suffix = run; rest = r } in
    let same_together : together whole_run whole ≡ and_more (together run m.rest) (x ∷ more) =
    ap (λ run. together run whole) (take_while-stop (continues_number tables) m.rest x more stops)
    ∙ ap left (drop-append-le (length run) m.rest (x ∷ more) fits) in
    nil_by (λ s. and_more s (x ∷ more)) m.suffix _ _ (alone whole) (alone m.rest)
    (λ none. ap (λ b. if b then alone whole else together whole_run whole) (begins_with_mark-append m.rest x more starter)
    ∙ either_by (λ s. and_more s (x ∷ more)) (begins_with_mark m.rest) (alone whole) (alone m.rest) (together whole_run whole) (together run m.rest) refl same_together)
    refl

entry_step-append : (reading : Reading) (home : Data) (c x : ℕ) (m : Match) (more : List ℕ) → is_starter x ≡ true → (is_some reading.numeric && continues_number reading.tables x) ≡ false → entry_step reading home c (and_then m (x ∷ more)) ≡ and_more (entry_step reading home c m) (x ∷ more)
unfolding entry_step
entry_step-append reading home c x m more starter stops =
    digit_by (λ s. and_more s (x ∷ more)) (kind_of m.entry) _ _ _ _
    (λ digit. maybe_by (λ s. and_more s (x ∷ more)) reading.numeric _ _ _ _
    (λ lead is. number_step-append reading.tables lead x m more starter (rw is at stops))
    refl)
    refl

-- ---- the step

pub not_accent : (x n : ℕ) → is_starter x ≡ true → is_starter n ≡ false → (x == n) ≡ false
not_accent x n starter mark =
    elim (cases_Bool (x == n)) [
      | inl is ↦ absurd (true≢false (sym starter ∙ ap is_starter (eqb-true x n is) ∙ mark))
      | inr differs ↦ differs
    ]

grave_is_mark : is_starter 0x300 ≡ false
unfolding icu_elements
grave_is_mark = refl

acute_is_mark : is_starter 0x301 ≡ false
unfolding icu_elements
acute_is_mark = refl

tilde_is_mark : is_starter 0x303 ≡ false
unfolding icu_elements
tilde_is_mark = refl

is_accent_above-append : (text : List ℕ) (x : ℕ) (more : List ℕ) → is_starter x ≡ true → is_diacritic_above (text ++ x ∷ more) ≡ is_diacritic_above text
is_accent_above-append [] x more h =
    or_from _ _ (or_from _ _ (not_accent x 0x300 h grave_is_mark) (not_accent x 0x301 h acute_is_mark)) (not_accent x 0x303 h tilde_is_mark)
is_accent_above-append (c ∷ cs) x more h = refl

tailored_home : (x : ℕ) (root : Data) (tailoring : Option Data) (own : HomedEntry) (f : Data → HomedEntry) → is_named x own.home ≡ false → is_named_by_tailoring x tailoring ≡ false → ((t : Data) → is_named x t ≡ false → is_named x (f t).home ≡ false) → is_named x (elim tailoring as (λ _. HomedEntry) [ None ↦ own | Some t ↦ f t ]).home ≡ false
tailored_home x root None own f h t g = h
tailored_home x root (Some d) own f h t g = g d t

-- the home of a character's entry doesn't name x
unnamed_home : (reading : Reading) (x c : ℕ) → IsBoundary reading x → is_named x (entry_of reading.tables c).home ≡ false
unfolding entry_of
unnamed_home reading x c boundary =
    let t = reading.tables in
    let unnamed : HomedEntry → Type 0 = λ h. is_named x h.home ≡ false in
    either_of unnamed (is_jamo c) _ _ boundary.root
    (tailored_home x t.root t.tailoring (homed t.root (t.root.value c)) (λ d. tailored_entry t.root d c) boundary.root boundary.tailoring
    (λ d h. either_of unnamed (d.value c == 0xC0) (homed t.root (t.root.value c)) (homed d (d.value c)) boundary.root h))

-- where its match doesn't look past x, nor does the step
pub step-by_match : (reading : Reading) (before : List ℕ) (c : ℕ) (text : List ℕ) (x : ℕ) (more : List ℕ) → is_starter x ≡ true → (is_some reading.numeric && continues_number reading.tables x) ≡ false
    → match_of (entry_of reading.tables c) before (text ++ x ∷ more) ≡ and_then (match_of (entry_of reading.tables c) before text) (x ∷ more)
    → step reading before c (text ++ x ∷ more) ≡ and_more (step reading before c text) (x ∷ more)
unfolding matched_step
step-by_match reading before c text x more starter no_number same =
    let h = entry_of reading.tables c in
    let whole = text ++ x ∷ more in
    let silent : List ℕ → Step = λ text. record { elements = []; suffix = []; rest = text } in
    let accent : ℕ → List ℕ → Step = λ s text. record { elements = of_secondary s ∷ []; suffix = []; rest = text } in
    maybe_by (λ s. and_more s (x ∷ more)) (diacritic_of reading.tables c) _ _ _ _
    (λ s is.
    ap (λ b. if reading.lithuanian && c == 0x307 && b then silent whole else accent s whole) (is_accent_above-append text x more starter)
    ∙ either_by (λ s. and_more s (x ∷ more)) (is_silent_dot reading.lithuanian c text) (silent whole) (silent text) (accent s whole) (accent s text) refl refl)
    (ap (entry_step reading h.home c) same
    ∙ entry_step-append reading h.home c x (match_of h before text) more starter no_number)

pub step-append : (reading : Reading) (before : List ℕ) (c : ℕ) (text : List ℕ) (x : ℕ) (more : List ℕ) → IsBoundary reading x → step reading before c (text ++ x ∷ more) ≡ and_more (step reading before c text) (x ∷ more)
step-append reading before c text x more boundary =
    step-by_match reading before c text x more boundary.starter boundary.no_number
    (match_of-append x (entry_of reading.tables c) before text more boundary.starter (unnamed_home reading x c boundary))

-- ---- the context before x doesn't matter

step-matched : (reading : Reading) (p q : List ℕ) (c : ℕ) (text : List ℕ) → match_of (entry_of reading.tables c) p text ≡ match_of (entry_of reading.tables c) q text → step reading p c text ≡ step reading q c text
step-matched reading p q c text h = ap (matched_step reading c text) h

pub step-same : (reading : Reading) (x : ℕ) (p q : List ℕ) (c : ℕ) (text : List ℕ) → IsBoundary reading x → cut x p ≡ cut x q → step reading p c text ≡ step reading q c text
step-same reading x p q c text boundary same =
    step-matched reading p q c text (match_of-same x (entry_of reading.tables c) p q text (unnamed_home reading x c boundary) same)

cut-take : (x n : ℕ) (p : List ℕ) → cut x (take n p) ≡ take n (cut x p)
unfolding cut
cut-take x zero p = refl
cut-take x (suc n) [] = refl
cut-take x (suc n) (c ∷ cs) =
    elim (cases_Bool (c == x)) [
      | inl is ↦ rw is refl
      | inr differs ↦ rw differs (ap (λ (l : List ℕ). c ∷ l) (cut-take x n cs))
    ]

pub cut-last_two : (x : ℕ) (p q chars : List ℕ) → cut x (reverse chars ++ p) ≡ cut x (reverse chars ++ q) → cut x (last_two p chars) ≡ cut x (last_two q chars)
cut-last_two x p q chars h = cut-take x 2 (reverse chars ++ p) ∙ ap (take 2) h ∙ sym (cut-take x 2 (reverse chars ++ q))

pub elements_along-same : (reading : Reading) (x : ℕ) (along p q text : List ℕ) → IsBoundary reading x → cut x p ≡ cut x q → elements_along along reading p text ≡ elements_along along reading q text
unfolding elements_along
elements_along-same reading x along p q [] boundary same = refl
elements_along-same reading x [] p q (c ∷ text) boundary same = refl
elements_along-same reading x (_ ∷ along) p q (c ∷ text) boundary same =
    let s = step reading p c text in
    let after = cut-last_two x p q (consumed c s) (same_cut x (reverse (consumed c s)) p q same) in
    ap (λ (es : List Element). s.elements ++ es) (elements_along-same reading x along (last_two p (consumed c s)) (last_two q (consumed c s)) s.rest boundary after)
    ∙ ap (λ (s : Step). s.elements ++ elements_along along reading (last_two q (consumed c s)) s.rest) (step-same reading x p q c text boundary same)

-- ---- the elements of the whole

not_prefix : (k : EntryKind) (a b e : ℕ) → is_prefix_kind k ≡ false → ◌≡◌ {A = ℕ} (elim k as (λ _. ℕ) [ Prefix ↦ a | _ ↦ e ]) (elim k as (λ _. ℕ) [ Prefix ↦ b | _ ↦ e ])
not_prefix Prefix a b e h = cc
not_prefix _ a b e h = refl

match_of-unprefixed : (tables : Tables) (x : ℕ) (p q text : List ℕ) → has_prefix tables x ≡ false → match_of (entry_of tables x) p text ≡ match_of (entry_of tables x) q text
unfolding after_prefix
match_of-unprefixed tables x p q text h =
    let home = entry_of tables x in
    ap (λ entry. match_from home.home entry text) (not_prefix (kind_of home.entry) _ _ home.entry h)

-- x was taken since, so what stood before it is out of sight
pub cut_taken : (x : ℕ) (suffix p q : List ℕ) → cut x (reverse (x ∷ suffix) ++ p) ≡ cut x (reverse (x ∷ suffix) ++ q)
cut_taken x suffix p q =
    let split : (p : List ℕ) → reverse (x ∷ suffix) ++ p ≡ reverse suffix ++ x ∷ p =
    λ p. ap (λ (l : List ℕ). l ++ p) (reverse-append (x ∷ []) suffix) ∙ append_assoc (reverse suffix) (x ∷ []) p in
    ap (cut x) (split p) ∙ cut-append x (reverse suffix) p ∙ sym (cut-append x (reverse suffix) q) ∙ ap (cut x) (sym (split q))

-- the step at x is the same after any context
pub step-at : (reading : Reading) (p q : List ℕ) (x : ℕ) (more : List ℕ) → IsBoundary reading x → step reading p x more ≡ step reading q x more
step-at reading p q x more boundary = step-matched reading p q x more (match_of-unprefixed reading.tables x p q more boundary.no_prefix)

-- x and what follows give the same after any context
pub elements_along-at : (reading : Reading) (x : ℕ) (along p q more : List ℕ) → IsBoundary reading x → elements_along along reading p (x ∷ more) ≡ elements_along along reading q (x ∷ more)
unfolding elements_along
elements_along-at reading x [] p q more boundary = refl
elements_along-at reading x (_ ∷ along) p q more boundary =
    let s = step reading p x more in
    let same = step-at reading p q x more boundary in
    let after = cut-last_two x p q (consumed x s) (cut_taken x s.suffix p q) in
    ap (λ (es : List Element). s.elements ++ es) (elements_along-same reading x along (last_two p (consumed x s)) (last_two q (consumed x s)) s.rest boundary after)
    ∙ ap (λ (s : Step). s.elements ++ elements_along along reading (last_two q (consumed x s)) s.rest) same

pub elements_after-at : (reading : Reading) (p q : List ℕ) (x : ℕ) (more : List ℕ) → IsBoundary reading x → elements_after reading p (x ∷ more) ≡ elements_after reading q (x ∷ more)
unfolding elements_after
elements_after-at reading p q x more boundary = elements_along-at reading x (x ∷ more) p q more boundary

elements_along-append : (reading : Reading) (along before text : List ℕ) (x : ℕ) (more : List ℕ) → IsBoundary reading x → length (text ++ x ∷ more) ≤ length along
    → elements_along along reading before (text ++ x ∷ more) ≡ elements_along along reading before text ++ elements_of reading (x ∷ more)
unfolding elements_along elements_after
elements_along-append reading along before [] x more boundary fits =
    elements_along-at reading x along before [] more boundary
    ∙ elements_along-enough reading along (x ∷ more) [] (x ∷ more) fits (omega arith)
elements_along-append reading [] before (c ∷ text) x more boundary fits = absurd (omega arith)
elements_along-append reading (_ ∷ along) before (c ∷ text) x more boundary fits =
    let s = step reading before c text in
    let shorter = (Rests-step reading before c text).fits in
    let room : length (s.rest ++ x ∷ more) ≤ length along = omega (arith, shorter, length-append s.rest (x ∷ more), length-append text (x ∷ more)) in
    ap (λ (s : Step). s.elements ++ elements_along along reading (last_two before (consumed c s)) s.rest) (step-append reading before c text x more boundary)
    ∙ ap (λ (es : List Element). s.elements ++ es) (elements_along-append reading along (last_two before (consumed c s)) s.rest x more boundary room)
    ∙ sym (append_assoc s.elements (elements_along along reading (last_two before (consumed c s)) s.rest) (elements_of reading (x ∷ more)))

-- the elements of a decomposed text that is cut at a boundary
pub elements_after-append : (reading : Reading) (before text : List ℕ) (x : ℕ) (more : List ℕ) → IsBoundary reading x
    → elements_after reading before (text ++ x ∷ more) ≡ elements_after reading before text ++ elements_of reading (x ∷ more)
unfolding elements_after
elements_after-append reading before text x more boundary =
    elements_along-append reading (text ++ x ∷ more) before text x more boundary (omega arith)
    ∙ ap (λ (es : List Element). es ++ elements_of reading (x ∷ more)) (elements_along-enough reading (text ++ x ∷ more) text before text (omega (arith, length-append text (x ∷ more))) (omega arith))
