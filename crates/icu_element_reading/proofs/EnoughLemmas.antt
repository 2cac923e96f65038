-- When a text is enough for a step, whatever follows it.
use Rattle.std.proofs.Common.{◌≡◌, ℕ, ◌≤◌, Bool, true, false, not, ◌&&◌, ◌||◌, ◌==◌, List, [], ◌∷◌, ◌++◌, length, drop, map, take_while, Option, Some, None, is_some, cond, if◌then◌else◌, refl, sym, ap, ◌∙◌, arith, append-nil, inl, inr}
use Rattle.std.specs.Prelude.{slice_get}
use Rattle.std.proofs.lemmas.Bool.{cases_Bool, true≢false, and_left, ne_eqb}
use Rattle.ucd_normal.specs.CanonicalCombiningClass.{canonical_combining_class as class_of}
use Rattle.std.proofs.lemmas.List.{drop-append-le}
use Rattle.std.proofs.lemmas.List.Sums.{prefix_len-le-length, take_while-cons}
use Rattle.std.proofs.lemmas.List.Folds.{length-prefix_len}
use Rattle.std.specs.List.{list_any}
use Rattle.icu_table_entries.specs.declared.entry.EntryKind.TheVariants.{Contraction, Digit}
use Rattle.icu_table_entries.specs.Elements.{of_secondary}
use Rattle.icu_table_entries.specs.Entries.{kind_of, digit_value}
use Rattle.icu_table_data.specs.Contexts.{ascend_from}
use Rattle.icu_table_data.specs.Data.{Data, homed, context_of}
use Rattle.icu_table_provider.specs.Tables.{Tables, entry_of, diacritic_of}
use Rattle.icu_element_matches.specs.Matches.{Match, after_prefix, match_of}
use Rattle.icu_element_matches.specs.MatchesAhead.{and_then, HasWholeMatch}
use Rattle.icu_element_matches.specs.MarksAhead.{BeginsWithMark}
use Rattle.icu_element_matches.proofs.ChoiceLemmas.{either_by, maybe_by, nil_by, digit_by}
use Rattle.icu_element_matches.proofs.ReadAheadLemmas.{HasWholeMatch-other, HasWholeMatch-contraction, match_of-other, match_of-contraction, contracted-none, contracted-lone}
use Rattle.icu_element_reading.specs.TextElements.{Reading, Step, is_diacritic_above, is_silent_dot, continues_number, digit_of_char, begins_with_mark, number_elements, number_step, entry_step, diacritic_step, matched_step, step, consumed, last_two, elements_after}
use Rattle.icu_element_reading.specs.ReadAhead.{and_more, IsEnough, HasWholeStep}
use Rattle.icu_element_reading.specs.inner.ReadsAhead.{stops_run, has_run_end, IsRunRead, HasWholeContraction}
use Rattle.icu_element_reading.proofs.StepLemmas.{elements_after_cons}

-- ---- numbers

pub take_while-enough : (p : ℕ → Bool) (text left : List ℕ) → list_any (λ c. not (p c)) text ≡ true → take_while p (text ++ left) ≡ take_while p text
take_while-enough p [] left h = absurd (true≢false (sym h))
take_while-enough p (c ∷ cs) left h =
    take_while-cons p c (cs ++ left)
    ∙ elim (cases_Bool (p c)) [
      | inl on ↦ let later : list_any (λ c. not (p c)) cs ≡ true = rw on at h in ap (λ (l : List ℕ). cond (p c) (c ∷ l) []) (take_while-enough p cs left later)
      | inr stops ↦ rw stops
    ]
    ∙ sym (take_while-cons p c cs)

pub begins_with_mark-at : (text : List ℕ) → BeginsWithMark text → begins_with_mark text ≡ true
begins_with_mark-at [] h = absurd h
begins_with_mark-at (c ∷ cs) h = ap not (ne_eqb (class_of c) 0 (λ e. absurd (omega (arith, h, e))))

begins_with_mark-enough : (tables : Tables) (text left : List ℕ) → stops_run tables text ≡ true → begins_with_mark (text ++ left) ≡ begins_with_mark text
begins_with_mark-enough tables [] left h = absurd (true≢false (sym h))
begins_with_mark-enough tables (c ∷ cs) left h = refl

other_holds : (a b : Bool) → a ≡ false → (a || b) ≡ true → b ≡ true
other_holds true b h k = absurd (true≢false h)
other_holds false b h k = k

-- where each branch is what f makes of another, so is the choice
unless_by : {A B : Type 0} (f : A → B) (b : Bool) (x : B) (x' : A) (y : B) (y' : A) → x ≡ f x' → (b ≡ false → y ≡ f y') → (if b then x else y) ≡ f (if b then x' else y')
unless_by f true x x' y y' p q = p
unless_by f false x x' y y' p q = q refl

number_step-enough : (tables : Tables) (lead : ℕ) (m : Match) (left : List ℕ) → (m.suffix ≡ [] → stops_run tables m.rest ≡ true) → number_step tables lead (and_then m left) ≡ and_more (number_step tables lead m) left
unfolding number_step
number_step-enough tables lead m left ends =
    let run = take_while (continues_number tables) m.rest in
    let fits : length run ≤ length m.rest = omega (arith, length-prefix_len (continues_number tables) m.rest, prefix_len-le-length (continues_number tables) m.rest) in
    let alone : List ℕ → Step = λ r. record { elements = number_elements lead (digit_value m.entry ∷ []); suffix = m.suffix; rest = r } in
    let together : List ℕ → List ℕ → Step = λ run r. record { elements = number_elements lead (digit_value m.entry ∷ map (digit_of_char tables) run); suffix = run; rest = drop (length run) r } in
    let whole = m.rest ++ left in
    let whole_run = take_while (continues_number tables) whole in
    let leave : List ℕ → Step = λ r. record { elements = number_elements lead (digit_value m.entry ∷ map (digit_of_char tables) run); suffix = run; rest = r } in
    nil_by (λ s. and_more s left) m.suffix _ _ (alone whole) (alone m.rest)
    (λ none.
    let stops = ends none in
    let same_together : begins_with_mark m.rest ≡ false → together whole_run whole ≡ and_more (together run m.rest) left = λ unmarked.
    ap (λ run. together run whole) (take_while-enough (continues_number tables) m.rest left (other_holds (begins_with_mark m.rest) (has_run_end tables m.rest) unmarked stops))
    ∙ ap leave (drop-append-le (length run) m.rest left fits) in
    ap (λ b. if b then alone whole else together whole_run whole) (begins_with_mark-enough tables m.rest left stops)
    ∙ unless_by (λ s. and_more s left) (begins_with_mark m.rest) (alone whole) (alone m.rest) (together whole_run whole) (together run m.rest) refl same_together)
    refl

-- a match that comes to a digit and consumes nothing: its run ends in the text, where digits are read as numbers
abbrev pub HasWholeRun : Reading → Match → Type 0
HasWholeRun reading m = is_some reading.numeric ≡ true → kind_of m.entry ≡ Digit → m.suffix ≡ [] → stops_run reading.tables m.rest ≡ true

entry_step-enough : (reading : Reading) (home : Data) (c : ℕ) (m : Match) (left : List ℕ) → HasWholeRun reading m → entry_step reading home c (and_then m left) ≡ and_more (entry_step reading home c m) left
unfolding entry_step
entry_step-enough reading home c m left run =
    digit_by (λ s. and_more s left) (kind_of m.entry) _ _ _ _
    (λ digit.
    maybe_by (λ s. and_more s left) reading.numeric _ _ _ _
    (λ lead is. number_step-enough reading.tables lead m left (λ none. run (rw is refl) digit none))
    refl)
    refl

-- ---- steps

-- the step, by what the table of diacritics says
abbrev step_by : Reading → List ℕ → ℕ → Option ℕ → List ℕ → Step
step_by reading before c o text =
    elim o as (λ _. Step) [
      | Some secondary ↦ diacritic_step reading secondary c text
      | None ↦ entry_step reading (entry_of reading.tables c).home c (match_of (entry_of reading.tables c) before text)
    ]

-- a diacritic whose dot is decided
diacritic_enough : (reading : Reading) (before : List ℕ) (c : ℕ) (text left : List ℕ) (s : ℕ) → diacritic_of reading.tables c ≡ Some s
    → is_silent_dot reading.lithuanian c (text ++ left) ≡ is_silent_dot reading.lithuanian c text → IsEnough reading before c text left
unfolding matched_step
diacritic_enough reading before c text left s is dot =
    let silent : List ℕ → Step = λ text. record { elements = []; suffix = []; rest = text } in
    let sounding : List ℕ → Step = λ text. record { elements = of_secondary s ∷ []; suffix = []; rest = text } in
    ap (λ o. step_by reading before c o (text ++ left)) is
    ∙ ap (λ b. if b then silent (text ++ left) else sounding (text ++ left)) dot
    ∙ either_by (λ s. and_more s left) (is_silent_dot reading.lithuanian c text) (silent (text ++ left)) (silent text) (sounding (text ++ left)) (sounding text) refl refl
    ∙ ap (λ o. and_more (step_by reading before c o text) left) (sym is)

-- at the end of a text nothing follows
pub IsEnough-ended : (reading : Reading) (before : List ℕ) (c : ℕ) (text : List ℕ) → IsEnough reading before c text []
IsEnough-ended reading before c text =
    let s = step reading before c text in
    let with_rest : List ℕ → Step = λ r. record { elements = s.elements; suffix = s.suffix; rest = r } in
    ap (step reading before c) (append-nil text) ∙ ap with_rest (sym (append-nil s.rest))

-- a step on a text that is enough for it, before more
pub elements_after-ahead : (reading : Reading) (before : List ℕ) (c : ℕ) (text left : List ℕ) → IsEnough reading before c text left
    → elements_after reading before (c ∷ (text ++ left)) ≡ (step reading before c text).elements ++ elements_after reading (last_two before (consumed c (step reading before c text))) ((step reading before c text).rest ++ left)
elements_after-ahead reading before c text left enough =
    elements_after_cons reading before c (text ++ left)
    ∙ ap (λ (s : Step). s.elements ++ elements_after reading (last_two before (consumed c s)) s.rest) enough

-- ---- policies of reading ahead

some_first : (text : List ℕ) (x : ℕ) (left : List ℕ) (lithuanian : Bool) (c : ℕ) → slice_get text 0 ≡ Some x → is_silent_dot lithuanian c (text ++ left) ≡ is_silent_dot lithuanian c text
some_first [] x left lithuanian c h = cc
some_first (y ∷ ys) x left lithuanian c h = refl

no_dot : (lithuanian : Bool) (c : ℕ) (text : List ℕ) → (lithuanian && c == 0x307) ≡ false → is_silent_dot lithuanian c text ≡ false
no_dot lithuanian c text h = and_left (lithuanian && c == 0x307) (is_diacritic_above text) h

module _ (reading : Reading) (before : List ℕ) (c : ℕ) (text : List ℕ) where
  -- a diacritic that is not the dot looks at nothing
  pub HasWholeStep-diacritic : (s : ℕ) → diacritic_of reading.tables c ≡ Some s → (reading.lithuanian && c == 0x307) ≡ false → HasWholeStep reading before c text
  HasWholeStep-diacritic s is quiet left =
      diacritic_enough reading before c text left s is (no_dot reading.lithuanian c (text ++ left) quiet ∙ sym (no_dot reading.lithuanian c text quiet))

  -- the dot looks at one character
  pub HasWholeStep-dot : (s x : ℕ) → diacritic_of reading.tables c ≡ Some s → slice_get text 0 ≡ Some x → HasWholeStep reading before c text
  HasWholeStep-dot s x is first left =
      diacritic_enough reading before c text left s is (some_first text x left reading.lithuanian c first)

  module _ (none : diacritic_of reading.tables c ≡ None) where
    -- what is no diacritic takes no account of the dot
    entry_enough : (left : List ℕ) → match_of (entry_of reading.tables c) before (text ++ left) ≡ and_then (match_of (entry_of reading.tables c) before text) left
        → HasWholeRun reading (match_of (entry_of reading.tables c) before text) → IsEnough reading before c text left
    unfolding matched_step
    entry_enough left enough run =
        let home = (entry_of reading.tables c).home in
        ap (λ o. step_by reading before c o (text ++ left)) none
        ∙ ap (entry_step reading home c) enough
        ∙ entry_step-enough reading home c (match_of (entry_of reading.tables c) before text) left run
        ∙ ap (λ o. and_more (step_by reading before c o text) left) (sym none)

    pub HasWholeStep-match : HasWholeMatch (entry_of reading.tables c) before text → HasWholeRun reading (match_of (entry_of reading.tables c) before text) → HasWholeStep reading before c text
    HasWholeStep-match whole run left = entry_enough left (whole left) run

    -- an entry that is no contraction: the run of a digit is read
    pub HasWholeStep-other : (kind_of (after_prefix (entry_of reading.tables c) before) ≡ Contraction → ⊥) → IsRunRead reading (after_prefix (entry_of reading.tables c) before) text → HasWholeStep reading before c text
    HasWholeStep-other other run =
        let h = entry_of reading.tables c in
        let is = match_of-other h before text other in
        HasWholeStep-match (HasWholeMatch-other h before text other) (λ on digit alone. rw is (run on (ap (λ (m : Match). kind_of m.entry) (sym is) ∙ digit)))

    -- a contraction: its mappings and marks are read, and the run of a digit that none of them takes
    pub HasWholeStep-contraction : kind_of (after_prefix (entry_of reading.tables c) before) ≡ Contraction → let context = context_of (homed (entry_of reading.tables c).home (after_prefix (entry_of reading.tables c) before)) in
        ascend_from [] context.mappings ≡ true → HasWholeContraction reading context text → HasWholeStep reading before c text
    HasWholeStep-contraction is ascend read =
        let h = entry_of reading.tables c in
        let context = context_of (homed h.home (after_prefix h before)) in
        let same = match_of-contraction h before text is in
        HasWholeStep-match (HasWholeMatch-contraction h before text is read.decided read.behind)
        (λ on digit alone.
        let none = contracted-none context text ascend (sym (ap (λ (m : Match). m.suffix) same) ∙ alone) in
        let lone = contracted-lone context text none (sym (ap (λ (m : Match). m.suffix) same) ∙ alone) in
        let whole = same ∙ lone in
        rw whole (read.run none on (sym (ap (λ (m : Match). kind_of m.entry) whole) ∙ digit)))
