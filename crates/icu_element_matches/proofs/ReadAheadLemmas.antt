-- When a text is enough for a match, whatever follows it.
use Rattle.std.proofs.Common.{◌≡◌, ℕ, zero, suc, ◌≤◌, Bool, true, false, ◌&&◌, nat_eq, List, [], ◌∷◌, ◌++◌, length, drop, Option, Some, None, if◌then◌else◌, refl, sym, ap, ◌∙◌, arith, append_assoc, append-nil, subst, inl, inr}
use Rattle.std.specs.Prelude.{⊤, slice_get}
use Rattle.std.proofs.lemmas.Bool.{cases_Bool, and_parts, and_from, and_left, or_left, or_right, true≢false}
use Rattle.std.proofs.lemmas.Option.{same_Some}
use Rattle.std.proofs.lemmas.List.{drop-append-le}
use Rattle.std.specs.List.{starts_with, list_any}
use Rattle.unicode_normalization.specs.Order.{is_starter}
use Rattle.icu_table_entries.specs.declared.entry.EntryKind.{EntryKind}
use Rattle.icu_table_entries.specs.declared.entry.EntryKind.TheVariants.{Contraction}
use Rattle.icu_table_entries.specs.Entries.{kind_of}
use Rattle.icu_table_data.specs.Contexts.{is_before, ascend_from}
use Rattle.icu_table_data.specs.Data.{Mapping, Context, HomedEntry, homed, mapping_entry, better, is_longer, longest_from, longest_mapping, context_of}
use Rattle.icu_element_matches.specs.Matches.{Match, after_prefix, is_blocked, with_marks, contracted, match_from, match_of}
use Rattle.icu_element_matches.specs.MatchesAhead.{and_then, lone_match, HasWholeMatch, is_decided, are_decided, mapping_length}
use Rattle.icu_element_matches.proofs.ChoiceLemmas.{either, either_by, maybe_by, maybe_any}
use Rattle.icu_element_matches.proofs.MappingLemmas.{ascends}

-- ---- mappings

starts_with-decided : (chars text left : List ℕ) → is_decided chars text ≡ true → starts_with nat_eq (text ++ left) chars ≡ starts_with nat_eq text chars
unfolding is_decided
starts_with-decided [] text left h = refl
starts_with-decided (y ∷ ys) [] left h = absurd (true≢false (sym h))
starts_with-decided (y ∷ ys) (c ∷ cs) left h =
    elim (cases_Bool (nat_eq y c)) [
      | inl same ↦ let rest : is_decided ys cs ≡ true = rw same at h in ap (λ b. nat_eq y c && b) (starts_with-decided ys cs left rest)
      | inr differs ↦ and_left _ _ differs ∙ sym (and_left _ _ differs)
    ]

pub longest_from-decided : (best : Option Mapping) (mappings : List Mapping) (text left : List ℕ) → are_decided mappings text ≡ true → longest_from best mappings (text ++ left) ≡ longest_from best mappings text
unfolding longest_from
longest_from-decided best [] text left h = refl
longest_from-decided best (mapping ∷ mappings) text left h =
    let parts = and_parts (is_decided mapping.chars text) _ h in
    longest_from-decided (better best mapping (text ++ left)) mappings text left parts.1
    ∙ ap (λ b. longest_from (if b && is_longer mapping best then Some mapping else best) mappings text) (starts_with-decided mapping.chars text left parts.0)

-- mappings that are decided stay so
is_decided-longer : (chars text more : List ℕ) → is_decided chars text ≡ true → is_decided chars (text ++ more) ≡ true
unfolding is_decided
is_decided-longer [] text more h = refl
is_decided-longer (y ∷ ys) [] more h = absurd (true≢false (sym h))
is_decided-longer (y ∷ ys) (c ∷ cs) more h =
    elim (cases_Bool (nat_eq y c)) [
      | inl same ↦ let rest : is_decided ys cs ≡ true = rw same at h in rw same (is_decided-longer ys cs more rest)
      | inr differs ↦ rw differs refl
    ]

pub are_decided-longer : (mappings : List Mapping) (text more : List ℕ) → are_decided mappings text ≡ true → are_decided mappings (text ++ more) ≡ true
are_decided-longer [] text more h = refl
are_decided-longer (mapping ∷ mappings) text more h =
    let parts = and_parts (is_decided mapping.chars text) _ h in
    and_from _ _ (is_decided-longer mapping.chars text more parts.0) (are_decided-longer mappings text more parts.1)

-- ---- the longest mapping has characters, where mappings ascend

abbrev HasChars : Option Mapping → Type 0
HasChars None = ⊤
HasChars (Some mapping) = is_before [] mapping.chars ≡ true

has_if : (b : Bool) (x y : Option Mapping) → HasChars x → HasChars y → HasChars (if b then x else y)
has_if true x y p q = p
has_if false x y p q = q

HasChars-longest_from : (best : Option Mapping) (mappings : List Mapping) (text : List ℕ) → ((k : ℕ) (r : Mapping) → slice_get mappings k ≡ Some r → is_before [] r.chars ≡ true) → HasChars best → HasChars (longest_from best mappings text)
unfolding longest_from
HasChars-longest_from best [] text each h = h
HasChars-longest_from best (mapping ∷ mappings) text each h =
    HasChars-longest_from (better best mapping text) mappings text (λ k r is. each (suc k) r is)
    (has_if (starts_with nat_eq text mapping.chars && is_longer mapping best) (Some mapping) best (each zero mapping refl) h)

empty_not : (chars : List ℕ) → is_before [] chars ≡ true → chars ≡ [] → ⊥
empty_not [] h is = cc
empty_not (c ∷ cs) h is = cc

pub longest_mapping-has_chars : (mappings : List Mapping) (text : List ℕ) (mapping : Mapping) → ascend_from [] mappings ≡ true → longest_mapping mappings text ≡ Some mapping → mapping.chars ≡ [] → ⊥
longest_mapping-has_chars mappings text mapping ascend is =
    empty_not mapping.chars (rw is at (HasChars-longest_from None mappings text (λ k r at. ascends [] mappings k r ascend at) tt))

-- ---- the longest mapping is no longer than the text

abbrev Fits : ℕ → Option Mapping → Type 0
Fits n None = ⊤
Fits n (Some mapping) = length mapping.chars ≤ n

starts_with-fits : (text chars : List ℕ) → starts_with nat_eq text chars ≡ true → length chars ≤ length text
starts_with-fits text [] h = omega arith
starts_with-fits [] (y ∷ ys) h = absurd (true≢false (sym h))
starts_with-fits (c ∷ cs) (y ∷ ys) h =
    let rest = starts_with-fits cs ys (and_parts (nat_eq y c) _ h).1 in omega (arith, rest)

fits_if : (n : ℕ) (a b : Bool) (x y : Option Mapping) → (a ≡ true → Fits n x) → Fits n y → Fits n (if a && b then x else y)
fits_if n true true x y p q = p refl
fits_if n true false x y p q = q
fits_if n false b x y p q = q

Fits-longest_from : (best : Option Mapping) (mappings : List Mapping) (text : List ℕ) → Fits (length text) best → Fits (length text) (longest_from best mappings text)
unfolding longest_from
Fits-longest_from best [] text h = h
Fits-longest_from best (mapping ∷ mappings) text h =
    Fits-longest_from (better best mapping text) mappings text
    (fits_if (length text) (starts_with nat_eq text mapping.chars) (is_longer mapping best) (Some mapping) best (λ t. starts_with-fits text mapping.chars t) h)

pub longest_mapping-fits : (mappings : List Mapping) (text : List ℕ) (mapping : Mapping) → longest_mapping mappings text ≡ Some mapping → length mapping.chars ≤ length text
longest_mapping-fits mappings text mapping h = rw h at (Fits-longest_from None mappings text tt)

-- ---- marks

-- behind a starter the marks look no further
pub with_marks-enough : (mappings : List Mapping) (entry : ℕ) (suffix passed text left : List ℕ) → list_any is_starter text ≡ true → with_marks mappings entry suffix passed (text ++ left) ≡ and_then (with_marks mappings entry suffix passed text) left
unfolding with_marks
with_marks-enough mappings entry suffix passed [] left h = absurd (true≢false (sym h))
with_marks-enough mappings entry suffix passed (m ∷ ms) left h =
    elim (cases_Bool (is_starter m)) [
      | inl starter ↦
          let leave : List ℕ → Match = λ r. record { entry = entry; suffix = suffix; rest = r } in
          rw starter (ap leave (sym (append_assoc passed (m ∷ ms) left)))
      | inr mark ↦
          let later : list_any is_starter ms ≡ true = rw mark at h in
          let over = with_marks-enough mappings entry suffix (passed ++ m ∷ []) ms left later in
          rw mark (either_by (λ n. and_then n left) (is_blocked passed m) _ _ _ _ over
          (maybe_by (λ n. and_then n left) (mapping_entry mappings (suffix ++ m ∷ [])) _ _ _ _ (λ j is. with_marks-enough mappings j (suffix ++ m ∷ []) passed ms left later) over))
    ]

-- a match that consumes nothing has the entry that it began with, and leaves the whole text
record IsLone (entry : ℕ) (suffix text : List ℕ) (m : Match) : Type 0 where
  at : m.suffix ≡ [] → (suffix ≡ []) × (m ≡ lone_match entry text)

no_suffix : (suffix : List ℕ) (m : ℕ) → suffix ++ m ∷ [] ≡ [] → ⊥
no_suffix [] m h = cc
no_suffix (x ∷ xs) m h = cc

ended : (entry : ℕ) (suffix text : List ℕ) → IsLone entry suffix text (record { entry = entry; suffix = suffix; rest = text })
ended entry suffix text = record { at = λ none. (none, ap (λ (l : List ℕ). record { entry = entry; suffix = l; rest = text }) none) }

IsLone-with_marks : (mappings : List Mapping) (entry : ℕ) (suffix passed text : List ℕ) → IsLone entry suffix (passed ++ text) (with_marks mappings entry suffix passed text)
unfolding with_marks
IsLone-with_marks mappings entry suffix passed [] = rw (append-nil passed) (ended entry suffix passed)
IsLone-with_marks mappings entry suffix passed (m ∷ ms) =
    let over : IsLone entry suffix (passed ++ m ∷ ms) (with_marks mappings entry suffix (passed ++ m ∷ []) ms) =
    subst (λ (l : List ℕ). IsLone entry suffix l (with_marks mappings entry suffix (passed ++ m ∷ []) ms)) (append_assoc passed (m ∷ []) ms) (IsLone-with_marks mappings entry suffix (passed ++ m ∷ []) ms) in
    either (IsLone entry suffix (passed ++ m ∷ ms)) (is_starter m) _ _ (ended entry suffix (passed ++ m ∷ ms))
    (either (IsLone entry suffix (passed ++ m ∷ ms)) (is_blocked passed m) _ _ over
    (maybe_any (IsLone entry suffix (passed ++ m ∷ ms)) (mapping_entry mappings (suffix ++ m ∷ [])) _ _
    (λ joined. record { at = λ none. absurd (no_suffix suffix m ((IsLone-with_marks mappings joined (suffix ++ m ∷ []) passed ms).at none).0) }) over))

-- a character behind so many stays behind them
pub any_behind-longer : (p : ℕ → Bool) (n : ℕ) (text more : List ℕ) → list_any p (drop n text) ≡ true → list_any p (drop n (text ++ more)) ≡ true
any_behind-longer p zero [] more h = absurd (true≢false (sym h))
any_behind-longer p (suc n) [] more h = absurd (true≢false (sym h))
any_behind-longer p zero (c ∷ cs) more h =
    elim (cases_Bool (p c)) [
      | inl is ↦ rw is refl
      | inr other ↦ let rest : list_any p cs ≡ true = rw other at h in rw other (any_behind-longer p zero cs more rest)
    ]
any_behind-longer p (suc n) (c ∷ cs) more h = any_behind-longer p n cs more h

-- the character at an index stands behind each number of characters up to it
pub any_behind-at : (p : ℕ → Bool) (n i : ℕ) (text : List ℕ) (c : ℕ) → n ≤ i → slice_get text i ≡ Some c → p c ≡ true → list_any p (drop n text) ≡ true
any_behind-at p n i [] c from at is = cc
any_behind-at p zero zero (x ∷ xs) c from at is =
    or_left (p x) _ (ap p (same_Some x c at) ∙ is)
any_behind-at p zero (suc i) (x ∷ xs) c from at is = or_right (p x) _ (any_behind-at p zero i xs c (omega arith) at is)
any_behind-at p (suc n) zero (x ∷ xs) c from at is = absurd (omega (arith, from))
any_behind-at p (suc n) (suc i) (x ∷ xs) c from at is = any_behind-at p n i xs c (omega (arith, from)) at is

-- ---- contractions

at_longest : (left : List ℕ) (o : Option Mapping) (text : List ℕ) (f f' : Mapping → Match) (y y' : Match) → list_any is_starter (drop (mapping_length o) text) ≡ true
    → ((mapping : Mapping) → o ≡ Some mapping → list_any is_starter (drop (length mapping.chars) text) ≡ true → f mapping ≡ and_then (f' mapping) left) → (list_any is_starter text ≡ true → y ≡ and_then y' left)
    → (elim o as (λ _. Match) [ Some mapping ↦ f mapping | None ↦ y ]) ≡ and_then (elim o as (λ _. Match) [ Some mapping ↦ f' mapping | None ↦ y' ]) left
at_longest left (Some mapping) text f f' y y' behind p q = p mapping refl behind
at_longest left None text f f' y y' behind p q = q behind

-- where the mappings are decided, and a starter stands behind the longest
pub contracted-enough : (context : Context) (text left : List ℕ) → are_decided context.mappings text ≡ true → list_any is_starter (drop (mapping_length (longest_mapping context.mappings text)) text) ≡ true
    → contracted context (text ++ left) ≡ and_then (contracted context text) left
unfolding contracted
contracted-enough context text left decided behind =
    let mappings = context.mappings in
    let with_mapping : List ℕ → Mapping → Match = λ text mapping. with_marks mappings mapping.entry mapping.chars [] (drop (length mapping.chars) text) in
    let without : List ℕ → Match = λ text. with_marks mappings context.default [] [] text in
    ap (λ (o : Option Mapping). elim o as (λ _. Match) [ Some mapping ↦ with_mapping (text ++ left) mapping | None ↦ without (text ++ left) ]) (longest_from-decided None mappings text left decided)
    ∙ at_longest left (longest_mapping mappings text) text (with_mapping (text ++ left)) (with_mapping text) (without (text ++ left)) (without text) behind
    (λ mapping is behind.
    ap (with_marks mappings mapping.entry mapping.chars []) (drop-append-le (length mapping.chars) text left (longest_mapping-fits mappings text mapping is))
    ∙ with_marks-enough mappings mapping.entry mapping.chars [] (drop (length mapping.chars) text) left behind)
    (λ behind. with_marks-enough mappings context.default [] [] text left behind)

pub contracted_by : (context : Context) (text : List ℕ) (o : Option Mapping) → longest_mapping context.mappings text ≡ o
    → contracted context text ≡ elim o as (λ _. Match) [ Some mapping ↦ with_marks context.mappings mapping.entry mapping.chars [] (drop (length mapping.chars) text) | None ↦ with_marks context.mappings context.default [] [] text ]
unfolding contracted
contracted_by context text o is =
    ap (λ (o : Option Mapping). elim o as (λ _. Match) [ Some mapping ↦ with_marks context.mappings mapping.entry mapping.chars [] (drop (length mapping.chars) text) | None ↦ with_marks context.mappings context.default [] [] text ]) is

-- where no mapping begins the text, a match that consumes nothing has the default
pub contracted-lone : (context : Context) (text : List ℕ) → longest_mapping context.mappings text ≡ None → (contracted context text).suffix ≡ [] → contracted context text ≡ lone_match context.default text
contracted-lone context text none h =
    let m = with_marks context.mappings context.default [] [] text in
    let is : contracted context text ≡ m = contracted_by context text None none in
    is ∙ ((IsLone-with_marks context.mappings context.default [] [] text).at (sym (ap (λ (m : Match). m.suffix) is) ∙ h)).1

-- where mappings ascend, a match that consumes nothing has no mapping
pub contracted-none : (context : Context) (text : List ℕ) → ascend_from [] context.mappings ≡ true → (contracted context text).suffix ≡ [] → longest_mapping context.mappings text ≡ None
contracted-none context text ascend alone = at_mapping (longest_mapping context.mappings text) refl
  where
    at_mapping : (o : Option Mapping) → longest_mapping context.mappings text ≡ o → o ≡ None
    at_mapping None is = refl
    at_mapping (Some mapping) is =
        let m = with_marks context.mappings mapping.entry mapping.chars [] (drop (length mapping.chars) text) in
        let same : contracted context text ≡ m = contracted_by context text (Some mapping) is in
        let empty = ((IsLone-with_marks context.mappings mapping.entry mapping.chars [] (drop (length mapping.chars) text)).at (sym (ap (λ (m : Match). m.suffix) same) ∙ alone)).0 in
        absurd (longest_mapping-has_chars context.mappings text mapping ascend is empty)

-- ---- entries

contraction_is : (k : EntryKind) (x y : Match) → k ≡ Contraction → (elim k as (λ _. Match) [ Contraction ↦ x | _ ↦ y ]) ≡ x
contraction_is Contraction x y h = refl
contraction_is _ x y h = cc

contraction_not : (k : EntryKind) (x y : Match) → (k ≡ Contraction → ⊥) → (elim k as (λ _. Match) [ Contraction ↦ x | _ ↦ y ]) ≡ y
contraction_not Contraction x y h = absurd (h refl)
contraction_not _ x y h = refl

pub match_of-contraction : (h : HomedEntry) (before text : List ℕ) → kind_of (after_prefix h before) ≡ Contraction
    → match_of h before text ≡ contracted (context_of (homed h.home (after_prefix h before))) text
unfolding match_from
match_of-contraction h before text is = contraction_is (kind_of (after_prefix h before)) _ _ is

-- an entry that is no contraction looks at no text
pub match_of-other : (h : HomedEntry) (before text : List ℕ) → (kind_of (after_prefix h before) ≡ Contraction → ⊥)
    → match_of h before text ≡ lone_match (after_prefix h before) text
unfolding match_from
match_of-other h before text other = contraction_not (kind_of (after_prefix h before)) _ _ other

pub HasWholeMatch-contraction : (h : HomedEntry) (before text : List ℕ) → let context = context_of (homed h.home (after_prefix h before)) in
    kind_of (after_prefix h before) ≡ Contraction → are_decided context.mappings text ≡ true → list_any is_starter (drop (mapping_length (longest_mapping context.mappings text)) text) ≡ true
    → HasWholeMatch h before text
HasWholeMatch-contraction h before text is decided behind left =
    let context = context_of (homed h.home (after_prefix h before)) in
    match_of-contraction h before (text ++ left) is
    ∙ contracted-enough context text left decided behind
    ∙ ap (λ m. and_then m left) (sym (match_of-contraction h before text is))

pub HasWholeMatch-other : (h : HomedEntry) (before text : List ℕ) → (kind_of (after_prefix h before) ≡ Contraction → ⊥) → HasWholeMatch h before text
HasWholeMatch-other h before text other left =
    match_of-other h before (text ++ left) other ∙ ap (λ m. and_then m left) (sym (match_of-other h before text other))

-- what is enough stays so
pub HasWholeMatch-longer : (h : HomedEntry) (before text more : List ℕ) → HasWholeMatch h before text → HasWholeMatch h before (text ++ more)
HasWholeMatch-longer h before text more whole left =
    let m = match_of h before text in
    let leave : List ℕ → Match = λ r. record { entry = m.entry; suffix = m.suffix; rest = r } in
    ap (match_of h before) (append_assoc text more left)
    ∙ whole (more ++ left)
    ∙ ap leave (sym (append_assoc m.rest more left))
    ∙ ap (λ m. and_then m left) (sym (whole more))
