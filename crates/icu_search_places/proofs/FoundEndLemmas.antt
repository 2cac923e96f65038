-- A match that leaves a starter and all that follows it is that of the characters before the starter alone.
use Rattle.std.proofs.Common.{◌≡◌, ℕ, suc, ◌<◌, ◌≤◌, ◌+◌, Bool, true, false, ◌&&◌, nat_eq, nat_lt, List, [], ◌∷◌, ◌++◌, length, drop, Option, Some, None, if◌then◌else◌, refl, sym, ap, ◌∙◌, arith, inl, inr, subst, length-append, length-drop}
use Rattle.std.specs.List.{starts_with}
use Rattle.std.proofs.lemmas.Bool.{cases_Bool, cases_lt, ltb-true}
use Rattle.std.proofs.lemmas.List.{drop-append-le}
use Rattle.unicode_normalization.specs.Order.{is_starter}
use Rattle.icu_table_entries.specs.declared.entry.EntryKind.{EntryKind}
use Rattle.icu_table_entries.specs.declared.entry.EntryKind.TheVariants.{Contraction}
use Rattle.icu_table_entries.specs.Entries.{kind_of}
use Rattle.icu_table_data.specs.Data.{Mapping, Context, HomedEntry, homed, mapping_entry, better, is_longer, longest_from, longest_mapping, context_of}
use Rattle.icu_element_matches.specs.Matches.{Match, after_prefix, is_blocked, with_marks, contracted, match_from, match_of}
use Rattle.icu_element_matches.specs.MatchesAhead.{and_then, mapping_length}
use Rattle.icu_element_matches.proofs.ChoiceLemmas.{either, maybe_any}
use Rattle.icu_element_reading.proofs.boundaries.MatchCuts.{with_marks-append}

-- ---- the longest mapping

-- what begins the front begins the whole, and what begins the whole and is no longer than the front begins that
starts_with-front : (front back chars : List ℕ) → length chars ≤ length front → starts_with nat_eq (front ++ back) chars ≡ starts_with nat_eq front chars
starts_with-front front back [] fits = refl
starts_with-front [] back (y ∷ ys) fits = absurd (omega arith)
starts_with-front (c ∷ cs) back (y ∷ ys) fits = ap (λ b. nat_eq y c && b) (starts_with-front cs back ys (omega arith))

starts_with-short : (front chars : List ℕ) → length front < length chars → starts_with nat_eq front chars ≡ false
starts_with-short front [] short = absurd (omega arith)
starts_with-short [] (y ∷ ys) short = refl
starts_with-short (c ∷ cs) (y ∷ ys) short =
    let rest = starts_with-short cs ys (omega arith) in elim (cases_Bool (nat_eq y c)) [ inl same ↦ rw (same, rest) refl | inr other ↦ rw other refl ]

grows_if : (b : Bool) (mapping : Mapping) (best : Option Mapping) → mapping_length best ≤ mapping_length (if b && is_longer mapping best then Some mapping else best)
grows_if false mapping best = omega arith
grows_if true mapping None = omega arith
grows_if true mapping (Some best) =
    elim (cases_Bool (nat_lt (length best.chars) (length mapping.chars))) [
      | inl longer ↦ rw longer (omega (arith, ltb-true (length best.chars) (length mapping.chars) longer))
      | inr other ↦ rw other (omega arith)
    ]

grows : (best : Option Mapping) (mappings : List Mapping) (text : List ℕ) → mapping_length best ≤ mapping_length (longest_from best mappings text)
unfolding longest_from
grows best [] text = omega arith
grows best (mapping ∷ mappings) text =
    omega (arith, grows_if (starts_with nat_eq text mapping.chars) mapping best, grows (better best mapping text) mappings text)

-- where the longest mapping that begins the whole is no longer than the front, it is that of the front
longest_from-front : (best : Option Mapping) (mappings : List Mapping) (front back : List ℕ) → mapping_length (longest_from best mappings (front ++ back)) ≤ length front
    → longest_from best mappings (front ++ back) ≡ longest_from best mappings front
unfolding longest_from
longest_from-front best [] front back fits = refl
longest_from-front best (mapping ∷ mappings) front back fits =
    let whole = front ++ back in
    let chosen_if : Bool → Option Mapping = λ b. if b then Some mapping else best in
    let starts : Bool → Option Mapping = λ b. if b && is_longer mapping best then Some mapping else best in
    elim (cases_lt (length front) (length mapping.chars)) [
      | inl long ↦
          let at_front : longest_from (better best mapping front) mappings front ≡ longest_from best mappings front = ap (λ b. longest_from (starts b) mappings front) (starts_with-short front mapping.chars long) in
          elim (cases_Bool (starts_with nat_eq whole mapping.chars && is_longer mapping best)) [
            | inl chosen ↦
                let small : mapping_length (longest_from (Some mapping) mappings whole) ≤ length front = subst (λ b. mapping_length (longest_from (chosen_if b) mappings whole) ≤ length front) chosen fits in
                absurd (omega (arith, grows (Some mapping) mappings whole, small, long))
            | inr stays ↦
                let small : mapping_length (longest_from best mappings whole) ≤ length front = subst (λ b. mapping_length (longest_from (chosen_if b) mappings whole) ≤ length front) stays fits in
                ap (λ b. longest_from (chosen_if b) mappings whole) stays ∙ longest_from-front best mappings front back small ∙ sym at_front
          ]
      | inr short ↦
          longest_from-front (better best mapping whole) mappings front back fits
          ∙ ap (λ b. longest_from (starts b) mappings front) (starts_with-front front back mapping.chars short)
    ]

-- ---- what a match leaves

-- a match leaves at least this many characters
pub record Keeps (n : ℕ) (m : Match) : Type 0 where
  pub kept : n ≤ length m.rest

-- at most those that were passed over, and the text
record LeavesUpTo (n : ℕ) (m : Match) : Type 0 where
  fits : length m.rest ≤ n

with_marks-leaves : (mappings : List Mapping) (entry : ℕ) (suffix passed text : List ℕ) → LeavesUpTo (length passed + length text) (with_marks mappings entry suffix passed text)
unfolding with_marks
with_marks-leaves mappings entry suffix passed [] = record { fits = omega arith }
with_marks-leaves mappings entry suffix passed (m ∷ ms) =
    let n = length passed + length (m ∷ ms) in
    let over : LeavesUpTo n (with_marks mappings entry suffix (passed ++ m ∷ []) ms) =
    record { fits = omega (arith, (with_marks-leaves mappings entry suffix (passed ++ m ∷ []) ms).fits, length-append passed (m ∷ [])) } in
    either (LeavesUpTo n) (is_starter m) _ _ (record { fits = simp length-append (omega arith) })
    (either (LeavesUpTo n) (is_blocked passed m) _ _ over
    (maybe_any (LeavesUpTo n) (mapping_entry mappings (suffix ++ m ∷ [])) _ _ (λ joined_to_held. record { fits = omega (arith, (with_marks-leaves mappings joined_to_held (suffix ++ m ∷ []) passed ms).fits) }) over))

-- the match of a context, once its longest mapping is known
abbrev match_by : Context → List ℕ → Option Mapping → Match
match_by context text o = elim o as (λ _. Match) [
  | Some mapping ↦ with_marks context.mappings mapping.entry mapping.chars [] (drop (length mapping.chars) text)
  | None ↦ with_marks context.mappings context.default [] [] text
]

contracted-by : (context : Context) (text : List ℕ) → contracted context text ≡ match_by context text (longest_mapping context.mappings text)
unfolding contracted
contracted-by context text = refl

-- a match that leaves some characters has its longest mapping before them
mapping_before : (context : Context) (text : List ℕ) (n : ℕ) (o : Option Mapping) → Keeps (suc n) (match_by context text o) → mapping_length o + suc n ≤ length text
mapping_before context text n None keeps = omega (arith, keeps.kept, (with_marks-leaves context.mappings context.default [] [] text).fits)
mapping_before context text n (Some mapping) keeps =
    omega (arith, keeps.kept, (with_marks-leaves context.mappings mapping.entry mapping.chars [] (drop (length mapping.chars) text)).fits, length-drop (length mapping.chars) text)

match_by-front : (context : Context) (front : List ℕ) (x : ℕ) (back : List ℕ) (o : Option Mapping) → is_starter x ≡ true → mapping_length o ≤ length front
    → match_by context (front ++ x ∷ back) o ≡ and_then (match_by context front o) (x ∷ back)
match_by-front context front x back None starter fits = with_marks-append context.mappings context.default [] [] front x back starter
match_by-front context front x back (Some mapping) starter fits =
    ap (with_marks context.mappings mapping.entry mapping.chars []) (drop-append-le (length mapping.chars) front (x ∷ back) fits)
    ∙ with_marks-append context.mappings mapping.entry mapping.chars [] (drop (length mapping.chars) front) x back starter

-- where the contraction leaves x and all that follows, it is that of what stands before x
contracted-front : (context : Context) (front : List ℕ) (x : ℕ) (back : List ℕ) → is_starter x ≡ true → Keeps (suc (length back)) (contracted context (front ++ x ∷ back))
    → contracted context (front ++ x ∷ back) ≡ and_then (contracted context front) (x ∷ back)
contracted-front context front x back starter keeps =
    let whole = front ++ x ∷ back in
    let o = longest_mapping context.mappings whole in
    let before = mapping_before context whole (length back) o (subst (Keeps (suc (length back))) (contracted-by context whole) keeps) in
    let fits : mapping_length o ≤ length front = omega (arith, before, length-append front (x ∷ back)) in
    let same = longest_from-front None context.mappings front (x ∷ back) fits in
    contracted-by context whole
    ∙ match_by-front context front x back o starter fits
    ∙ ap (λ o. and_then (match_by context front o) (x ∷ back)) same
    ∙ ap (λ m. and_then m (x ∷ back)) (sym (contracted-by context front))

contraction_under : (P : Match → Type 0) (f : Match → Match) (k : EntryKind) (x x' y y' : Match) → (P x → x ≡ f x') → y ≡ f y' → P (elim k as (λ _. Match) [ Contraction ↦ x | _ ↦ y ])
    → (elim k as (λ _. Match) [ Contraction ↦ x | _ ↦ y ]) ≡ f (elim k as (λ _. Match) [ Contraction ↦ x' | _ ↦ y' ])
contraction_under P f Contraction x x' y y' p q h = p h
contraction_under P f _ x x' y y' p q h = q

-- so is a match
pub match_of-front : (h : HomedEntry) (before front : List ℕ) (x : ℕ) (back : List ℕ) → is_starter x ≡ true → Keeps (suc (length back)) (match_of h before (front ++ x ∷ back))
    → match_of h before (front ++ x ∷ back) ≡ and_then (match_of h before front) (x ∷ back)
unfolding match_from
match_of-front h before front x back starter keeps =
    let entry = after_prefix h before in
    let context = context_of (homed h.home entry) in
    contraction_under (Keeps (suc (length back))) (λ m. and_then m (x ∷ back)) (kind_of entry) _ _ _ _
    (λ kept. contracted-front context front x back starter kept)
    refl
    keeps
