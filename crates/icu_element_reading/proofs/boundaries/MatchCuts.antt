-- Before a starter that no mapping names, a match doesn't look past it.
use Rattle.std.proofs.Common.{◌≡◌, ℕ, zero, suc, true, false, ◌&&◌, ◌==◌, nat_eq, List, [], ◌∷◌, ◌++◌, length, drop, Option, Some, None, if◌then◌else◌, slice_index_or, refl, sym, ap, ◌∙◌, append_assoc, inl, inr}
use Rattle.std.proofs.lemmas.Bool.{cases_Bool, and_left, or_parts, eqb-true, eq-eqb}
use Rattle.std.proofs.lemmas.List.{drop-append-le}
use Rattle.std.specs.List.{starts_with, list_any}
use Rattle.unicode_normalization.specs.Order.{is_starter}
use Rattle.icu_table_entries.specs.declared.entry.EntryKind.TheVariants.{Prefix}
use Rattle.icu_table_entries.specs.Entries.{kind_of, entry_index}
use Rattle.icu_table_data.specs.Data.{Mapping, Context, HomedEntry, homed, mapping_entry, better, is_longer, longest_from, longest_mapping, no_context, context_of}
use Rattle.icu_element_matches.specs.Matches.{Match, after_prefix, is_blocked, with_marks, contracted, match_of, match_from}
use Rattle.icu_element_matches.specs.MatchesAhead.{and_then}
use Rattle.icu_element_matches.proofs.ChoiceLemmas.{either_by, maybe_by, contraction_by}
use Rattle.icu_element_matches.proofs.ReadAheadLemmas.{longest_mapping-fits}
use Rattle.icu_table_provider.specs.well_formed.MappingCharacters.{names, is_named_in, is_named}
use Rattle.icu_element_reading.specs.boundaries.Cuts.{cut}

-- ---- marks

pub with_marks-append : (mappings : List Mapping) (entry : ℕ) (suffix passed text : List ℕ) (x : ℕ) (more : List ℕ) → is_starter x ≡ true → with_marks mappings entry suffix passed (text ++ x ∷ more) ≡ and_then (with_marks mappings entry suffix passed text) (x ∷ more)
unfolding with_marks
with_marks-append mappings entry suffix passed [] x more starter = rw starter
with_marks-append mappings entry suffix passed (m ∷ ms) x more starter =
    let leave : List ℕ → Match = λ r. record { entry = entry; suffix = suffix; rest = r } in
    let over = with_marks-append mappings entry suffix (passed ++ m ∷ []) ms x more starter in
    either_by (λ n. and_then n (x ∷ more)) (is_starter m) _ _ _ _ (ap leave (sym (append_assoc passed (m ∷ ms) (x ∷ more))))
    (either_by (λ n. and_then n (x ∷ more)) (is_blocked passed m) _ _ _ _ over
    (maybe_by (λ n. and_then n (x ∷ more)) (mapping_entry mappings (suffix ++ m ∷ [])) _ _ _ _ (λ j is. with_marks-append mappings j (suffix ++ m ∷ []) passed ms x more starter) over))

-- ---- mappings

is_itself : (x : ℕ) → (x == x) ≡ true
is_itself x = eq-eqb x x refl

pub same_cut : (x : ℕ) (a p q : List ℕ) → cut x p ≡ cut x q → cut x (a ++ p) ≡ cut x (a ++ q)
unfolding cut
same_cut x [] p q h = h
same_cut x (c ∷ a) p q h = ap (λ (l : List ℕ). if c == x then [] else c ∷ l) (same_cut x a p q h)

pub cut-append : (x : ℕ) (a more : List ℕ) → cut x (a ++ x ∷ more) ≡ cut x a
unfolding cut
cut-append x [] more = rw (is_itself x)
cut-append x (c ∷ a) more = ap (λ (l : List ℕ). if c == x then [] else c ∷ l) (cut-append x a more)

-- a mapping that doesn't name x begins a text exactly if it begins what stands before x
starts_with-cut : (x : ℕ) (chars text : List ℕ) → list_any (λ c. c == x) chars ≡ false → starts_with nat_eq text chars ≡ starts_with nat_eq (cut x text) chars
unfolding cut
starts_with-cut x [] text h = refl
starts_with-cut x (y ∷ ys) [] h = refl
starts_with-cut x (y ∷ ys) (c ∷ cs) h =
    let parts = or_parts (y == x) _ h in
    elim (cases_Bool (c == x)) [
      | inl is ↦
          let same : c ≡ x = eqb-true c x is in
          let other : nat_eq y c ≡ false = rw same parts.0 in
          rw is (and_left _ _ other)
      | inr differs ↦ rw differs (ap (λ b. nat_eq y c && b) (starts_with-cut x ys cs parts.1))
    ]

longest_from-cut : (x : ℕ) (best : Option Mapping) (mappings : List Mapping) (text : List ℕ) → list_any (names x) mappings ≡ false → longest_from best mappings text ≡ longest_from best mappings (cut x text)
unfolding longest_from
longest_from-cut x best [] text h = refl
longest_from-cut x best (mapping ∷ mappings) text h =
    let parts = or_parts (names x mapping) _ h in
    longest_from-cut x (better best mapping text) mappings text parts.1
    ∙ ap (λ b. longest_from (if b && is_longer mapping best then Some mapping else best) mappings (cut x text)) (starts_with-cut x mapping.chars text parts.0)

pub longest_mapping-same : (x : ℕ) (mappings : List Mapping) (p q : List ℕ) → list_any (names x) mappings ≡ false → cut x p ≡ cut x q → longest_mapping mappings p ≡ longest_mapping mappings q
longest_mapping-same x mappings p q h same =
    longest_from-cut x None mappings p h ∙ ap (longest_from None mappings) same ∙ sym (longest_from-cut x None mappings q h)

pub longest_mapping-append : (x : ℕ) (mappings : List Mapping) (text more : List ℕ) → list_any (names x) mappings ≡ false → longest_mapping mappings (text ++ x ∷ more) ≡ longest_mapping mappings text
longest_mapping-append x mappings text more h = longest_mapping-same x mappings _ _ h (cut-append x text more)

-- ---- contexts

no_mapping_at : (x i : ℕ) (contexts : List Context) → list_any (is_named_in x) contexts ≡ false → is_named_in x (slice_index_or contexts i no_context) ≡ false
no_mapping_at x i [] h = refl
no_mapping_at x zero (context ∷ contexts) h = (or_parts (is_named_in x context) _ h).0
no_mapping_at x (suc i) (context ∷ contexts) h = no_mapping_at x i contexts (or_parts (is_named_in x context) _ h).1

pub contracted-append : (x : ℕ) (context : Context) (text more : List ℕ) → is_starter x ≡ true → is_named_in x context ≡ false → contracted context (text ++ x ∷ more) ≡ and_then (contracted context text) (x ∷ more)
unfolding contracted
contracted-append x context text more starter unnamed =
    let mappings = context.mappings in
    let with_mapping : List ℕ → Mapping → Match = λ text mapping. with_marks mappings mapping.entry mapping.chars [] (drop (length mapping.chars) text) in
    let without : List ℕ → Match = λ text. with_marks mappings context.default [] [] text in
    ap (λ (o : Option Mapping). elim o as (λ _. Match) [ Some mapping ↦ with_mapping (text ++ x ∷ more) mapping | None ↦ without (text ++ x ∷ more) ]) (longest_mapping-append x mappings text more unnamed)
    ∙ maybe_by (λ n. and_then n (x ∷ more)) (longest_mapping mappings text) (with_mapping (text ++ x ∷ more)) (with_mapping text) (without (text ++ x ∷ more)) (without text)
    (λ mapping is.
    ap (with_marks mappings mapping.entry mapping.chars []) (drop-append-le (length mapping.chars) text (x ∷ more) (longest_mapping-fits mappings text mapping is))
    ∙ with_marks-append mappings mapping.entry mapping.chars [] (drop (length mapping.chars) text) x more starter)
    (with_marks-append mappings context.default [] [] text x more starter)

pub after_prefix-same : (x : ℕ) (h : HomedEntry) (p q : List ℕ) → is_named x h.home ≡ false → cut x p ≡ cut x q → after_prefix h p ≡ after_prefix h q
unfolding after_prefix
after_prefix-same x h p q unnamed same =
    let context = context_of h in
    let of_mapping : Option Mapping → ℕ = λ o. elim o [ Some mapping ↦ mapping.entry | None ↦ context.default ] in
    ap (λ (o : Option Mapping). elim (kind_of h.entry) [ Prefix ↦ of_mapping o | _ ↦ h.entry ])
    (longest_mapping-same x context.mappings p q (no_mapping_at x (entry_index h.entry) h.home.contexts unnamed) same)

pub match_of-append : (x : ℕ) (h : HomedEntry) (before text more : List ℕ) → is_starter x ≡ true → is_named x h.home ≡ false → match_of h before (text ++ x ∷ more) ≡ and_then (match_of h before text) (x ∷ more)
unfolding match_from
match_of-append x h before text more starter unnamed =
    let entry = after_prefix h before in
    let context = context_of (homed h.home entry) in
    contraction_by (λ n. and_then n (x ∷ more)) (kind_of entry) _ _ _ _
    (λ is. contracted-append x context text more starter (no_mapping_at x (entry_index entry) h.home.contexts unnamed))
    refl

pub match_of-same : (x : ℕ) (h : HomedEntry) (p q text : List ℕ) → is_named x h.home ≡ false → cut x p ≡ cut x q → match_of h p text ≡ match_of h q text
match_of-same x h p q text unnamed same = ap (λ entry. match_from h.home entry text) (after_prefix-same x h p q unnamed same)
