-- Characters that are passed over and taken, by their counts.
use Rattle.std.proofs.Common.{◌≡◌, ◌≤◌, ◌<◌, ◌+◌, ◌-◌, ℕ, zero, suc, List, [], ◌∷◌, ◌++◌, take, drop, length, length-append, get_or, slice_get, option_to_list, Option, Some, None, refl, sym, ap, ◌∙◌, arith}
use Rattle.std.proofs.Math.Seq.{get_or-append_seam}
use Rattle.std.proofs.lemmas.Option.{slice_get_past, slice_get-get_or}
use Rattle.icu_text_decomposition.specs.declared.taking.Taking.{Taking}
use Rattle.icu_text_decomposition.specs.UnreadTexts.{IsUnblocked, without_last}
use Rattle.icu_text_decomposition.specs.inner.Taking.{IsTaking, EndsInList, unread_of, ahead_of, passed_of}
use Rattle.icu_text_decomposition.proofs.LookLemmas.{one_fewer, without_last-is, count_from}
use Rattle.icu_text_decomposition.proofs.BeginningMarkLemmas.{drop_one_more}

-- what was not passed over is all that is still to be read, so nothing was
pub none_over : {T : Type 0} (text : T → List ℕ) (t : Taking T) → ahead_of text t ≡ unread_of text t → passed_of text t ≡ 0
none_over text t same = let lengths = ap length same in omega arith

-- so many characters were passed over
pub counts_over : {T : Type 0} (text : T → List ℕ) (new : Taking T) (unread over : List ℕ) → unread_of text new ≡ unread → unread ≡ over ++ ahead_of text new → passed_of text new ≡ length over
counts_over text new unread over same parted =
    let lengths = ap length (same ∙ parted) ∙ length-append over (ahead_of text new) in omega arith

-- the character that is passed over
pub passes_next : (xs ys zs : List ℕ) (r : Option ℕ) → EndsInList xs ys → ys ≡ option_to_list r ++ zs → (r ≡ None → ys ≡ []) → r ≡ slice_get xs (length xs - length ys)
passes_next xs ys zs None e next end =
    let none : length ys ≡ 0 = ap length (end refl) in
    sym (slice_get_past xs (length xs - length ys) (omega arith))
passes_next xs ys zs (Some c) e next end =
    let n = length xs - length ys in
    let front = take n xs in
    let whole : xs ≡ front ++ c ∷ zs = e ∙ ap (λ l. front ++ l) next in
    let count : n ≡ length front = count_from xs front ys e in
    let lengths = ap length whole ∙ length-append front (c ∷ zs) in
    let inside : n < length xs = omega arith in
    let same : get_or xs n c ≡ c = ap (λ m. get_or xs m c) count ∙ ap (λ l. get_or l (length front) c) whole ∙ get_or-append_seam front c zs c in
    sym (slice_get-get_or xs n c inside ∙ ap Some same)

pub passes_count : (xs ys zs new : List ℕ) (r : Option ℕ) → EndsInList xs ys → ys ≡ option_to_list r ++ zs → new ≡ xs → length new - length zs ≡ (length xs - length ys) + length (option_to_list r)
passes_count xs ys zs new r e next same =
    let whole = ap length e ∙ length-append (take (length xs - length ys) xs) ys in
    let rest = ap length next ∙ length-append (option_to_list r) zs in
    let lengths = ap length same in
    omega arith

-- one fewer is passed over where the last one is taken
pub takes_count : {T : Type 0} (text : T → List ℕ) (old new : Taking T) (mark : ℕ) → IsTaking text old → IsUnblocked (unread_of text old) (passed_of text old) mark
    → unread_of text new ≡ without_last (unread_of text old) (passed_of text old) → ahead_of text new ≡ ahead_of text old → passed_of text new ≡ passed_of text old - 1
takes_count text old new mark taking free unread ahead =
    let end = taking.behind in
    ap (λ l. length (unread_of text new) - length l) ahead
    ∙ one_fewer (unread_of text old) (ahead_of text old) (unread_of text new) mark end free (unread ∙ without_last-is (unread_of text old) (ahead_of text old) end)

-- ---- so many characters are read

pub skips_one : (xs unread rest : List ℕ) (i c : ℕ) → unread ≡ drop i xs → unread ≡ c ∷ rest → rest ≡ drop (i + 1) xs
skips_one xs unread rest i c at next =
    let e : suc i ≡ i + 1 = omega arith in
    sym (drop_one_more i c xs rest (sym at ∙ next)) ∙ ap (λ n. drop n xs) e

dropped_all : (n : ℕ) (xs : List ℕ) → length xs ≤ n → drop n xs ≡ []
dropped_all zero [] le = refl
dropped_all zero (x ∷ xs) le = absurd (omega arith)
dropped_all (suc n) [] le = refl
dropped_all (suc n) (x ∷ xs) le = dropped_all n xs (omega arith)

nothing_dropped : (i : ℕ) (xs : List ℕ) → drop i xs ≡ [] → length xs ≤ i
nothing_dropped zero [] e = omega arith
nothing_dropped zero (x ∷ xs) e = cc
nothing_dropped (suc i) [] e = omega arith
nothing_dropped (suc i) (x ∷ xs) e = let few = nothing_dropped i xs e in omega arith

pub skips_all : (xs unread rest : List ℕ) (i n : ℕ) → unread ≡ drop i xs → unread ≡ [] → unread ≡ [] ++ rest → i ≤ n → rest ≡ drop n xs
skips_all xs unread rest i n at none same le =
    let few = nothing_dropped i xs (sym at ∙ none) in
    sym same ∙ none ∙ sym (dropped_all n xs (omega arith))

pub skips : (xs unread rest : List ℕ) (i : ℕ) (r : Option ℕ) → unread ≡ drop i xs → unread ≡ option_to_list r ++ rest → (r ≡ None → unread ≡ []) → rest ≡ drop (i + 1) xs
skips xs unread rest i None at next end = let more : i ≤ i + 1 = omega arith in skips_all xs unread rest i (i + 1) at (end refl) next more
skips xs unread rest i (Some c) at next end = skips_one xs unread rest i c at next
