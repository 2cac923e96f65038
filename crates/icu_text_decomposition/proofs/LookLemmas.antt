-- Characters that are passed over, and the mark that was passed over last.
use Rattle.std.proofs.Common.{◌≡◌, ◌≤◌, ◌<◌, ◌+◌, ◌-◌, ℕ, List, [], ◌∷◌, ◌++◌, take, drop, length, length-append, refl, sym, ap, ◌∙◌, arith, append_assoc}
use Rattle.std.proofs.Math.Seq.{take-append_seam, drop-append_seam}
use Rattle.std.proofs.lemmas.List.{take_more}
use Rattle.std.proofs.lemmas.Option.{get_or_from_slice_get, slice_get_within}
use Rattle.icu_text_decomposition.specs.UnreadTexts.{IsUnblocked, without_last}
use Rattle.icu_text_decomposition.specs.inner.Taking.{EndsInList}

-- ---- ends of lists

pub count_from : (xs init ys : List ℕ) → xs ≡ init ++ ys → length xs - length ys ≡ length init
count_from xs init ys e = let lengths = ap length e ∙ length-append init ys in omega arith

pub front_from : (xs init ys : List ℕ) → xs ≡ init ++ ys → take (length xs - length ys) xs ≡ init
front_from xs init ys e = ap (λ n. take n xs) (count_from xs init ys e) ∙ ap (take (length init)) e ∙ take-append_seam init ys

pub end_from : (xs init ys : List ℕ) → xs ≡ init ++ ys → EndsInList xs ys
end_from xs init ys e = e ∙ ap (λ l. l ++ ys) (sym (front_from xs init ys e))

pub end_itself : (xs : List ℕ) → EndsInList xs xs
end_itself xs = end_from xs [] xs refl

pub end_drop : (xs ys : List ℕ) → EndsInList xs ys → drop (length xs - length ys) xs ≡ ys
end_drop xs ys e =
    let n = length xs - length ys in
    ap (λ m. drop m xs) (count_from xs (take n xs) ys e) ∙ ap (drop (length (take n xs))) e ∙ drop-append_seam (take n xs) ys

pub end_rest : (xs ys : List ℕ) (c : ℕ) (zs : List ℕ) → EndsInList xs ys → ys ≡ c ∷ zs → xs ≡ (take (length xs - length ys) xs ++ c ∷ []) ++ zs
end_rest xs ys c zs e is = e ∙ ap (λ l. take (length xs - length ys) xs ++ l) is ∙ sym (append_assoc (take (length xs - length ys) xs) (c ∷ []) zs)

-- ---- the mark that was passed over last

pub parted_at_last : (xs ys : List ℕ) (mark : ℕ) → EndsInList xs ys → IsUnblocked xs (length xs - length ys) mark → xs ≡ take ((length xs - length ys) - 1) xs ++ mark ∷ ys
parted_at_last xs ys mark e free =
    let n = length xs - length ys in
    let some = free.some in
    let inside = slice_get_within xs (n - 1) mark free.last in
    let count : (n - 1) + 1 ≡ n = omega arith in
    let last = take_more xs (n - 1) mark inside ∙ ap (λ c. take (n - 1) xs ++ c ∷ []) (get_or_from_slice_get xs (n - 1) mark mark free.last) in
    e ∙ ap (λ m. take m xs ++ ys) (sym count) ∙ ap (λ l. l ++ ys) last ∙ append_assoc (take (n - 1) xs) (mark ∷ []) ys

pub without_last-is : (xs ys : List ℕ) → EndsInList xs ys → without_last xs (length xs - length ys) ≡ take ((length xs - length ys) - 1) xs ++ ys
without_last-is xs ys e = ap (λ l. take ((length xs - length ys) - 1) xs ++ l) (end_drop xs ys e)

-- so many fewer are passed over
pub one_fewer : (xs ys new : List ℕ) (mark : ℕ) → EndsInList xs ys → IsUnblocked xs (length xs - length ys) mark → new ≡ take ((length xs - length ys) - 1) xs ++ ys
    → length new - length ys ≡ (length xs - length ys) - 1
one_fewer xs ys new mark e free is =
    let n = length xs - length ys in
    let whole = ap length (parted_at_last xs ys mark e free) ∙ length-append (take (n - 1) xs) (mark ∷ ys) in
    count_from new (take (n - 1) xs) ys is ∙ (let fewer : length (take (n - 1) xs) ≡ n - 1 = omega arith in fewer)
