-- A part of a list in which the last member was moved to the front.
use Rattle.std.proofs.Common.{◌≡◌, ℕ, ◌+◌, ◌-◌, ◌<◌, ◌≤◌, List, [], ◌∷◌, ◌++◌, length, take, drop, get_or, sym, ap, ap₂, ◌∙◌, arith, length-drop, length-append}
use Rattle.std.proofs.lemmas.List.{take-append-le, take-append-drop, drop-take, drop_more, length-take-le}
use Rattle.std.proofs.Math.Seq.{drop-append-add, take-append_seam}

last_alone : (t : List ℕ) (i : ℕ) → i < length t → drop i (take (i + 1) t) ≡ get_or t i 0 ∷ []
last_alone t i inside = drop-take i 1 t ∙ ap (take 1) (drop_more t i 0 inside)

others_before : (t : List ℕ) (i : ℕ) → i < length t → take i (take (i + 1) t) ≡ take i t
others_before t i inside =
    let long : i ≤ length (take (i + 1) t) = omega (arith, length-take-le (i + 1) t (omega arith)) in
    sym (take-append-le i (take (i + 1) t) (drop (i + 1) t) long) ∙ ap (take i) (take-append-drop (i + 1) t)

-- what is written back over a list of the same length
written : (xs ys : List ℕ) (len : ℕ) → len ≡ length ys → take len (ys ++ drop (length ys) xs) ≡ ys
written xs ys len same = ap (λ k. take k (ys ++ drop (length ys) xs)) same ∙ take-append_seam ys (drop (length ys) xs)

-- what stands after the member that was moved
pub moved_to_front : (xs : List ℕ) (n i len : ℕ) → n + i < length xs → len ≡ length xs → (part new : List ℕ) → part ≡ take (i + 1) (drop n xs) → new ≡ drop (length part - 1) part ++ take (length part - 1) part
    → drop (n + 1) (take len ((take n xs ++ (new ++ drop (i + 1) (drop n xs))) ++ drop (length (take n xs ++ (new ++ drop (i + 1) (drop n xs)))) xs)) ≡ take i (drop n xs) ++ drop (i + 1) (drop n xs)
moved_to_front xs n i len inside whole part new is made =
    let t : List ℕ = drop n xs in
    let rest : List ℕ = drop (i + 1) t in
    let long : length t ≡ length xs - n = length-drop n xs in
    let within : i < length t = omega (arith, long) in
    let part_len : length part ≡ i + 1 = ap length is ∙ length-take-le (i + 1) t (omega arith) in
    let counted : length part - 1 ≡ i = omega (arith, part_len) in
    let turned : new ≡ get_or t i 0 ∷ take i t =
    made ∙ ap (λ k. drop k part ++ take k part) counted ∙ ap (λ p. drop i p ++ take i p) is
    ∙ ap₂ (λ (a b : List ℕ). a ++ b) (last_alone t i within) (others_before t i within) in
    let front : length (take n xs) ≡ n = length-take-le n xs (omega arith) in
    let new_len : length new ≡ i + 1 = omega (arith, ap length turned, length-take-le i t (omega arith)) in
    let all_len : length (take n xs ++ (new ++ rest)) ≡ n + (i + 1 + (length xs - n - (i + 1))) =
    omega (arith, length-append (take n xs) (new ++ rest), length-append new rest, front, new_len, length-drop (i + 1) t, long) in
    ap (drop (n + 1)) (written xs (take n xs ++ (new ++ rest)) len (omega (arith, all_len)))
    ∙ ap (λ k. drop (k + 1) (take n xs ++ (new ++ rest))) (sym front) ∙ drop-append-add (take n xs) (new ++ rest) 1
    ∙ ap (λ (a : List ℕ). drop 1 (a ++ rest)) turned
