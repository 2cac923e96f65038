-- A part of a list was written back.
use Rattle.std.proofs.Common.{◌≡◌, ◌+◌, ◌-◌, ◌≤◌, ℕ, List, ◌++◌, length, take, drop, sym, ap, ◌∙◌, arith, length-drop}
use Rattle.std.proofs.lemmas.List.{length-take-le}
use Rattle.std.proofs.lemmas.Slice.{take-put_mid, between_is}
use Rattle.std.specs.List.{between}
use Rattle.std.proofs.Math.Seq.{drop-append-add}
use borrow.Rule.Slice.PartMut.{put_mid}

-- it is the part
pub part_written : (xs ys : List ℕ) (from to : ℕ) → from ≤ to → to ≤ length xs → length ys ≡ length (between from to xs)
    → (n : ℕ) → drop (from + n) (take to (put_mid from (to - from) xs ys)) ≡ drop n ys
part_written xs ys from to order inside many n =
    let len_ys : length ys ≡ to - from = many ∙ ap length (between_is xs from to) ∙ length-drop from (take to xs) ∙ ap (λ k. k - from) (length-take-le to xs inside) in
    let front : length (take from xs) ≡ from = length-take-le from xs (omega arith) in
    ap (drop (from + n)) (take-put_mid from (to - from) xs ys to (omega (arith, len_ys)) (omega arith))
    ∙ ap (λ k. drop (k + n) (take from xs ++ ys)) (sym front)
    ∙ drop-append-add (take from xs) ys n

pub all_written : (xs ys : List ℕ) (from to : ℕ) → from ≤ to → to ≤ length xs → length ys ≡ length (between from to xs)
    → drop from (take to (put_mid from (to - from) xs ys)) ≡ ys
all_written xs ys from to order inside many =
    let same : from ≡ from + 0 = omega arith in
    ap (λ n. drop n (take to (put_mid from (to - from) xs ys))) same ∙ part_written xs ys from to order inside many 0
