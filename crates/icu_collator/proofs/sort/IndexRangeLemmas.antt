-- The indices before an index, with that one.
use Rattle.std.proofs.Common.{ℕ, zero, suc, ◌≡◌, ◌+◌, [], ◌∷◌, ◌++◌, ap, arith, ◌∙◌}
use Rattle.std.specs.List.{range_with_len}

one_more : (a n j : ℕ) → a + n ≡ j → range_with_len a (suc n) ≡ range_with_len a n ++ j ∷ []
one_more a zero j e = let same : a ≡ j = omega arith in ap (λ k. k ∷ []) same
one_more a (suc n) j e = ap (λ l. a ∷ l) (one_more (a + 1) n j (omega arith))

pub next_index : (n : ℕ) → range_with_len 0 (n + 1) ≡ range_with_len 0 n ++ n ∷ []
next_index n = let one : n + 1 ≡ suc n = omega arith in ap (range_with_len 0) one ∙ one_more 0 n n (omega arith)
