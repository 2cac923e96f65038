-- The parts between separators, cut off one by one from the front.
use Rattle.std.proofs.Common.{◌≡◌, ℕ, zero, suc, ◌<◌, ◌==◌, Bool, true, false, Bor, List, [], ◌∷◌, ◌++◌, append_assoc, drop, length, take, refl, sym, ap, ◌∙◌, arith}
use Rattle.std.specs.List.{slice_split}
use Rattle.std.specs.Prelude.{slice_index}
use Rattle.memchr.specs.Find.{NoneBefore, Nowhere, Passes, is_byte}
use Rattle.line_sorts.specs.ShownLines.{shown_lines}

never : (b : Bool) → ¬ (b ≡ true) → b ≡ false
never true h = absurd (h refl)
never false h = refl

-- up to the first separator
cut_first : (s : ℕ) (bytes : List ℕ) (k : ℕ) → k < length bytes → ((i : ℕ) → i < k → (slice_index bytes i == s) ≡ false)
    → (slice_index bytes k == s) ≡ true → slice_split (λ b. b == s) bytes ≡ take k bytes ∷ slice_split (λ b. b == s) (drop 1 (drop k bytes))
cut_first s [] k low before here = absurd (omega (arith, low))
cut_first s (b ∷ bs) zero low before here = rw here refl
cut_first s (b ∷ bs) (suc k) low before here =
    rw (before 0 (omega arith)) (rw (cut_first s bs k (omega (arith, low)) (λ i h. before (suc i) (omega (arith, h))) here) refl)

-- where there is none
cut_last : (s : ℕ) (bytes : List ℕ) → ((i : ℕ) → i < length bytes → (slice_index bytes i == s) ≡ false) → slice_split (λ b. b == s) bytes ≡ bytes ∷ []
cut_last s [] none = refl
cut_last s (b ∷ bs) none = rw (none 0 (omega arith)) (rw (cut_last s bs (λ i h. none (suc i) (omega (arith, h)))) refl)

shown_more : (parts : List (Bor (List ℕ))) (part : Bor (List ℕ)) → shown_lines (parts ++ part ∷ []) ≡ shown_lines parts ++ part.now ∷ []
shown_more [] part = refl
shown_more (p ∷ ps) part = ap (λ ls. p.now ∷ ls) (shown_more ps part)

module _ (s : ℕ) (parts : List (Bor (List ℕ))) (part : Bor (List ℕ)) (rest bytes : List ℕ) where
  -- one part more
  pub one_part : (k : ℕ) (behind : List ℕ) → shown_lines parts ++ slice_split (λ b. b == s) rest ≡ slice_split (λ b. b == s) bytes
      → NoneBefore (Passes (is_byte s) rest) 0 (length rest) k × Passes (is_byte s) rest k → part.now ≡ take k rest → behind ≡ drop 1 (drop k rest)
      → shown_lines (parts ++ part ∷ []) ++ slice_split (λ b. b == s) behind ≡ slice_split (λ b. b == s) bytes
  one_part k behind so_far found here left =
      let cut = cut_first s rest k found.0.high (λ i h. never (slice_index rest i == s) (found.0.before i (omega arith) h)) found.1 in
      let last : part.now ∷ slice_split (λ b. b == s) behind ≡ slice_split (λ b. b == s) rest = rw (here, left) (sym cut) in
      ap (λ ls. ls ++ slice_split (λ b. b == s) behind) (shown_more parts part)
      ∙ (append_assoc (shown_lines parts) (part.now ∷ []) (slice_split (λ b. b == s) behind)
      ∙ (ap (λ ls. shown_lines parts ++ ls) last ∙ so_far))

  -- the last part
  pub last_part : shown_lines parts ++ slice_split (λ b. b == s) rest ≡ slice_split (λ b. b == s) bytes → Nowhere (Passes (is_byte s) rest) 0 (length rest)
      → part.now ≡ rest → shown_lines (parts ++ part ∷ []) ≡ slice_split (λ b. b == s) bytes
  last_part so_far none here =
      shown_more parts part ∙ (ap (λ l. shown_lines parts ++ l ∷ []) here
      ∙ (ap (λ ls. shown_lines parts ++ ls) (sym (cut_last s rest (λ i h. never (slice_index rest i == s) (none i (omega arith) h)))) ∙ so_far))
