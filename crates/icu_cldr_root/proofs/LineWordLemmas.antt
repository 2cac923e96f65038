-- The words of a text, one by one.
use Rattle.std.proofs.Common.{◌≡◌, ℕ, List, [], ◌∷◌, ◌++◌, subst, sym, ap, ◌∙◌, append_assoc}
use Rattle.std.proofs.lemmas.List.{append-nil}
use Rattle.icu_cldr_root.specs.Words.{IsBlankText, BeginsWithWord, WordsWrite, NextByte, WriteBytes}

-- the first word writes one value, and the others the others
pub write_first : {A : Type 0} (Writes : List ℕ → A → Type 0) (text word rest : List ℕ) (x : A) (xs : List A)
    → BeginsWithWord text word rest → Writes word x → WordsWrite Writes rest xs → WordsWrite Writes text (x ∷ xs)
unfolding WordsWrite
write_first Writes text word rest x xs begins writes more = (word, rest, begins, writes, more)

-- no word writes no value
pub write_nothing : {A : Type 0} (Writes : List ℕ → A → Type 0) (text : List ℕ) → IsBlankText text → WordsWrite Writes text []
unfolding WordsWrite
write_nothing Writes text blank = blank

-- one word more was read
pub write_more : {A : Type 0} (Writes : List ℕ → A → Type 0) (all text word rest : List ℕ) (done new : List A) (x : A)
    → new ≡ done ++ x ∷ [] → BeginsWithWord text word rest → Writes word x
    → ((more : List A) → WordsWrite Writes text more → WordsWrite Writes all (done ++ more))
    → (more : List A) → WordsWrite Writes rest more → WordsWrite Writes all (new ++ more)
write_more Writes all text word rest done new x added begins writes before more left =
    subst (WordsWrite Writes all) (sym (ap (λ n. n ++ more) added ∙ append_assoc done (x ∷ []) more))
    (before (x ∷ more) (write_first Writes text word rest x more begins writes left))

-- no word is left
pub write_end : {A : Type 0} (Writes : List ℕ → A → Type 0) (all text : List ℕ) (done : List A)
    → IsBlankText text → ((more : List A) → WordsWrite Writes text more → WordsWrite Writes all (done ++ more))
    → WordsWrite Writes all done
write_end Writes all text done blank before =
    subst (WordsWrite Writes all) (append-nil done) (before [] (write_nothing Writes text blank))

-- two bytes
pub two_bytes : (text second end : List ℕ) (a b : ℕ) → NextByte text a second → NextByte second b end → IsBlankText end
    → WriteBytes text (a ∷ b ∷ [])
unfolding WriteBytes
two_bytes text second end a b p q blank = (second, p, (end, q, blank))

-- four bytes
pub four_bytes : (text second third fourth end : List ℕ) (a b c d : ℕ) → NextByte text a second → NextByte second b third
    → NextByte third c fourth → NextByte fourth d end → IsBlankText end → WriteBytes text (a ∷ b ∷ c ∷ d ∷ [])
unfolding WriteBytes
four_bytes text second third fourth end a b c d p q r s blank = (second, p, (third, q, (fourth, r, (end, s, blank))))
