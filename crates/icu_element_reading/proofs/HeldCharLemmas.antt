-- The characters that a source holds.
use Rattle.std.proofs.Common.{◌≡◌, ℕ, List, [], ◌∷◌, ◌++◌, ap, ◌∙◌, arith, append_assoc}
use Rattle.unicode_normalization.specs.Order.{canonical_order}
use Rattle.unicode_normalization.proofs.Steps.ReorderLemmas.{out-empty}
use Rattle.icu_element_reading.specs.declared.decomposed_source.held_chars.HeldChars.{HeldChars}
use Rattle.icu_element_reading.specs.inner.HeldChars.{held_before, held_count, PassesOn}

-- where none is held, what comes is put in order
pub held_before-empty : (h : HeldChars) (rest : List ℕ) → held_count h ≡ 0 → held_before h rest ≡ canonical_order rest
unfolding held_before
held_before-empty h rest none = out-empty h.chars.items h.next h.ready rest (omega (arith, h.chars.ok.0)) h.taken

-- one more went in
pub PassesOn-more : (a b c : HeldChars) (xs : List ℕ) (x : ℕ) → PassesOn a xs [] b → PassesOn b (x ∷ []) [] c → PassesOn a (xs ++ x ∷ []) [] c
PassesOn-more a b c xs x first second =
    record { at = λ rest. ap (held_before a) (append_assoc xs (x ∷ []) rest) ∙ first.at (x ∷ rest) ∙ second.at rest }
