-- The laws of sinks that append (`list_effects`).
use Rattle.std.proofs.Common.{◌≡◌, ℕ, List, [], ◌++◌, refl, sym, ap, ◌∙◌, append_assoc}
use Rattle.std.proofs.lemmas.List.{append-nil}
use Rattle.icu_key_writers.specs.Sinks.{TakesBeginning}

-- nothing is appended where nothing changes
pub appended_nothing : (xs : List ℕ) → xs ≡ xs ++ []
appended_nothing xs = sym (append-nil xs)

-- bytes that are appended one after another are appended
pub appended_both : (xs ys zs b c : List ℕ) → ys ≡ xs ++ b → zs ≡ ys ++ c → zs ≡ xs ++ (b ++ c)
appended_both xs ys zs b c p q = q ∙ ap (λ l. l ++ c) p ∙ append_assoc xs b c

-- a refused write that changed nothing took the empty beginning
pub refused_beginning : (xs ys b : List ℕ) → ys ≡ xs → TakesBeginning (λ front. ys ≡ xs ++ front) b
refused_beginning xs ys b p = record { front = []; rest = b; splits = refl; taken = p ∙ sym (append-nil xs) }
