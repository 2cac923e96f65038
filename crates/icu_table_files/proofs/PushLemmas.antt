-- Parts that were pushed one after another.
use Rattle.std.proofs.Common.{◌≡◌, ℕ, List, [], ◌∷◌, ◌++◌, sym, ap, ◌∙◌, append-nil}
use Rattle.std.proofs.lemmas.Grind.{flat_map-append}
use Rattle.icu_table_files.specs.parts.SpeltParts.{bytes_of_part, bytes_of_parts}

pub one_pushed : (done : List (List ℕ)) (p old new : List ℕ) → bytes_of_parts done ≡ old → new ≡ old ++ bytes_of_part p → bytes_of_parts (done ++ p ∷ []) ≡ new
one_pushed done p old new e f =
    flat_map-append bytes_of_part done (p ∷ []) ∙ (ap (λ b. bytes_of_parts done ++ b) (append-nil (bytes_of_part p)) ∙ (ap (λ b. b ++ bytes_of_part p) e ∙ sym f))

-- and more parts behind them
pub extended : (done more : List (List ℕ)) (old tail new : List ℕ) → bytes_of_parts done ≡ old → bytes_of_parts more ≡ tail → new ≡ old ++ tail → bytes_of_parts (done ++ more) ≡ new
extended done more old tail new e f g =
    flat_map-append bytes_of_part done more ∙ (ap (λ b. b ++ bytes_of_parts more) e ∙ (ap (λ b. old ++ b) f ∙ sym g))
