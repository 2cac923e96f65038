-- A text has nothing alike with an empty one.
use Rattle.std.proofs.Common.{◌≡◌, ℕ, List, [], ◌∷◌, refl}
use Rattle.icu_order_texts.specs.level_weights.CommonWeights.{common_length}

pub none_alike : (cs : List ℕ) → common_length cs [] ≡ 0
none_alike [] = refl
none_alike (c ∷ cs) = refl
