-- What a part of the reading took from a text: what it left is what follows the part.
use Rattle.std.specs.Prelude.{◌≡◌, ℕ, List, [], ◌∷◌, ◌++◌}
use Rattle.icu_cldr_files.specs.index_labels.WrittenLabels.{WritesCharacter, WritesLabel}

-- the text is a character as it is written, and the rest
pub record TakesCharacter (text : List ℕ) (c : ℕ) (rest : List ℕ) : Type 0 where
  pub mine : List ℕ
  pub writes : WritesCharacter c mine
  pub text_is : text ≡ mine ++ rest

-- the text is a label as it is written, and the rest; the label is pushed
pub record PushesLabel (text rest : List ℕ) (before after : List (List ℕ)) : Type 0 where
  pub mine : List ℕ
  pub label : List ℕ
  pub writes : WritesLabel label mine
  pub text_is : text ≡ mine ++ rest
  pub after_is : after ≡ before ++ label ∷ []
