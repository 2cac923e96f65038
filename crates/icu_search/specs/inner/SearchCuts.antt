-- Where a text is cut: what stands before an offset and what stands from there on may be searched each by itself.
use Rattle.std.specs.Prelude.{◌≡◌, ◌⊎◌, ℕ, ◌≤◌, List, ◌∷◌, ◌++◌, length, slice_range}
use Rattle.icu_element_reading.specs.TextElements.{Reading}
use Rattle.icu_search_places.specs.PieceLaws.{BeginsPieces}

-- a piece begins with the character at the offset
pub record CutsAt (reading : Reading) (text : List ℕ) (offset : ℕ) : Type 0 where
  pub front : List ℕ
  pub char : ℕ
  pub tail : List ℕ
  pub text_is : text ≡ front ++ char ∷ tail
  pub offset_is : length front ≡ offset
  pub begins : BeginsPieces reading char

-- a piece begins there, or the text
abbrev pub BeginsPieceAt : Reading → List ℕ → ℕ → Type 0
BeginsPieceAt reading text offset = (offset ≡ 0) ⊎ CutsAt reading text offset

-- a piece ends there, or the text
abbrev pub EndsPieceAt : Reading → List ℕ → ℕ → Type 0
EndsPieceAt reading text offset = (offset ≡ length text) ⊎ CutsAt reading text offset

-- a part from an offset on, up to the end of a piece, no earlier than another offset
pub record IsPieceFrom (reading : Reading) (text : List ℕ) (start last : ℕ) (part : List ℕ) : Type 0 where
  pub stop : ℕ
  pub reaches : last ≤ stop
  pub within : stop ≤ length text
  pub ends : EndsPieceAt reading text stop
  pub part_is : part ≡ slice_range text start stop
