-- Parts of a text with whose characters no match begins, wherever they stand.
use Rattle.std.specs.Prelude.{◌≡◌, ◌⊎◌, ℕ, ◌+◌, ◌<◌, ◌≤◌, true, false, slice_index_or, List, [], ◌∷◌, ◌++◌, length, take, slice_range}
use Rattle.icu_search_places.specs.declared.barren_part.BarrenPart.{BarrenPart}
use Rattle.icu_search_places.specs.PieceLaws.{BeginsPieces}
use Rattle.icu_search_places.specs.SearchPlaces.{is_place}
use Rattle.icu_search_places.specs.Searches.{Search, is_match}
use Rattle.icu_order_texts.specs.TextOrder.{reading_by}
use Rattle.icu_search.specs.SearchedTexts.{searched_in, text_searched}
use Rattle.icu_search.specs.declared.searched_text.SearchedText.{SearchedText}
use Rattle.icu_search.specs.inner.EqualParts.{equals_pattern}

-- a text has no characters, or begins with one before which texts may be cut
abbrev pub GoesOnAtCut : Search → List ℕ → Type 0
GoesOnAtCut s tail = (tail ≡ []) ⊎ ((x : ℕ) × (xs : List ℕ) × (tail ≡ x ∷ xs) × BeginsPieces (reading_by s.collation) x)

-- whatever follows these characters, if the text may be cut behind them, no part from them on is equal to the pattern
abbrev pub NoneBegins : Search → List ℕ → Type 0
NoneBegins s front =
    (tail : List ℕ) → GoesOnAtCut s tail → (k : ℕ) → 0 < k → k ≤ length (front ++ tail)
    → is_place (reading_by s.collation) (front ++ tail) k ≡ true → equals_pattern s (take k (front ++ tail)) ≡ false

-- from an offset on, up to before another one, each character stands so many characters before the same one
abbrev pub Repeats : List ℕ → ℕ → ℕ → ℕ → Type 0
Repeats text start step reach =
    (i : ℕ) → start ≤ i → i + step < reach → slice_index_or text (i + step) 0 ≡ slice_index_or text i 0

-- so it is of a part of the text
pub record IsBarrenWithin (s : Search) (text : List ℕ) (part : BarrenPart) : Type 0 where
  pub some : part.start < part.stop
  pub within : part.stop ≤ length text
  pub none : NoneBegins s (slice_range text part.start part.stop)
  pub repeats : Repeats text part.start part.step part.reach

-- from an offset on, no match begins that isn't empty
abbrev pub NoneFrom : Search → List ℕ → ℕ → Type 0
NoneFrom s text start = (k stop : ℕ) → start ≤ k → k < stop → stop ≤ length text → is_match s text k stop ≡ false

-- a part that ends behind the text's end says that none begins from its start on
abbrev pub IsBarren : Search → List ℕ → BarrenPart → Type 0
IsBarren s text part = IsBarrenWithin s text part ⊎ ((length text < part.stop) × NoneFrom s text part.start)

-- of the text that is searched
abbrev pub is_barren_in : SearchedText → BarrenPart → Type 0
is_barren_in t = IsBarren (searched_in t) (text_searched t)
