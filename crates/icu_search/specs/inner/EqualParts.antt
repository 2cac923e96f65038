-- Parts that are equal to a pattern.
use Rattle.std.specs.Prelude.{ℕ, Bool, ◌&&◌, List}
use Rattle.std.specs.Ordering.{is_eq}
use Rattle.icu_order_texts.specs.TextOrder.{text_order}
use Rattle.icu_search_places.specs.Searches.{Search}

-- the part is equal to the pattern
abbrev pub equals_pattern : Search → List ℕ → Bool
equals_pattern s part = is_eq (text_order s.collation part s.pattern)

-- a part that ends at this offset is equal to the pattern, and may end there
abbrev pub ends_match : Search → List ℕ → ℕ → Bool
ends_match s part stop = s.allowed stop && equals_pattern s part
