-- Starts of headings under keys, in the order of the keys (UTS #10, "Compare Sort Keys").
use Rattle.std.specs.Prelude.{ℕ, Bool, false, ◌||◌, List, [], ◌∷◌, filter, length, map, option_map}
use Rattle.std.specs.Ordering.{is_le}
use Rattle.std.specs.declared.cmp.Ordering.{Ordering}
use Rattle.std.specs.declared.cmp.Ordering.TheVariants.{Less, Equal, Greater}
use Rattle.icu_order_levels.specs.beginnings.KeyBeginnings.{stands_between}
use Rattle.icu_order_levels.specs.ListOrder.{list_order}
use Rattle.icu_index_keys.specs.declared.keyed_starts.starts.KeyBounds.{KeyBounds}
use Rattle.icu_index_keys.specs.declared.keyed_starts.starts.Start.{Start}
use Rattle.icu_index_keys.specs.declared.keyed_starts.keyed_starts.KeyedStarts.{KeyedStarts}

-- a key, the text that has it, and whether that text is the label of the heading that starts there
abbrev pub KeyedStart : Type 0
KeyedStart = List ℕ × List ℕ × Bool

-- a start as code has it
abbrev pub start_of : Start → KeyedStart
start_of s = (s.key.items, s.name.items, s.is_label)

-- a start before or among others, by how the first of those compares with it
abbrev pub placed_by : {X : Type 0} → Ordering → X → X → List X → List X → List X
placed_by Less s x xs more = x ∷ more
placed_by Equal s x xs more = x ∷ xs
placed_by Greater s x xs more = s ∷ x ∷ xs

-- starts with one more: before the first whose key is greater, or last; nothing is put where a key is equal
abbrev pub placed_start : KeyedStart → List KeyedStart → List KeyedStart
placed_start s [] = s ∷ []
placed_start s (x ∷ xs) = placed_by (list_order x.0 s.0) s x xs (placed_start s xs)

-- how many starts have a key that is not greater than this one
abbrev pub starts_up_to : List ℕ → List KeyedStart → ℕ
starts_up_to key starts = length (filter (λ x. is_le (list_order x.0 key)) starts)

-- whether there is a label among starts
abbrev pub has_label : List KeyedStart → Bool
has_label [] = false
has_label (x ∷ xs) = x.2 || has_label xs

-- the starts, in order
abbrev pub starts_in : KeyedStarts → List KeyedStart
starts_in k = map start_of k.starts.items

-- whether a key stands between two bounds
abbrev pub stands_within : KeyBounds → List ℕ → Bool
stands_within b key = stands_between b.lower.now (option_map (λ u. u.now) b.upper) key
