-- Sort keys of lines in one buffer, and lines with them.
use Rattle.std.specs.Prelude.{ℕ, List, [], ◌∷◌, get_or, map}
use Rattle.std.specs.List.{zip}
use Rattle.line_sorts.specs.KeyParts.{key_part}
use Rattle.line_sorts.specs.ShownLines.{shown_lines}
use Rattle.line_sorts.specs.declared.keyed_lines.KeyedLines.{KeyedLines}
use Rattle.line_sorts.specs.declared.line_keys.LineKeys.{LineKeys}
use Rattle.line_sorts.specs.declared.line_places.LinePlace.{LinePlace}

-- the parts of a buffer from a start on, by where they end
abbrev pub keys_cut : ℕ → List ℕ → List ℕ → List (List ℕ)
keys_cut start [] bytes = []
keys_cut start (end ∷ ends) bytes = key_part bytes start end ∷ keys_cut end ends bytes

-- the keys of a buffer
abbrev pub keys_in : LineKeys → List (List ℕ)
keys_in k = keys_cut 0 k.ends.items k.bytes.items

-- the key and the line at an index
pub record LineView : Type 0 where
  pub key_at : ℕ → List ℕ
  pub line_at : ℕ → List ℕ

-- those of lines with keys, the first key that of the first line; nothing where there is none
abbrev pub view_of : KeyedLines → LineView
view_of k = record { key_at = λ i. get_or (keys_in k.keys.now) i []; line_at = λ i. get_or (shown_lines k.lines.now) i [] }

-- those of lines whose keys are functions of them
abbrev pub view_by : (List ℕ → List ℕ) → List (List ℕ) → LineView
view_by key lines = record { key_at = λ i. key (get_or lines i []); line_at = λ i. get_or lines i [] }

-- the line of a key and a line
abbrev pub line_bytes : List ℕ × List ℕ → List ℕ
line_bytes l = l.1

-- lines with their keys, each as a key and a line
abbrev pub keyed_pairs : KeyedLines → List (List ℕ × List ℕ)
keyed_pairs k = zip (keys_in k.keys.now) (shown_lines k.lines.now)

-- the key and the line at a place
abbrev pub place_pair : LineView → LinePlace → List ℕ × List ℕ
place_pair v p = (v.key_at p.index, v.line_at p.index)

-- those at several places
abbrev pub pairs_at : LineView → List LinePlace → List (List ℕ × List ℕ)
pairs_at v places = map (place_pair v) places
