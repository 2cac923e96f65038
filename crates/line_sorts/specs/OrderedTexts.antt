-- What a writer has of lines that are written to it, which may be stopped.
use Rattle.std.specs.Prelude.{ℕ, List, Option, map, take}
use Rattle.std.specs.Io.KnownBytes.{Appends}
use Rattle.line_sorts.specs.FirstLines.{have_one_key, printed}
use Rattle.line_sorts.specs.InputLines.{ended_lines}
use Rattle.line_sorts.specs.KeyBuffers.{line_bytes, pairs_at, view_of}
use Rattle.line_sorts.specs.declared.keyed_lines.KeyedLines.{KeyedLines}
use Rattle.line_sorts.specs.declared.line_places.LinePlace.{LinePlace}
use Rattle.line_sorts.specs.declared.sort_request.SortRequest.{SortRequest}
use Rattle.line_sorts.specs.declared.ordered_lines.OrderedLines.{OrderedLines}

-- the known bytes of a writer grew by a beginning of the text, which may be none or all of it
abbrev pub WritesBeginning : Option (List ℕ) → Option (List ℕ) → List ℕ → Type 0
WritesBeginning old new text = (n : ℕ) × Appends old new (take n text)

-- the text of the lines at these places, those that a request asks for, each with a separator
abbrev pub ordered_text_at : KeyedLines → List LinePlace → SortRequest → List ℕ
ordered_text_at k places r = ended_lines r.separator (map line_bytes (printed r.repeats have_one_key (pairs_at (view_of k) places)))

-- the text that sorted lines have
abbrev pub ordered_text : OrderedLines → List ℕ
ordered_text s = ordered_text_at s.keyed s.places.items s.request
