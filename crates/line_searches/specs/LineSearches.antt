-- What is found in a line (UTS #10, "Searching and Matching"). A line is bytes in UTF-8 that may be damaged.
use Rattle.std.specs.Prelude.{ℕ, Bool, true, false, not, List, [], ◌∷◌, encode_utf8_all, length, map, option_to_list}
use Rattle.icu_text_encodings.specs.DecodedTexts.{utf8_text}
use Rattle.icu_search_places.specs.LeastMatches.{Span}
use Rattle.icu_search_places.specs.Searches.{Search, found}
use Rattle.icu_search.specs.Searchers.{search_by, whole_match}
use Rattle.icu_search.specs.TextOffsets.{match_in_units, str_offsets}
use Rattle.line_searches.specs.JoinedMatches.{matches_joined}
use Rattle.line_searches.specs.declared.search_request.MatchKind.{MatchKind}
use Rattle.line_searches.specs.declared.search_request.MatchKind.TheVariants.{Parts, Line}
use Rattle.line_searches.specs.declared.search_request.Wanted.{Wanted}
use Rattle.line_searches.specs.declared.search_request.Wanted.TheVariants.{WithMatch, WithoutMatch}

-- a line in UTF-8, with U+FFFD for each part that is damaged
abbrev pub decoded_line : List ℕ → List ℕ
decoded_line line = encode_utf8_all (utf8_text line)

-- the matches that are found in characters with these bytes, between boundaries of a kind or as a whole, by the bytes
abbrev pub found_by : MatchKind → Search → List ℕ → List ℕ → List Span
found_by (Parts boundary) s text bytes =
    map (match_in_units (str_offsets text)) (found (search_by boundary s (str_offsets text) bytes) text)
found_by Line s text bytes = option_to_list (whole_match s text (length bytes))

-- with matches that were found before, those that are found by further patterns
abbrev pub found_more : MatchKind → List ℕ → List ℕ → List Span → List Search → List Span
found_more kind text bytes found [] = found
found_more kind text bytes found (s ∷ searches) =
    found_more kind text bytes (matches_joined found (found_by kind s text bytes)) searches

-- the matches that are found in a line by some patterns, by the bytes of the decoded line
abbrev pub found_in : MatchKind → List Search → List ℕ → List Span
found_in kind searches line = found_more kind (utf8_text line) (decoded_line line) [] searches

-- whether there are matches
abbrev pub are_some : List Span → Bool
are_some [] = false
are_some (m ∷ ms) = true

-- a line with these matches is wanted
abbrev pub is_line_wanted : Wanted → List Span → Bool
is_line_wanted WithMatch matches = are_some matches
is_line_wanted WithoutMatch matches = not (are_some matches)
