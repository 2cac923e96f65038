-- How lines that are wanted are printed.
use Rattle.std.specs.Prelude.{ℕ, ◌+◌, ◌-◌, ◌==◌, nat_lt, min, Bool, true, false, List, [], ◌∷◌, ◌++◌, if◌then◌else◌, filter, length}
use Rattle.std.specs.Fmt.{decimal}
use Rattle.icu_search_places.specs.LeastMatches.{Span}
use Rattle.icu_search_places.specs.Searches.{Search}
use Rattle.line_searches.specs.LineSearches.{decoded_line, found_in, is_line_wanted}
use Rattle.line_searches.specs.LineSpots.{spot_after, spot_of_match}
use Rattle.line_searches.specs.ShownMatches.{bytes_between, coloured, coloured_from, cyan, green, painted}
use Rattle.line_searches.specs.declared.search_request.LineSpot.{LineSpot}
use Rattle.line_searches.specs.declared.search_request.SearchRequest.{SearchRequest}
use Rattle.line_searches.specs.declared.search_request.Shown.{Shown}
use Rattle.line_searches.specs.declared.search_request.Shown.TheVariants as shows

-- whether there are colours
abbrev pub is_coloured : Shown → Bool
is_coloured shows.ColouredLine = true
is_coloured shows.ColouredMatches = true
is_coloured _ = false

-- a number of a line and a byte behind it, if that is asked for
abbrev pub number_before : SearchRequest → Bool → ℕ → ℕ → List ℕ
number_before r is_asked mark number =
    if is_asked then painted (is_coloured r.shown) green (decimal number) ++ painted (is_coloured r.shown) cyan (mark ∷ []) else []

-- the number of a line, and how many bytes stand before it, with a byte behind each, as far as they are asked for
abbrev pub spot_before : SearchRequest → ℕ → LineSpot → List ℕ
spot_before r mark spot = number_before r r.is_numbered mark spot.number ++ number_before r r.has_offsets mark spot.offset

-- a printed line: what stands before it, maybe its number and where it stands, bytes, and what ends it
abbrev pub printed_line : SearchRequest → LineSpot → List ℕ → List ℕ
printed_line r spot bytes = r.prefix.now ++ (spot_before r 58 spot ++ (bytes ++ r.separator ∷ []))

-- a line near one that is wanted as it is printed: not at all, if matches alone are
abbrev pub line_beside : Shown → SearchRequest → LineSpot → List ℕ → List ℕ
line_beside shows.Matches r spot line = []
line_beside shows.ColouredMatches r spot line = []
line_beside _ r spot line = r.beside.now ++ (spot_before r 45 spot ++ (line ++ r.separator ∷ []))

-- a match as it is shown, by itself
abbrev pub match_text : Shown → List ℕ → List ℕ
match_text shows.ColouredMatches bytes = coloured bytes
match_text _ bytes = bytes

-- a match on a line of its own, unless it is empty
abbrev pub match_line : SearchRequest → LineSpot → List ℕ → Span → List ℕ
match_line r spot decoded m =
    if nat_lt m.start m.stop then printed_line r (spot_of_match spot m) (match_text r.shown (bytes_between decoded m.start m.stop)) else []

-- the matches of a line so
abbrev pub match_lines : SearchRequest → LineSpot → List ℕ → List Span → List ℕ
match_lines r spot decoded [] = []
match_lines r spot decoded (m ∷ ms) = match_line r spot decoded m ++ match_lines r spot decoded ms

-- a line with matches as it is printed
abbrev pub shown_with : Shown → SearchRequest → LineSpot → List ℕ → List Span → List ℕ
shown_with shows.Line r spot line matches = printed_line r spot line
shown_with shows.ColouredLine r spot line matches = printed_line r spot (coloured_from (decoded_line line) 0 matches)
shown_with shows.Matches r spot line matches = match_lines r spot (decoded_line line) matches
shown_with shows.ColouredMatches r spot line matches = match_lines r spot (decoded_line line) matches

-- a line with these matches as it is printed, if it is wanted
abbrev pub shown_if_wanted : SearchRequest → LineSpot → List ℕ → List Span → List ℕ
shown_if_wanted r spot line matches = if is_line_wanted r.wanted matches then shown_with r.shown r spot line matches else []

-- whether a request wants a line
abbrev pub wants : SearchRequest → List Search → List ℕ → Bool
wants r s line = is_line_wanted r.wanted (found_in r.kind s line)

-- a line as it is printed, if it is wanted and so many are, at most, from it on
abbrev pub shown_next : SearchRequest → List Search → ℕ → LineSpot → List ℕ → List ℕ
shown_next r s left spot line = if left == 0 then [] else shown_if_wanted r spot line (found_in r.kind s line)

-- how many are wanted after it
abbrev pub wanted_left : SearchRequest → List Search → ℕ → List ℕ → ℕ
wanted_left r s left line = if wants r s line then left - 1 else left

-- the first lines that are wanted, at most so many, as they are printed, if the first line of all stands here
abbrev pub wanted_from : SearchRequest → List Search → ℕ → LineSpot → List (List ℕ) → List ℕ
wanted_from r s left spot [] = []
wanted_from r s left spot (line ∷ lines) =
    shown_next r s left spot line ++ wanted_from r s (wanted_left r s left line) (spot_after spot line) lines

-- all of them
abbrev pub wanted_lines : SearchRequest → List Search → List (List ℕ) → List ℕ
wanted_lines r s lines = wanted_from r s r.at_most r.first lines

-- how many they are
abbrev pub wanted_count : SearchRequest → List Search → List (List ℕ) → ℕ
wanted_count r s lines = min r.at_most (length (filter (wants r s) lines))

-- a number behind what stands before it, with a line feed
abbrev pub count_text : List ℕ → ℕ → List ℕ
count_text prefix count = prefix ++ (decimal count ++ 10 ∷ [])
