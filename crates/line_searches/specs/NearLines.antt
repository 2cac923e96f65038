-- The lines that are wanted, with those near them, as grep prints them by -A, -B and -C: by how many of the first lines
-- are wanted.
use Rattle.std.specs.Prelude.{ℕ, ◌+◌, ◌-◌, nat_lt, Bool, not, List, [], ◌∷◌, ◌++◌, ◌&&◌, ◌||◌, if◌then◌else◌, take}
use Rattle.icu_search_places.specs.Searches.{Search}
use Rattle.line_searches.specs.LineSearches.{found_in}
use Rattle.line_searches.specs.LineSpots.{spot_after}
use Rattle.line_searches.specs.ShownMatches.{cyan, painted}
use Rattle.line_searches.specs.WantedLines.{is_coloured, line_beside, shown_with, wanted_count, wanted_lines}
use Rattle.line_searches.specs.declared.search_request.LineSpot.{LineSpot}
use Rattle.line_searches.specs.declared.search_request.SearchRequest.{SearchRequest}

-- how many of the first lines are wanted, by their number
abbrev pub wanted_before : SearchRequest → List Search → List (List ℕ) → ℕ → ℕ
wanted_before r s lines n = wanted_count r s (take n lines)

-- a line that so many others stand before is wanted
abbrev pub is_wanted_at : (ℕ → ℕ) → ℕ → Bool
is_wanted_at wanted i = nat_lt (wanted i) (wanted (i + 1))

-- one is wanted that stands so few lines before it or after it at most, or it is
abbrev pub is_near : (ℕ → ℕ) → SearchRequest → ℕ → Bool
is_near wanted r i = nat_lt (wanted (i - r.after)) (wanted (i + 1 + r.before))

-- the line before it isn't printed, but an earlier one was, maybe of another input
abbrev pub starts_group : (ℕ → ℕ) → SearchRequest → ℕ → Bool
starts_group wanted r i = (r.follows || nat_lt 0 (wanted i)) && not (nat_lt 0 i && is_near wanted r (i - 1))

-- what stands between groups of lines
abbrev pub group_mark : SearchRequest → List ℕ
group_mark r = painted (is_coloured r.shown) cyan (45 ∷ 45 ∷ []) ++ 10 ∷ []

-- that, before a line that begins a group
abbrev pub group_before : (ℕ → ℕ) → SearchRequest → ℕ → List ℕ
group_before wanted r i = if starts_group wanted r i then group_mark r else []

-- a line that is printed
abbrev pub line_near : (ℕ → ℕ) → SearchRequest → List Search → ℕ → LineSpot → List ℕ → List ℕ
line_near wanted r s i spot line =
    if is_wanted_at wanted i then shown_with r.shown r spot line (found_in r.kind s line) else line_beside r.shown r spot line

-- a line as it is printed, if it is
abbrev pub near_line : (ℕ → ℕ) → SearchRequest → List Search → ℕ → LineSpot → List ℕ → List ℕ
near_line wanted r s i spot line = if is_near wanted r i then group_before wanted r i ++ line_near wanted r s i spot line else []

-- lines as they are printed, if so many stand before the first, and it stands here
abbrev pub near_from : (ℕ → ℕ) → SearchRequest → List Search → ℕ → LineSpot → List (List ℕ) → List ℕ
near_from wanted r s i spot [] = []
near_from wanted r s i spot (line ∷ lines) = near_line wanted r s i spot line ++ near_from wanted r s (i + 1) (spot_after spot line) lines

-- the lines that are wanted and those near them
abbrev pub near_lines : SearchRequest → List Search → List (List ℕ) → List ℕ
near_lines r s lines = near_from (wanted_before r s lines) r s 0 r.first lines

-- what is printed of lines
abbrev pub printed_lines : SearchRequest → List Search → List (List ℕ) → List ℕ
printed_lines r s lines = if r.is_grouped then near_lines r s lines else wanted_lines r s lines
