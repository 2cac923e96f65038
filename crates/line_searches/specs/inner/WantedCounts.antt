-- How many lines are wanted, line by line.
use Rattle.std.specs.Prelude.{ℕ, ◌+◌, nat_lt, List, [], ◌∷◌, ◌&&◌, if◌then◌else◌, get_or}
use Rattle.icu_search_places.specs.Searches.{Search}
use Rattle.line_searches.specs.WantedLines.{wants}
use Rattle.line_searches.specs.declared.near_lines.WantedCounts.{WantedCounts}
use Rattle.line_searches.specs.declared.search_request.SearchRequest.{SearchRequest}

-- after so many, how many they are with a further line
abbrev pub count_after : SearchRequest → List Search → ℕ → List ℕ → ℕ
count_after r s count line = if nat_lt count r.at_most && wants r s line then count + 1 else count

-- before each line, how many they are
abbrev pub counts_from : SearchRequest → List Search → ℕ → List (List ℕ) → List ℕ
counts_from r s count [] = []
counts_from r s count (line ∷ lines) = count ∷ counts_from r s (count_after r s count line) lines

-- and after the last
abbrev pub count_behind : SearchRequest → List Search → ℕ → List (List ℕ) → ℕ
count_behind r s count [] = count
count_behind r s count (line ∷ lines) = count_behind r s (count_after r s count line) lines

-- by such numbers, how many of the first lines are wanted
abbrev pub count_before : WantedCounts → ℕ → ℕ
count_before c n = get_or c.before.items n c.total
