-- What lines are sorted by.
use Rattle.std.specs.Prelude.{◌≡◌, ℕ, List, map}
use Rattle.line_sorts.specs.KeyBuffers.{keys_in}
use Rattle.line_sorts.specs.LineFronts.{HaveFronts}
use Rattle.line_sorts.specs.declared.sort_request.Repeats.TheVariants.{All}
use Rattle.line_sorts.specs.declared.sort_request.SortRequest.{SortRequest}
use Rattle.line_commands.specs.declared.sort_by.SortBy.{SortBy}
use Rattle.line_commands.specs.declared.sort_by.SortBy.TheVariants.{Fronts, Keys}

-- these are the keys of lines, or the numbers that they begin with where all lines are asked for
abbrev pub IsOfLines : (List ℕ → List ℕ) → SortRequest → List (List ℕ) → SortBy → Type 0
IsOfLines key r lines (Keys keys) = keys_in keys ≡ map key lines
IsOfLines key r lines (Fronts fronts none) = (r.repeats ≡ All) × HaveFronts key lines fronts.items
