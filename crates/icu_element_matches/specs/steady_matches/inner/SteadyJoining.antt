-- Marks that join a match.
use Rattle.std.specs.Prelude.{ℕ, List, take, drop}
use Rattle.icu_table_data.specs.Data.{Mapping}
use Rattle.icu_element_matches.specs.Matches.{Match, with_marks}
use Rattle.icu_element_matches.specs.declared.steady_matches.steady_match.SteadyMatch.{SteadyMatch}

-- the match that it becomes by the marks of this text, of which so many were passed over
abbrev pub steady_on : List Mapping → SteadyMatch → ℕ → List ℕ → Match
steady_on mappings m passed text = with_marks mappings m.ce32 m.suffix.now (take passed text) (drop passed text)
