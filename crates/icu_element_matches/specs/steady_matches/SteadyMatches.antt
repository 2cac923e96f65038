-- What was matched of a text that is read without memory.
use Rattle.std.specs.Prelude.{ℕ, List}
use Rattle.icu_element_matches.specs.Matches.{Match}
use Rattle.icu_element_matches.specs.declared.steady_matches.steady_match.SteadyMatch.{SteadyMatch}

-- the match that was made, which leaves this text
abbrev pub steady_match : SteadyMatch → List ℕ → Match
steady_match m rest = record { entry = m.ce32; suffix = m.suffix.now; rest = rest }
