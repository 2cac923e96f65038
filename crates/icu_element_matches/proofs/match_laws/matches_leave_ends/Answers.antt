use Rattle.icu_element_matches.proofs.match_laws.MatchEndLemmas.{leaves_ends}
use Rattle.icu_element_matches.proofs.match_laws.matches_leave_ends.Goals as goal

pub returns : goal.returns
returns c = leaves_ends
