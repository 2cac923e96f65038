use Rattle.std.proofs.Common.{◌-◌, length}
use Rattle.icu_table_data.specs.StoredData.{found_context}
use Rattle.icu_element_matches.specs.steady_matches.inner.SteadyJoining.{steady_on}
use Rattle.icu_element_matches.proofs.steady_matches.SteadyMarkLemmas.{IsJoining}
use Rattle.icu_element_matches.proofs.steady_matches.steady_marks.join_marks.Given as goal

-- going on from here comes to what the whole comes to
abbrev pub invariant-marks : goal.invariant-marks
invariant-marks g l =
    IsJoining (found_context l.context).mappings l.matched.ce32 l.matched.suffix.now l.greatest (g.X.TextForMatches.passed l.text) (g.X.TextForMatches.unread l.text) (steady_on (found_context l.context).mappings l.fn.matched 0 (g.X.TextForMatches.unread l.fn.text))

abbrev pub decreases-marks : goal.decreases-marks
decreases-marks g l = length (g.X.TextForMatches.unread l.text) - g.X.TextForMatches.passed l.text
