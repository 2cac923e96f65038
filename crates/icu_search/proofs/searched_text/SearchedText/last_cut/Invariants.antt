use Rattle.std.proofs.Common.{◌≤◌}
use Rattle.icu_search.proofs.searched_text.SearchedText.last_cut.Given as goal

abbrev pub invariant-cuts : goal.invariant-cuts
invariant-cuts l = l.cut ≤ l.fn.offset

abbrev pub decreases-cuts : goal.decreases-cuts
decreases-cuts l = l.cut
