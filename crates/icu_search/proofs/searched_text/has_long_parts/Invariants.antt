use Rattle.std.proofs.Common.{length}
use Rattle.icu_search.proofs.searched_text.has_long_parts.Given as goal

abbrev pub invariant-parts : goal.invariant-parts
invariant-parts l = Unit {0}

abbrev pub decreases-parts : goal.decreases-parts
decreases-parts l = length l.rest
