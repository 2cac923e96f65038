use Rattle.icu_collator.specs.Collators.{collation_borrowed}
use Rattle.icu_search.specs.inner.FirstWeights.{RiseTo}
use Rattle.icu_search.proofs.apart_leads.marks_from.Given as goal

-- the marks are those of weights up to the last one
abbrev pub invariant-loop-pair : goal.invariant-loop-pair
invariant-loop-pair l = RiseTo (collation_borrowed l.collator) l.marks l.last
