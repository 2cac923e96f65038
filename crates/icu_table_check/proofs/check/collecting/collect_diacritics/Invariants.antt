use Rattle.icu_table_provider.specs.TableSets.{tables_in}
use Rattle.icu_table_check.specs.inner.ComparedWeights.{Adds, IsBelow, IsDiacriticWeight}
use Rattle.icu_table_check.proofs.check.collecting.collect_diacritics.Given as goal

-- the weights of the places so far were added
abbrev pub invariant-loop-place : goal.invariant-loop-place
invariant-loop-place g l = Adds (IsBelow (IsDiacriticWeight l.fn.list (tables_in l.fn.tables)) l.place) (g.H.HoldWeights.weights l.fn.weights) (g.H.HoldWeights.weights l.weights)
