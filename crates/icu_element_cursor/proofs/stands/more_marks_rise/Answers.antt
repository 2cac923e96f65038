use Rattle.std.proofs.Common.{sym, subst}
use Rattle.icu_element_cursor.specs.inner.MarkRuns.{Rises}
use Rattle.icu_element_cursor.proofs.StandLemmas.{nothing_rises}
use Rattle.icu_element_cursor.proofs.stands.more_marks_rise.Goals as goal

pub returns-in_default : goal.returns-in_default
returns-in_default g c = λ _. c.marks.invariant (subst (Rises c.marks.last) (sym c.in_default.ensures) (nothing_rises c.marks.last))
