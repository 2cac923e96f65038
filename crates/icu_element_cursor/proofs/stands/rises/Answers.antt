-- An ASCII character ends a run of marks.
use Rattle.std.proofs.Common.{sym, subst}
use Rattle.icu_element_cursor.specs.inner.MarkRuns.{Rises}
use Rattle.icu_element_cursor.proofs.StandLemmas.{low_ends_runs}
use Rattle.icu_element_cursor.proofs.stands.rises.Goals as goal

pub returns-in-Some : goal.returns-in-Some
returns-in-Some g c = λ _.
    subst (Rises c.args.class) (sym c.in-Some.ensures.first)
    (low_ends_runs c.in-Some.field-0.0 c.in-Some.ensures.ascii c.args.class (g.T.EncodedText.text c.in-Some.field-0.1))
