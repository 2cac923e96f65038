use Rattle.std.proofs.Common.{sym, subst}
use Rattle.icu_element_cursor.specs.inner.MarkRuns.{Rises}
use Rattle.icu_element_cursor.proofs.StandLemmas.{nothing_rises}
use Rattle.icu_element_cursor.proofs.stands.ends_run.Goals as goal

pub returns-in-Some : goal.returns-in-Some
returns-in-Some g c = λ ends class.
    subst (Rises class) (sym c.in-Some.ensures) (c.ends_runs.ensures ends class (g.T.EncodedText.text c.in-Some.field-0-1))

pub returns-in-None : goal.returns-in-None
returns-in-None g c = λ _ class. subst (Rises class) (sym c.in-None.ensures) (nothing_rises class)
