use Rattle.icu_collator.specs.Collators.{collation_borrowed}
use Rattle.icu_search.specs.inner.AsciiMarks.{GivesNothing}
use Rattle.icu_search.proofs.AsciiMarkLemmas.{none_marked}
use Rattle.icu_search.proofs.ascii_marks.silent_marks.Goals as goal

pub returns-then-not-ends_at_tertiaries : goal.returns-then-not-ends_at_tertiaries
returns-then-not-ends_at_tertiaries c = none_marked (GivesNothing (collation_borrowed c.args.collator.now))

pub loop-c-init : goal.loop-c-init
loop-c-init c = none_marked (GivesNothing (collation_borrowed c.args.collator.now))

pub loop-c-preserved : goal.loop-c-preserved
loop-c-preserved c = c.mark_silent.ensures c.loop-c.invariant
