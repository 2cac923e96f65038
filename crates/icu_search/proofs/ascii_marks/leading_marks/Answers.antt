use Rattle.icu_collator.specs.Collators.{collation_borrowed}
use Rattle.icu_search.specs.inner.AsciiMarks.{LeadsWithPrimary}
use Rattle.icu_search.proofs.AsciiMarkLemmas.{none_marked}
use Rattle.icu_search.proofs.ascii_marks.leading_marks.Goals as goal

pub loop-c-init : goal.loop-c-init
loop-c-init c = none_marked (LeadsWithPrimary (collation_borrowed c.args.collator.now))

pub loop-c-preserved : goal.loop-c-preserved
loop-c-preserved c = c.mark_leading.ensures c.loop-c.invariant
