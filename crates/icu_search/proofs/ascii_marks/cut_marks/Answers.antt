use Rattle.icu_collator.specs.Collators.{collation_borrowed}
use Rattle.icu_order_texts.specs.TextOrder.{reading_by}
use Rattle.icu_search.specs.inner.AsciiMarks.{LeadsPieces}
use Rattle.icu_search.proofs.AsciiMarkLemmas.{none_marked}
use Rattle.icu_search.proofs.ascii_marks.cut_marks.Goals as goal

pub loop-c-init : goal.loop-c-init
loop-c-init c = none_marked (LeadsPieces (reading_by (collation_borrowed c.args.collator.now)))
