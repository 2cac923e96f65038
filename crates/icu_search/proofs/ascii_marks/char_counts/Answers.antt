use Rattle.icu_collator.specs.Collators.{collation_borrowed}
use Rattle.icu_search.proofs.AsciiMarkLemmas.{no_counts}
use Rattle.icu_search.proofs.ascii_marks.char_counts.Goals as goal

pub loop-c-init : goal.loop-c-init
loop-c-init c = no_counts (collation_borrowed c.args.collator.now)

pub loop-c-preserved : goal.loop-c-preserved
loop-c-preserved c = c.count_char.ensures c.loop-c.invariant
