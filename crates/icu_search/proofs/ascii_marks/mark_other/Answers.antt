use Rattle.std.proofs.Common.{subst}
use Rattle.icu_collator.specs.Collators.{collation_borrowed}
use Rattle.icu_search.specs.inner.AsciiMarks.{BeginsWithOther, OpensOtherwise}
use Rattle.icu_search.proofs.AsciiMarkLemmas.{one_more_marked, opens_otherwise}
use Rattle.icu_search.proofs.ascii_marks.mark_other.Goals as goal

pub returns-then-begins_with_other : goal.returns-then-begins_with_other
returns-then-begins_with_other c = λ all.
    let collation = collation_borrowed c.args.collator.now in
    let front = c.args.primaries.now in
    let this = opens_otherwise collation front c.args.c (subst (BeginsWithOther collation front) c.from.ensures (c.begins_with_other.ensures c.if-begins_with_other.true)) in
    one_more_marked (OpensOtherwise collation front) c.args.marks.now c.mark.new.marks c.args.c all this c.mark.ensures
