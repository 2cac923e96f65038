use Rattle.std.proofs.Common.{subst}
use Rattle.icu_collator.specs.Collators.{collation_borrowed}
use Rattle.icu_search.specs.inner.AsciiMarks.{LeadsWithPrimary}
use Rattle.icu_search.proofs.AsciiMarkLemmas.{one_more_marked}
use Rattle.icu_search.proofs.ascii_marks.mark_leading.Goals as goal

pub returns-then-leads_with_primary : goal.returns-then-leads_with_primary
returns-then-leads_with_primary c = λ all.
    let collation = collation_borrowed c.args.collator.now in
    let this = subst (LeadsWithPrimary collation) c.from.ensures (c.leads_with_primary.ensures c.if-leads_with_primary.true) in
    one_more_marked (LeadsWithPrimary collation) c.args.marks.now c.mark.new.marks c.args.c all this c.mark.ensures
