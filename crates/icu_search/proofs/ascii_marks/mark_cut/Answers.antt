use Rattle.std.proofs.Common.{subst}
use Rattle.icu_collator.specs.Collators.{collation_borrowed}
use Rattle.icu_search_places.specs.PieceLaws.{BeginsPieces}
use Rattle.icu_order_texts.specs.TextOrder.{reading_by}
use Rattle.icu_search.specs.inner.AsciiMarks.{LeadsPieces}
use Rattle.icu_search.proofs.AsciiMarkLemmas.{leads_pieces, one_more_marked}
use Rattle.icu_search.proofs.ascii_marks.mark_cut.Goals as goal

pub returns-then-begins_pieces : goal.returns-then-begins_pieces
returns-then-begins_pieces c = λ all.
    let reading = reading_by (collation_borrowed c.args.collator.now) in
    let this = leads_pieces reading c.args.c (subst (BeginsPieces reading) c.from.ensures (c.begins_pieces.ensures c.if-begins_pieces.true)) in
    one_more_marked (LeadsPieces reading) c.args.marks.now c.mark.new.marks c.args.c all this c.mark.ensures
