use Rattle.std.proofs.Common.{◌≤◌, length, sym, arith}
use Rattle.std.specs.Prelude.{chars}
use Rattle.unicode_normalization.specs.Forms.{nfd}
use Rattle.icu_collator.specs.Collators.{collation_borrowed}
use Rattle.icu_order_texts.specs.TextOrder.{lists_by}
use Rattle.icu_search.proofs.ApartLeadLemmas.{rises_by}
use Rattle.icu_search.proofs.apart_leads.rising.Goals as goal

pub returns-in-Less : goal.returns-in-Less
returns-in-Less c =
    let collation = collation_borrowed c.args.collator.now in
    let longer = chars c.args.longer.now in
    let letter = chars c.args.letter.now in
    let few : length (lists_by collation (nfd letter)).primaries ≤ 1 = omega (arith, c.in_ok-count.ensures, c.if-count-ne1.false) in
    rises_by collation longer letter c.in_ok-below.below.items c.in_ok-above.above.items c.index.result.now c.index-in-Less.result.now
    (omega (arith, c.len.ensures, c.if-len-ne2.false)) (omega (arith, c.len-else-len-ne2.ensures, c.if-len-ne1.false)) few
    c.in_ok-below.ensures c.in_ok-above.ensures c.index.ensures c.index-in-Less.ensures (sym c.in-Less.ensures.order)
