use Rattle.std.proofs.Common.{◌<◌, arith, rules}
use Rattle.icu_search.specs.SearchedTexts.{searched_in, text_searched}
use Rattle.icu_search.proofs.TextRunLemmas.{alone_more}
use Rattle.icu_search.proofs.searched_text.SearchedText.run_stop.Goals as goal

pub loop-at-init : goal.loop-at-init
loop-at-init c = c.requires.alone

pub loop-at-preserved : goal.loop-at-preserved
loop-at-preserved c =
    let t = c.args.self.now in
    let before : c.loop-at.at < c.char_count-count.result = search rules in
    alone_more (searched_in t).collation (text_searched t) c.args.start c.loop-at.at (omega (arith, before, c.char_count-count.ensures.count)) c.loop-at.invariant (c.goes_on.ensures c.if-not-goes_on.false)
