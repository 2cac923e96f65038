use Rattle.std.proofs.Common.{◌+◌, ◌-◌, arith}
use Rattle.icu_search.specs.SearchedTexts.{searched_in, text_searched}
use Rattle.icu_search.proofs.TextRunLemmas.{alone_within}
use Rattle.icu_search.proofs.searched_text.SearchedText.differs_behind.Goals as goal

pub differs_at-requires-clause-alone : goal.differs_at-requires-clause-alone
differs_at-requires-clause-alone c =
    let t = c.args.self.now in
    let collation = (searched_in t).collation in
    let text = text_searched t in
    let start = c.args.start in
    let reach = c.known_stop-reach.result in
    alone_within collation text start reach start (start + c.common_length-same.result) (c.known_stop-reach.ensures.alone collation text c.requires.within c.requires.known.run)
    (omega arith) (omega (arith, c.if-same-reach.true, c.known_stop-reach.ensures.behind))

pub run_stop-stop-requires-clause-alone : goal.run_stop-stop-requires-clause-alone
run_stop-stop-requires-clause-alone c =
    let t = c.args.self.now in
    c.known_stop-reach.ensures.alone (searched_in t).collation (text_searched t) c.requires.within c.requires.known.run
