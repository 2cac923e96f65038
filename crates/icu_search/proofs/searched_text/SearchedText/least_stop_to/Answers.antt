use Rattle.std.proofs.Common.{sym, ◌∙◌, arith}
use Rattle.icu_search.specs.SearchedTexts.{char_len_in, matches_in, searched_in, text_searched}
use Rattle.icu_search.proofs.BarrenLemmas.{none_of_shortest, told_barren}
use Rattle.icu_search.proofs.PartWalks.{no_start}
use Rattle.icu_search.proofs.TextCutLemmas.{told_in_time, told_too_late, told_none}
use Rattle.icu_search.proofs.searched_text.SearchedText.least_stop_to.Goals as goal

pub returns-then-recurs-clause-tells : goal.returns-then-recurs-clause-tells
returns-then-recurs-clause-tells c =
    let t = c.args.self.now in
    told_barren (searched_in t) (text_searched t) c.args.start c.args.last c.requires.within (sym c.equals_empty.ensures ∙ c.if-equals_empty.false) (c.recurs.ensures.none c.if-recurs.true)

pub returns-then-has_no_place-clause-tells : goal.returns-then-has_no_place-clause-tells
returns-then-has_no_place-clause-tells c =
    let t = c.args.self.now in
    told_none (matches_in t) c.args.start c.args.last (char_len_in t) c.requires.ordered c.requires.within
    (no_start (searched_in t) (text_searched t) c.args.start (c.has_no_place.ensures c.if-has_no_place.true) (omega (arith, c.requires.ordered, c.requires.within)))

pub returns-then-differs_behind-clause-tells : goal.returns-then-differs_behind-clause-tells
returns-then-differs_behind-clause-tells c =
    let t = c.args.self.now in
    told_barren (searched_in t) (text_searched t) c.args.start c.args.last c.requires.within (sym c.equals_empty.ensures ∙ c.if-equals_empty.false) (c.differs_behind.ensures.none c.if-differs_behind.true)

pub returns-then-stop-last-clause-tells : goal.returns-then-stop-last-clause-tells
returns-then-stop-last-clause-tells c =
    let t = c.args.self.now in
    told_in_time (matches_in t) c.args.start c.args.last (char_len_in t) c.in-Some.stop c.requires.ordered c.requires.within (rw c.in-Some.is at c.in_ok-stop.ensures) c.if-stop-last.true

pub returns-else-stop-last-clause-tells : goal.returns-else-stop-last-clause-tells
returns-else-stop-last-clause-tells c =
    let t = c.args.self.now in
    told_too_late (matches_in t) c.args.start c.args.last (char_len_in t) c.in-Some.stop c.requires.ordered c.requires.within (rw c.in-Some.is at c.in_ok-stop.ensures) (omega (arith, c.if-stop-last.false))

pub returns-in-None-clause-tells : goal.returns-in-None-clause-tells
returns-in-None-clause-tells c =
    let t = c.args.self.now in
    told_none (matches_in t) c.args.start c.args.last (char_len_in t) c.requires.ordered c.requires.within (rw c.in-None.is at c.in_ok-stop.ensures)

pub keep_barren-requires-clause-none : goal.keep_barren-requires-clause-none
keep_barren-requires-clause-none c =
    let t = c.args.self.now in
    none_of_shortest (matches_in t) c.args.start (char_len_in t) (omega (arith, c.requires.ordered, c.requires.within)) (rw c.in-None.is at c.in_ok-stop.ensures)
