use Rattle.std.proofs.Common.{◌≡◌, ◌+◌, ◌<◌, ◌≤◌, length, sym, subst, arith, rules}
use Rattle.icu_search_places.specs.LeastMatches.{HoldsNoOther, span}
use Rattle.icu_search.specs.SearchedTexts.{matches_in, searched_in, text_searched}
use Rattle.icu_search.proofs.SureMatchLemmas.{HasAtMost, at_most_none, at_most_more, holds_none}
use Rattle.icu_search.proofs.searched_text.SearchedText.holds_none.Goals as goal

pub loop-at-init : goal.loop-at-init
loop-at-init c = at_most_none (searched_in c.args.self.now).collation (text_searched c.args.self.now) c.args.start

pub loop-at-preserved : goal.loop-at-preserved
loop-at-preserved c =
    let t = c.args.self.now in
    let s = searched_in t in
    let text = text_searched t in
    let start = c.args.start in
    let at = c.loop-at.at in
    let from : start + 1 ≤ at = search rules in
    let before : at < c.args.stop = search rules in
    let inside : at < length text = omega (arith, before, c.char_count.ensures.count, c.if-stop-char_count.false) in
    let sum : c.in-Some-checked_add.total ≡ c.loop-at.met + c.in-Some.more = omega (arith, c.in-Some-checked_add.ensures.1) in
    subst (HasAtMost s.collation text start (at + 1)) (sym sum)
    (at_most_more s.collation text start at c.loop-at.met c.in-Some.more inside (omega (arith, from)) c.loop-at.invariant c.in-Some.ensures)

pub returns : goal.returns
returns c = λ few.
    let t = c.args.self.now in
    let s = searched_in t in
    let done : c.loop-at.at ≡ c.args.stop = search rules in
    let w = subst (λ i. HasAtMost s.collation (text_searched t) c.args.start i c.loop-at.met) done c.loop-at.invariant in
    holds_none s (text_searched t) c.args.start c.args.stop c.loop-at.met w (search rules)
