use Rattle.std.proofs.Common.{◌≡◌, ◌+◌, ◌<◌, ◌≤◌, length, sym, subst, ◌∙◌, arith, rules}
use Rattle.icu_search.specs.SearchedTexts.{searched_in, text_searched}
use Rattle.icu_search.proofs.CountedWalks.{CountedTo, counted_none, counted_on, counted_match, counted_too_long, counted_all, total_is}
use Rattle.icu_search.proofs.searched_text.SearchedText.counted_stop.Goals as goal

pub loop-at-init : goal.loop-at-init
loop-at-init c = λ first allowed not. counted_none (searched_in c.args.self.now) (text_searched c.args.self.now) c.args.start not

pub returns-then-total-count_of_pattern : goal.returns-then-total-count_of_pattern
returns-then-total-count_of_pattern c = λ first allowed not.
    let t = c.args.self.now in
    let from : c.args.start ≤ c.loop-at.at = search rules in
    let before : c.loop-at.at < c.char_count-count.result = search rules in
    let inside : c.loop-at.at < length (text_searched t) = omega (arith, before, c.char_count-count.ensures.count) in
    counted_too_long (searched_in t) (text_searched t) c.args.start c.loop-at.at c.loop-at.met c.in-Some.more inside from (c.loop-at.invariant first allowed not) c.in-Some.ensures
    (omega (arith, c.if-total-count_of_pattern.true, c.in-Some-checked_add.ensures.1, c.count_of_pattern.ensures))

pub returns-then-branch : goal.returns-then-branch
returns-then-branch c = λ first allowed not.
    let t = c.args.self.now in
    let s = searched_in t in
    let text = text_searched t in
    let start = c.args.start in
    let at = c.loop-at.at in
    let w = c.loop-at.invariant first allowed not in
    let from : start ≤ at = search rules in
    let before : at < c.char_count-count.result = search rules in
    let inside : at < length text = omega (arith, before, c.char_count-count.ensures.count) in
    let sum : c.in-Some-checked_add.total ≡ c.loop-at.met + c.in-Some.more = omega (arith, c.in-Some-checked_add.ensures.1) in
    let ended = c.in_ok-ends_counted.ensures (sum ∙ total_is s text start at c.loop-at.met c.in-Some.more inside from w c.in-Some.ensures) first allowed (w.none at from (omega arith)) in
    counted_match s text start at c.loop-at.met c.in-Some.more inside from w c.in-Some.ensures first allowed (sym ended ∙ c.if-branch.true)

pub loop-at-preserved : goal.loop-at-preserved
loop-at-preserved c = λ first allowed not.
    let t = c.args.self.now in
    let s = searched_in t in
    let text = text_searched t in
    let start = c.args.start in
    let at = c.loop-at.at in
    let w = c.loop-at.invariant first allowed not in
    let from : start ≤ at = search rules in
    let before : at < c.char_count-count.result = search rules in
    let inside : at < length text = omega (arith, before, c.char_count-count.ensures.count) in
    let sum : c.in-Some-checked_add.total ≡ c.loop-at.met + c.in-Some.more = omega (arith, c.in-Some-checked_add.ensures.1) in
    let ended = c.in_ok-ends_counted.ensures (sum ∙ total_is s text start at c.loop-at.met c.in-Some.more inside from w c.in-Some.ensures) first allowed (w.none at from (omega arith)) in
    subst (CountedTo s text start (at + 1)) (sym sum)
    (counted_on s text start at c.loop-at.met c.in-Some.more inside from w c.in-Some.ensures (sym ended ∙ c.if-branch.false))

pub returns : goal.returns
returns c = λ first allowed not.
    let t = c.args.self.now in
    let done : c.loop-at.at ≡ c.char_count-count.result = search rules in
    counted_all (searched_in t) (text_searched t) c.args.start c.loop-at.at c.loop-at.met (c.loop-at.invariant first allowed not) (done ∙ c.char_count-count.ensures.count) c.requires.within
