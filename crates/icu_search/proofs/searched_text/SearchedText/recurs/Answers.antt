use Rattle.std.proofs.Common.{◌≡◌, ◌+◌, ◌-◌, ◌<◌, ◌≤◌, length, refl, arith, inl, inr}
use Rattle.icu_search.specs.SearchedTexts.{searched_in, text_searched}
use Rattle.icu_search.specs.inner.BarrenParts.{IsBarrenWithin}
use Rattle.icu_search.proofs.BarrenLemmas.{none_behind, none_here, part_within, recurs}
use Rattle.icu_search.proofs.searched_text.SearchedText.recurs.Goals as goal

pub returns-then-part-char_count-clause-none : goal.returns-then-part-char_count-clause-none
returns-then-part-char_count-clause-none c = λ is stop after to.
    let t = c.args.self.now in
    let some : 0 < c.args.barren.now.stop = omega (arith, c.if-part.false) in
    none_behind (searched_in t) (text_searched t) c.args.barren.now (c.requires.known some) (omega (arith, c.if-part-char_count.true, c.char_count.ensures.count)) c.args.start
    (omega (arith, c.if-start-part.false)) stop after to

pub returns-clause-none : goal.returns-clause-none
returns-clause-none c = λ is stop after to.
    let t = c.args.self.now in
    let s = searched_in t in
    let text = text_searched t in
    let part = c.args.barren.now in
    let start = c.args.start in
    let n = part.stop - part.start in
    let step = start - part.start in
    let reach = c.repeats_to-reach.result in
    let some : 0 < part.stop = omega (arith, c.if-part.false) in
    let b : IsBarrenWithin s text part = part_within s text part (c.requires.known some) (omega (arith, c.if-part-char_count.false, c.char_count.ensures.count)) in
    let at : start ≡ part.start + step = omega (arith, c.if-start-part.false) in
    let fits : start + n ≤ reach = omega (arith, c.if-reach-stop.false) in
    let inside : start + n ≤ length text = omega (arith, c.if-char_count-start.false, c.char_count-2.ensures.count, c.requires.within) in
    let again = recurs s text part b start step n reach at refl (c.repeats_to-reach.ensures part.start (c.known_reach.ensures.repeats text b.repeats)) fits inside in
    none_here s text (record { start = start; stop = start + n; step = step; reach = reach }) again (c.ends_piece.ensures c.if-not-ends_piece.false) stop after to

pub returns-clause-known : goal.returns-clause-known
returns-clause-known c = λ ends.
    let t = c.args.self.now in
    let text = text_searched t in
    let part = c.args.barren.now in
    let start = c.args.start in
    let n = part.stop - part.start in
    let step = start - part.start in
    let reach = c.repeats_to-reach.result in
    let some : 0 < part.stop = omega (arith, c.if-part.false) in
    let b : IsBarrenWithin (searched_in t) text part = part_within (searched_in t) text part (c.requires.known some) (omega (arith, c.if-part-char_count.false, c.char_count.ensures.count)) in
    let at : start ≡ part.start + step = omega (arith, c.if-start-part.false) in
    let fits : start + n ≤ reach = omega (arith, c.if-reach-stop.false) in
    let inside : start + n ≤ length text = omega (arith, c.if-char_count-start.false, c.char_count-2.ensures.count, c.requires.within) in
    inl (recurs (searched_in t) text part b start step n reach at refl (c.repeats_to-reach.ensures part.start (c.known_reach.ensures.repeats text b.repeats)) fits inside)
