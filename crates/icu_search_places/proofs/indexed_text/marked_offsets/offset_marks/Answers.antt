use Rattle.std.proofs.Common.{rules, ◌≡◌, ◌++◌, get_or, map, refl, sym, ap, ◌∙◌}
use Rattle.std.proofs.lemmas.List.{append-nil, drop_all}
use Rattle.icu_search_places.specs.indexed_text.OffsetSets.{has_offset}
use Rattle.icu_search_places.proofs.indexed_text.CopyLemmas.{one_mark_more}
use Rattle.icu_search_places.proofs.indexed_text.marked_offsets.offset_marks.Goals as goal

pub loop-offset-preserved : goal.loop-offset-preserved
loop-offset-preserved c =
    let offsets = c.args.offsets.now in
    let i = c.loop-offset.offset-index in
    let item = get_or offsets i 0 in
    let sorted = c.in_ok-sorted.sorted.items in
    let is : c.is_among.result ≡ has_offset sorted item = search rules in
    one_mark_more c.args.set.now sorted offsets i item c.loop-offset.marks.items c.push.new.self.items c.is_among.result
    c.in_ok-sorted.ensures.same c.loop-offset-test.true refl is c.in_ok-push.ensures.items c.loop-offset.invariant

pub returns : goal.returns
returns c =
    let marks = c.loop-offset.marks.items in
    let f = has_offset c.args.set.now in
    sym (append-nil marks) ∙ ap (λ l. marks ++ map f l) (sym (drop_all c.loop-offset.offset-index c.args.offsets.now c.loop-offset-test.false)) ∙ c.loop-offset.invariant
