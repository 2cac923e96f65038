use Rattle.std.proofs.Common.{◌≡◌, ◌<◌, ◌≤◌, ◌∙◌, ◌∷◌, ◌+◌, List, sym, ap, drop, length, rules}
use Rattle.std.proofs.lemmas.List.{at_drop_more, at_drop_all}
use Rattle.icu_cldr_root.specs.IdeographOrder.{ideograph_count}
use Rattle.icu_cldr_root.specs.declared.ideographs.CharRange.{CharRange}
use Rattle.icu_cldr_root.proofs.WeightedRangeLemmas.{count_more, count_end}
use Rattle.icu_cldr_root.proofs.ideograph_weights.count.Goals as goal

pub loop-range-preserved : goal.loop-range-preserved
loop-range-preserved c =
    let ranges : List CharRange = c.args.ranges.now in
    let i = c.loop-range.range-index in
    let some : i < length ranges = search rules in
    let first : drop i ranges ≡ c.range-item.result ∷ drop (i + 1) ranges =
    at_drop_more (λ rs. rs) ranges i _ some ∙ ap (λ (r : CharRange). r ∷ drop (i + 1) ranges) (sym c.range-item.is) in
    count_more (drop i ranges) (drop (i + 1) ranges) c.range-item.result c.loop-range.count c.in_ok-count.count c.char_count.result (ideograph_count ranges)
    first c.char_count.ensures c.in_ok-count.ensures.1 c.loop-range.invariant

pub returns : goal.returns
returns c =
    let ranges : List CharRange = c.args.ranges.now in
    let i = c.loop-range.range-index in
    let over : length ranges ≤ i = search rules in
    count_end (drop i ranges) c.loop-range.count (ideograph_count ranges) (at_drop_all (λ rs. rs) ranges i over) c.loop-range.invariant
