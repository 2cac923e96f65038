use Rattle.std.proofs.Common.{◌≡◌, ◌<◌, ◌≤◌, ◌∙◌, ◌∷◌, ◌++◌, ◌+◌, ◌-◌, ◌*◌, List, refl, sym, ap, drop, length, rules}
use Rattle.std.specs.Prelude.{min}
use Rattle.std.proofs.lemmas.List.{at_drop_more, at_drop_all}
use Rattle.icu_cldr_root.specs.IdeographOrder.{first_ordinal, ideograph_count}
use Rattle.icu_cldr_root.specs.inner.WeightedRanges.{weighted_from}
use Rattle.icu_cldr_root.specs.declared.ideographs.CharRange.{CharRange}
use Rattle.icu_cldr_root.specs.declared.ideograph_weights.WeightedRange.{WeightedRange}
use Rattle.icu_cldr_root.proofs.WeightedRangeLemmas.{weighted_more, weighted_end, room_more}
use Rattle.icu_cldr_root.proofs.ideograph_weights.IdeographWeights.assign.Goals as goal

pub loop-range-init : goal.loop-range-init
loop-range-init c =
    let ranges : List CharRange = c.args.ranges.now in
    record {
      ranges = ap (λ (ws : List WeightedRange). ws ++ weighted_from c.in-Some.ordinal ranges) c.new-weighted.ensures.items
          ∙ ap (λ o. weighted_from o ranges) c.in-Some.ensures.value;
      room = c.in-Some.ensures.room;
    }

pub loop-range-preserved : goal.loop-range-preserved
loop-range-preserved c =
    let ranges : List CharRange = c.args.ranges.now in
    let i = c.loop-range.range-index in
    let o = c.loop-range.ordinal in
    let r : CharRange = c.range-item.result in
    let w : WeightedRange = record { range = r; ordinal = o } in
    let some : i < length ranges = search rules in
    let first : drop i ranges ≡ r ∷ drop (i + 1) ranges =
    at_drop_more (λ rs. rs) ranges i _ some ∙ ap (λ (x : CharRange). x ∷ drop (i + 1) ranges) (sym c.range-item.is) in
    let room : (c.saturating_add-ordinal.result ≡ o + 2 * (r.last + 1 - r.first))
    × (c.saturating_add-ordinal.result + 2 * ideograph_count (drop (i + 1) ranges) < 0xFE * 64516) =
    room_more (drop i ranges) (drop (i + 1) ranges) r o c.saturating_add-ordinal.result c.char_count.result first c.char_count.ensures
    (c.saturating_add-ordinal.ensures ∙ ap (λ n. min (o + n) 4294967295) c.saturating_mul.ensures) c.loop-range.invariant.room in
    record {
      ranges = weighted_more c.loop-range.weighted.items c.push.new.self.items (weighted_from (first_ordinal ranges) ranges) w
          (drop i ranges) (drop (i + 1) ranges) r o c.saturating_add-ordinal.result first c.in_ok-push.ensures.items refl room.0
          c.loop-range.invariant.ranges;
      room = room.1;
    }

pub returns : goal.returns
returns c =
    let ranges : List CharRange = c.args.ranges.now in
    let i = c.loop-range.range-index in
    let over : length ranges ≤ i = search rules in
    weighted_end c.loop-range.weighted.items (weighted_from (first_ordinal ranges) ranges) (drop i ranges) c.loop-range.ordinal
    (at_drop_all (λ rs. rs) ranges i over) c.loop-range.invariant.ranges
