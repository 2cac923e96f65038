use Rattle.std.proofs.Common.{◌≡◌, ◌<◌, ◌∙◌, ◌∷◌, ◌+◌, ◌-◌, ℕ, List, refl, sym, ap, drop, length, rules}
use Rattle.std.proofs.lemmas.List.{at_drop_more}
use Rattle.std.proofs.lemmas.Option.{slice_get_read}
use Rattle.icu_cldr_root.specs.declared.ideograph_weights.WeightedRange.{WeightedRange}
use Rattle.icu_cldr_root.proofs.RangePlaceLemmas.{finds_all, finds_more, finds_none}
use Rattle.icu_cldr_root.proofs.range_places.places_of.Goals as goal

pub loop-index-init : goal.loop-index-init
loop-index-init c = record {
  len = c.in_ok-places.ensures.len;
  finds = finds_none c.in_ok-places.places.items c.args.ranges.now (length c.args.ranges.now) c.in_ok-places.ensures.zero;
}

pub loop-index-preserved : goal.loop-index-preserved
loop-index-preserved c =
    let ranges : List WeightedRange = c.args.ranges.now in
    let n : ℕ = c.loop-index.index in
    let v : WeightedRange = c.index-ranges-index.result in
    let some : n - 1 < length ranges = search rules in
    let back : (n - 1) + 1 ≡ n = search rules in
    let steps : drop (n - 1) ranges ≡ v ∷ drop n ranges =
    at_drop_more (λ rs. rs) ranges (n - 1) _ some ∙ ap (λ (r : WeightedRange). r ∷ drop ((n - 1) + 1) ranges) (sym c.index-ranges-index.is)
    ∙ ap (λ k. v ∷ drop k ranges) back in
    record {
      len = c.set_range.ensures.len;
      finds = finds_more c.loop-index.places.items c.set_range.new.places.items ranges v (n - 1) n c.place_of.result
          (slice_get_read ranges (length ranges) (n - 1) v refl some c.index-ranges-index.is) steps c.place_of.ensures
          c.set_range.ensures.set c.set_range.ensures.below c.set_range.ensures.above c.loop-index.invariant.finds;
    }

pub returns : goal.returns
returns c =
    let none : c.loop-index.index ≡ 0 = search rules in
    finds_all c.loop-index.places.items c.args.ranges.now c.loop-index.index none c.loop-index.invariant.finds
