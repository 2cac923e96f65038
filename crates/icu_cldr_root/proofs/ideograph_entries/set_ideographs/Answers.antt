use Rattle.std.proofs.Common.{◌≡◌, ◌<◌, ◌≤◌, ◌∙◌, ◌∷◌, ◌+◌, ◌-◌, ℕ, List, sym, ap, drop, length, rules}
use Rattle.std.proofs.lemmas.List.{at_drop_more, at_drop_all}
use Rattle.icu_table_provider.specs.builder.Building.{built_data}
use Rattle.icu_cldr_root.specs.declared.ideograph_weights.WeightedRange.{WeightedRange}
use Rattle.icu_table_mappings.proofs.GrownListLemmas.{lists_further, lists_itself}
use Rattle.icu_cldr_root.proofs.IdeographValueLemmas.{range_none, range_turn}
use Rattle.icu_cldr_root.proofs.ideograph_entries.set_ideographs.Goals as goal

pub loop-index-init : goal.loop-index-init
loop-index-init c =
    let ranges : List WeightedRange = c.args.ranges.now in
    let over : length ranges ≤ length ranges = search rules in
    record {
      lists = lists_itself (built_data c.args.builder.now);
      gives = λ x scalar. range_none (built_data c.args.builder.now) x (drop (length ranges) ranges) (at_drop_all (λ rs. rs) ranges (length ranges) over);
    }

pub loop-index-preserved : goal.loop-index-preserved
loop-index-preserved c =
    let ranges : List WeightedRange = c.args.ranges.now in
    let n : ℕ = c.loop-index.index in
    let w : WeightedRange = c.index-ranges-index.result in
    let some : n - 1 < length ranges = search rules in
    let back : (n - 1) + 1 ≡ n = search rules in
    let first : drop (n - 1) ranges ≡ w ∷ drop n ranges =
    at_drop_more (λ rs. rs) ranges (n - 1) _ some ∙ ap (λ (r : WeightedRange). r ∷ drop ((n - 1) + 1) ranges) (sym c.index-ranges-index.is)
    ∙ ap (λ k. w ∷ drop k ranges) back in
    record {
      lists = lists_further _ _ _ c.loop-index.invariant.lists c.in_ok-set_range.ensures.lists;
      gives = λ x scalar. range_turn (built_data c.args.builder.now) (built_data c.loop-index.builder) (built_data c.set_range.new.builder)
          (drop (n - 1) ranges) (drop n ranges) w x scalar first c.in_ok-set_range.ensures.lists c.in_ok-set_range.ensures.sets
          (c.loop-index.invariant.gives x scalar);
    }
