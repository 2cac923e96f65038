use Rattle.std.proofs.Common.{◌≡◌, ◌<◌, ◌≤◌, ◌∷◌, ◌+◌, List, sym, subst, drop, get_or, length, rules}
use Rattle.std.proofs.lemmas.List.{at_drop_more, at_drop_all}
use Rattle.ucd_table.specs.Rows.{Range}
use Rattle.icu_table_provider.specs.builder.Building.{built_data}
use Rattle.icu_table_mappings.proofs.GrownListLemmas.{extends_itself, extends_further}
use Rattle.icu_cldr_root.proofs.CountedDigitLemmas.{DigitsSoFar, no_digits_yet, range_more, start_below, all_digits}
use Rattle.icu_cldr_root.proofs.digits.make_digits.Goals as goal

pub loop-range-init : goal.loop-range-init
loop-range-init c =
    let d = built_data c.args.builder.now in
    record {
      extends = extends_itself d;
      so_far = subst (λ (rs : List Range). DigitsSoFar d c.args.entries.now c.args.entries.now 0 0 rs) (sym c.deref-range-items.ensures.value)
          (no_digits_yet d c.args.entries.now c.in_ok-ranges.ranges.items c.in_ok-ranges.ensures.rising c.in_ok-ranges.ensures.members);
    }

pub make_digits_of-requires : goal.make_digits_of-requires
make_digits_of-requires c =
    let ranges : List Range = c.deref-range-items.result.now in
    let i = c.loop-range.range-index in
    let some : i < length ranges = search rules in
    let first : drop i ranges ≡ get_or ranges i (0, 0) ∷ drop (i + 1) ranges = at_drop_more (λ rs. rs) ranges i (0, 0) some in
    start_below (built_data c.loop-range.builder) c.args.entries.now c.loop-range.entries c.loop-range.start c.loop-range.end
    c.start_of-start.result (drop i ranges) (drop (i + 1) ranges) (get_or ranges i (0, 0)) first c.loop-range.invariant.so_far c.start_of-start.ensures

pub loop-range-preserved : goal.loop-range-preserved
loop-range-preserved c =
    let ranges : List Range = c.deref-range-items.result.now in
    let i = c.loop-range.range-index in
    let some : i < length ranges = search rules in
    let first : drop i ranges ≡ get_or ranges i (0, 0) ∷ drop (i + 1) ranges = at_drop_more (λ rs. rs) ranges i (0, 0) some in
    record {
      extends = extends_further _ _ _ c.loop-range.invariant.extends c.in_ok-make_digits_of.ensures.extends;
      so_far = range_more (built_data c.loop-range.builder) (built_data c.make_digits_of.new.builder) c.args.entries.now c.loop-range.entries
          c.make_digits_of.new.entries c.loop-range.start c.loop-range.end c.start_of-start.result c.saturating_add-end.result
          (drop i ranges) (drop (i + 1) ranges) (get_or ranges i (0, 0)) first c.loop-range.invariant.so_far c.in_ok-make_digits_of.ensures.extends
          c.start_of-start.ensures c.saturating_add-end.ensures c.in_ok-make_digits_of.ensures.digits;
    }

pub returns-clause-digits : goal.returns-clause-digits
returns-clause-digits c =
    let ranges : List Range = c.deref-range-items.result.now in
    let i = c.loop-range.range-index in
    let over : length ranges ≤ i = search rules in
    all_digits (built_data c.loop-range.builder) c.args.entries.now c.loop-range.entries c.loop-range.start c.loop-range.end (drop i ranges)
    (at_drop_all (λ rs. rs) ranges i over) c.loop-range.invariant.so_far
