use Rattle.std.proofs.Common.{◌<◌, ◌≤◌, ◌+◌, List, sym, ◌∙◌, drop, get_or, length, rules}
use Rattle.std.proofs.lemmas.List.{at_drop_more, at_drop_all}
use Rattle.ucd_table.specs.Rows.{Range}
use Rattle.icu_table_mappings.proofs.DecimalDigitLemmas.{in_first, in_later, in_none}
use Rattle.icu_table_mappings.proofs.digit_entries.have_code.Goals as goal

pub returns-then-has_code : goal.returns-then-has_code
returns-then-has_code c =
    let ranges : List Range = c.args.ranges.now in
    let i = c.loop-range.range-index in
    let some : i < length ranges = search rules in
    in_first (drop i ranges) (drop (i + 1) ranges) (get_or ranges i (0, 0)) c.args.code _ (at_drop_more (λ rs. rs) ranges i (0, 0) some)
    (sym c.has_code.ensures ∙ c.if-has_code.true) c.loop-range.invariant

pub loop-range-preserved : goal.loop-range-preserved
loop-range-preserved c =
    let ranges : List Range = c.args.ranges.now in
    let i = c.loop-range.range-index in
    let some : i < length ranges = search rules in
    in_later (drop i ranges) (drop (i + 1) ranges) (get_or ranges i (0, 0)) c.args.code _ (at_drop_more (λ rs. rs) ranges i (0, 0) some)
    (sym c.has_code.ensures ∙ c.if-has_code.false) c.loop-range.invariant

pub returns : goal.returns
returns c =
    let ranges : List Range = c.args.ranges.now in
    let i = c.loop-range.range-index in
    let over : length ranges ≤ i = search rules in
    in_none (drop i ranges) c.args.code _ (at_drop_all (λ rs. rs) ranges i over) c.loop-range.invariant
