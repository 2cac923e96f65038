use Rattle.std.proofs.Common.{◌≢◌, ◌-◌, length, ap, rules}
use Rattle.icu_table_data.specs.StoredData.{found_context, found_mapping}
use Rattle.icu_element_reading.proofs.MappingHeadLemmas.{none_above, none_below_last}
use Rattle.icu_element_reading.proofs.mapping_heads.none_begins_with.Goals as goal

pub returns-then-begins_above : goal.returns-then-begins_above
returns-then-begins_above c = λ _.
    none_above (found_context c.args.context).mappings c.args.d (found_mapping c.mapping-first.result) c.requires c.mapping-first.ensures (c.begins_above.ensures c.if-begins_above.true)

pub returns : goal.returns
returns c = λ is.
    let mappings = (found_context c.args.context).mappings in
    let some : length mappings ≢ 0 = search rules in
    none_below_last mappings c.args.d (c.len-count.result - 1) (found_mapping c.mapping-last.result) c.requires some (ap (λ k. k - 1) c.len-count.ensures) c.mapping-last.ensures (c.begins_below.ensures is)
