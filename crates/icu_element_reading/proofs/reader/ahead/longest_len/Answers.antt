use Rattle.std.proofs.Common.{◌≡◌, Some, rules}
use Rattle.icu_table_data.specs.Data.{longest_mapping}
use Rattle.icu_table_data.specs.StoredData.{found_context, found_mapping}
use Rattle.icu_element_matches.proofs.ReadAheadLemmas.{longest_mapping-fits}
use Rattle.icu_element_reading.proofs.reader.ahead.longest_len.Goals as goal

pub returns-in-Some-clause-inside : goal.returns-in-Some-clause-inside
returns-in-Some-clause-inside c =
    let mappings = (found_context c.args.context).mappings in
    let is : longest_mapping mappings c.args.text.now ≡ Some (found_mapping c.mapping.result) = search rules in
    let fits = longest_mapping-fits mappings c.args.text.now (found_mapping c.mapping.result) is in
    search rules
