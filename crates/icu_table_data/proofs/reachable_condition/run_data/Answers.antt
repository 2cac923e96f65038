use Rattle.std.proofs.Common.{rules, ◌≡◌, ◌+◌, IsTrue, arith}
use Rattle.icu_table_entries.specs.declared.entry.EntryKind.TheVariants.{Offset}
use Rattle.icu_table_entries.specs.Elements.{Element}
use Rattle.icu_table_entries.specs.Entries.{kind_of}
use Rattle.icu_table_entries.specs.EntryConditions.{has_offset_weight}
use Rattle.icu_table_data.specs.DataConditions.{is_inside}
use Rattle.icu_table_data.specs.StoredData.{data_of}
use Rattle.icu_table_data.proofs.RunLemmas.{has_between}
use Rattle.icu_table_data.proofs.reachable_condition.run_data.Goals as goal

pub returns-else-not-has_offset_weight-2 : goal.returns-else-not-has_offset_weight-2
returns-else-not-has_offset_weight-2 c =
    let d : Element = c.offset_data-data.result in
    let is : kind_of c.args.entry ≡ Offset = search rules in
    let inside : IsTrue (is_inside (data_of c.args.home) c.args.entry) = search rules in
    let at_first : IsTrue (has_offset_weight d c.args.first) = search rules in
    let at_last : IsTrue (has_offset_weight d c.in-Offset-Some.last) = search rules in
    let last : c.in-Offset-Some.last ≡ c.args.first + 63 = search rules in
    record {
      offset = is;
      inside = inside;
      taken = c.offset_data-data.ensures.taken;
      fits = λ char low high. has_between d c.args.first char c.in-Offset-Some.last low (omega arith) at_first at_last;
    }
