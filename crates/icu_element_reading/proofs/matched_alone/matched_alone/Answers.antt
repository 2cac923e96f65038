use Rattle.std.proofs.Common.{◌≡◌, ◌<◌, [], length, rules}
use Rattle.icu_table_entries.specs.declared.entry.EntryKind.TheVariants.{Contraction}
use Rattle.icu_table_entries.specs.Entries.{kind_of, entry_index}
use Rattle.icu_table_data.specs.StoredData.{data_of}
use Rattle.icu_element_matches.proofs.MatchLemmas.{prefix_inside, contraction_inside}
use Rattle.icu_element_reading.proofs.matched_alone.matched_alone.Goals as goal

pub after_prefix-behind-requires : goal.after_prefix-behind-requires
after_prefix-behind-requires c = prefix_inside (data_of c.args.home) c.args.c c.args.ce32 c.requires

pub get_context-requires : goal.get_context-requires
get_context-requires c =
    let behind = c.after_prefix-behind.result in
    let there : kind_of behind ≡ Contraction → entry_index behind < length (data_of c.args.home).contexts =
    rw c.after_prefix-behind.ensures (contraction_inside (data_of c.args.home) c.args.c c.args.ce32 [] c.requires) in
    search rules
