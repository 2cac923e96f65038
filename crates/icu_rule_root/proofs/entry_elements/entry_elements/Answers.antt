-- A digit's plain entry is there, and each final entry can be read.
use Rattle.std.proofs.Common.{◌<◌, length, slice_index, IsTrue, sym, ap, ◌∙◌, subst}
use Rattle.icu_table_data.specs.DataConditions.{is_readable}
use Rattle.icu_table_data.specs.StoredData.{data_of}
use Rattle.icu_rule_root.proofs.RootEntryLemmas.{match_readable, plain_readable, plain_inside}
use Rattle.icu_rule_root.proofs.entry_elements.entry_elements.Goals as goal

pub get_ce32-requires : goal.get_ce32-requires
get_ce32-requires c =
    subst (λ i. i < length (data_of c.args.home).entries) (sym c.index.ensures.value)
    (plain_inside (data_of c.args.home) c.args.c c.args.entry (sym c.kind.ensures ∙ c.in-Digit.is) c.requires)

pub final_elements-requires : goal.final_elements-requires
final_elements-requires c =
    subst (λ e. IsTrue (is_readable (data_of c.args.home) c.args.c e)) (sym (c.get_ce32.ensures ∙ ap (slice_index (data_of c.args.home).entries) c.index.ensures.value))
    (plain_readable (data_of c.args.home) c.args.c c.args.entry (sym c.kind.ensures ∙ c.in-Digit.is) c.requires)

pub final_elements-requires-in_default : goal.final_elements-requires-in_default
final_elements-requires-in_default c = match_readable (data_of c.args.home) c.args.c c.args.entry c.requires
