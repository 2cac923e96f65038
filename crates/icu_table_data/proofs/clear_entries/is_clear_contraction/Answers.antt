use Rattle.std.proofs.Common.{◌≡◌, rules}
use Rattle.icu_table_entries.specs.declared.entry.EntryKind.TheVariants.{Prefix}
use Rattle.icu_table_entries.specs.Entries.{kind_of}
use Rattle.icu_table_data.specs.StoredData.{data_of}
use Rattle.icu_table_data.proofs.ClearLemmas.{contraction_clear, unopened_clear}
use Rattle.icu_table_data.proofs.clear_entries.is_clear_contraction.Goals as goal

pub returns-then-eq-clause-none : goal.returns-then-eq-clause-none
returns-then-eq-clause-none c clear =
    let is : kind_of c.args.bits ≡ Prefix = search rules in
    unopened_clear c.args.part (data_of c.args.home) c.args.bits is

pub returns-clause-none : goal.returns-clause-none
returns-clause-none c clear = contraction_clear c.args.part (data_of c.args.home) c.args.bits (c.is_plainly_clear.ensures.none clear)
