use Rattle.icu_options.proofs.MergeLemmas.{values_merged, flags_merged}
use Rattle.icu_options.proofs.merge.merged_options.Goals as goal

pub returns-clause-values : goal.returns-clause-values
returns-clause-values c =
    rw (
      c.set_defaults.ensures,
      c.set_numeric_from_enum.ensures,
      c.set_case_first.ensures,
      c.from.ensures,
      c.from-merged.ensures,
    )
    (values_merged c.args.options c.args.preferences c.args.metadata)

pub returns-clause-flags : goal.returns-clause-flags
returns-clause-flags c =
    rw (
      c.set_defaults.ensures,
      c.set_numeric_from_enum.ensures,
      c.set_case_first.ensures,
      c.from.ensures,
      c.from-merged.ensures,
    )
    (flags_merged c.args.options c.args.preferences c.args.metadata)
