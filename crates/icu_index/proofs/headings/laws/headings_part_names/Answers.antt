use Rattle.icu_index.proofs.headings.HeadingRuns.{headings_part}
use Rattle.icu_index.proofs.headings.laws.headings_part_names.Goals as goal

pub returns : goal.returns
returns c = λ collation well_formed starts names h. headings_part collation starts well_formed names h
