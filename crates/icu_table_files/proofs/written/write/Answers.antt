use Rattle.icu_table_provider.specs.well_formed.Checked.{checked_tables}
use Rattle.icu_table_files.specs.Origins.{contents_of}
use Rattle.icu_table_files.proofs.WrittenLemmas.{written_file}
use Rattle.icu_table_files.proofs.written.write.Goals as goal

pub returns : goal.returns
returns c =
    written_file c.with_frame.result (contents_of c.args.origin (checked_tables c.args.tables.now)) c.in_ok-body.body.items c.as_slice.result.now
    c.in_ok-body.ensures c.as_slice.ensures.value c.with_frame.ensures
