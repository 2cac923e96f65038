use Rattle.icu_table_files.proofs.parts.FrameLemmas.{errors_refuse}
use Rattle.icu_table_files.proofs.parts.frame.without_frame.Goals as goal

pub returns-clause-refused : goal.returns-clause-refused
returns-clause-refused c = errors_refuse c.args.bytes.now _ c.framed_body.result c.framed_body.ensures
