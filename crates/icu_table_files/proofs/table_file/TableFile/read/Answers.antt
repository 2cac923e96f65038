use Rattle.std.proofs.Common.{sym, subst, arith}
use Rattle.icu_table_files.specs.FileReading.{IsReadError}
use Rattle.icu_table_files.proofs.FileReadLemmas.{body_error, file_spelt, reads_back, unframed_reads}
use Rattle.icu_table_files.proofs.table_file.TableFile.read.Goals as goal

pub returns-in-Ok-clause-says : goal.returns-in-Ok-clause-says
returns-in-Ok-clause-says c = file_spelt c.file_of_body.result c.in-Ok.body.now c.args.bytes.now c.in-Ok.ensures.framed c.file_of_body.ensures.says

pub returns-in-Ok-clause-reads : goal.returns-in-Ok-clause-reads
returns-in-Ok-clause-reads c =
    reads_back c.file_of_body.result c.in-Ok.body.now c.args.bytes.now (omega arith) c.in-Ok.ensures.framed c.file_of_body.ensures.says c.file_of_body.ensures.refused

pub returns-in-Ok-clause-error : goal.returns-in-Ok-clause-error
returns-in-Ok-clause-error c = body_error c.file_of_body.result c.args.bytes.now c.file_of_body.ensures.unframed

pub returns-in-Err-clause-reads : goal.returns-in-Err-clause-reads
returns-in-Err-clause-reads c = unframed_reads c.args.bytes.now c.from.result (omega arith) c.in-Err.ensures.refused

pub returns-in-Err-clause-error : goal.returns-in-Err-clause-error
returns-in-Err-clause-error c = subst (IsReadError c.args.bytes.now) (sym c.from.ensures) c.in-Err.ensures.error
