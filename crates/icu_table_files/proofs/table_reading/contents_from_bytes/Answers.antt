use Rattle.std.proofs.Common.{refl, arith}
use Rattle.icu_table_files.specs.declared.table_reading.FileTexts.{FileTexts}
use Rattle.icu_table_files.specs.declared.table_reading.TableVectors.{TableVectors}
use Rattle.icu_table_files.specs.TableBytes.{content_parts}
use Rattle.icu_table_files.specs.inner.Vectors.{HaveWidths, contents_read, parts_in_file}
use Rattle.icu_table_files.proofs.RefusalLemmas.{refused_parts, spelt_parts}
use Rattle.icu_table_files.proofs.table_reading.contents_from_bytes.Goals as goal

pub returns-in-Ok-clause-spelt : goal.returns-in-Ok-clause-spelt
returns-in-Ok-clause-spelt c =
    spelt_parts c.contents_of_parts.result (λ (p : FileTexts × TableVectors). contents_read p.0 p.1) content_parts (parts_in_file c.in-Ok.parts) c.args.body.now c.in-Ok.ensures.spelt c.contents_of_parts.ensures.spelt

pub returns-in-Ok-clause-refused : goal.returns-in-Ok-clause-refused
returns-in-Ok-clause-refused c =
    refused_parts c.contents_of_parts.result content_parts HaveWidths (parts_in_file c.in-Ok.parts) c.args.body.now (omega arith) c.in-Ok.ensures.spelt c.contents_of_parts.ensures.refused

pub returns-in-Err-clause-refused : goal.returns-in-Err-clause-refused
returns-in-Err-clause-refused c = λ s widths e. c.in-Err.ensures.refused (content_parts s) refl e
