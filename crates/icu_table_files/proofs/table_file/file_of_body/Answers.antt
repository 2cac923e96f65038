use Rattle.std.proofs.Common.{◌∙◌, ap, sym, subst, arith}
use Rattle.icu_table_files.specs.FileReading.{of_form_error}
use Rattle.icu_table_files.specs.inner.ReadRefusals.{IsNoFrameError}
use Rattle.icu_table_files.specs.inner.Vectors.{contents_read}
use Rattle.icu_table_files.proofs.FileLemmas.{widths_of}
use Rattle.icu_table_files.proofs.FileReadLemmas.{body_refuses, body_says, form_no_frame}
use Rattle.icu_table_files.proofs.table_file.file_of_body.Goals as goal

pub returns-in-Ok-clause-says : goal.returns-in-Ok-clause-says
returns-in-Ok-clause-says c =
    body_says c.file_of.result (contents_read c.in-Ok.texts c.in-Ok.vectors) c.args.body.now c.in-Ok.ensures.widths c.in-Ok.ensures.spelt c.file_of.ensures.keeps c.file_of.ensures.accepts

pub returns-in-Ok-clause-refused : goal.returns-in-Ok-clause-refused
returns-in-Ok-clause-refused c =
    body_refuses c.file_of.result (contents_read c.in-Ok.texts c.in-Ok.vectors) c.args.body.now (omega arith) c.in-Ok.ensures.widths c.in-Ok.ensures.spelt c.file_of.ensures.refused

pub returns-in-Err-clause-refused : goal.returns-in-Err-clause-refused
returns-in-Err-clause-refused c =
    λ says spells well_formed. c.from.ensures ∙ ap of_form_error (c.in-Err.ensures.refused spells.stored (widths_of spells.stored spells.storable) spells.spelt)

pub returns-in-Err-clause-unframed : goal.returns-in-Err-clause-unframed
returns-in-Err-clause-unframed c = subst IsNoFrameError (sym c.from.ensures) (form_no_frame c.in-Err.error)
