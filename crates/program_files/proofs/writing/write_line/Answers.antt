-- Whether a write fails or not, a beginning of the line stands there.
use Rattle.program_files.proofs.WritingLemmas.{AppendsBeginning_either}
use Rattle.program_files.proofs.writing.write_line.Goals as goal

pub returns : goal.returns
returns g c =
    rw c.as_bytes.ensures.value at
    (AppendsBeginning_either c.write_parts.result _ _ _ c.write_parts.ensures.ok c.write_parts.ensures.err)
