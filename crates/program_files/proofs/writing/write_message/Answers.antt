-- Whether the write fails or not, a beginning of the message stands there.
use Rattle.program_files.proofs.WritingLemmas.{AppendsBeginning_either}
use Rattle.program_files.proofs.writing.write_message.Goals as goal

pub returns : goal.returns
returns g c =
    rw c.as_bytes.ensures.value at
    (AppendsBeginning_either c.write_text.result _ _ _ c.write_text.ensures.ok c.write_text.ensures.err)
