-- What an error says of a run that it stops.
use Rattle.std.specs.Prelude.{string_bytes}
use Rattle.std.specs.Io.KnownBytes.{Keeps}
use Rattle.collate_commands.specs.Answers.{Compares}
use Rattle.collate_commands.specs.Commands.{Asked, strength_of}
use Rattle.collate_commands.specs.InputRead.{AsksForInput}
use Rattle.collate_commands.specs.ProgramRuns.{Known, Refuses, PrintsBeginning}
use Rattle.program_files.specs.declared.program_error.ProgramError.{ProgramError}
use Rattle.program_files.specs.declared.program_error.ProgramError.TheVariants.{WrongWords, NoMemory, Refused, ReadFailed, WriteFailed}

-- words that were right were answered by nothing, or by a beginning where a write failed
abbrev pub Stops : Compares → Refuses → Asked → Known → Known → Known → Known → ProgramError → Type 0
Stops compares refuses asked old_input new_input old new WrongWords = ⊥
Stops compares refuses asked old_input new_input old new NoMemory = Keeps old new
Stops compares refuses asked old_input new_input old new (Refused text) = refuses (strength_of asked) (string_bytes text) × Keeps old new
Stops compares refuses asked old_input new_input old new ReadFailed = AsksForInput asked × Keeps old new
Stops compares refuses asked old_input new_input old new WriteFailed = PrintsBeginning compares old_input new_input old new asked
