-- What is printed, where it may be stopped.
use Rattle.std.specs.Prelude.{ℕ, List}
use Rattle.std.specs.Io.KnownBytes.{Appends, Keeps}
use Rattle.program_files.specs.PartialWrites.{AppendsBeginning}
use Rattle.collate_commands.specs.ProgramRuns.{Known}
use Rattle.program_files.specs.declared.program_error.ProgramError.{ProgramError}
use Rattle.program_files.specs.declared.program_error.ProgramError.TheVariants.{NoMemory, WriteFailed}

-- such a text was printed
abbrev pub Prints : (List ℕ → Type 0) → Known → Known → Type 0
Prints is_text old new = (text : List ℕ) × is_text text × Appends old new text

-- nothing was printed where memory ran out, and where a write failed a beginning of such a text
abbrev pub StopsPrinting : (List ℕ → Type 0) → Known → Known → ProgramError → Type 0
StopsPrinting is_text old new NoMemory = Keeps old new
StopsPrinting is_text old new WriteFailed = (text : List ℕ) × is_text text × AppendsBeginning old new text
StopsPrinting is_text old new _ = ⊥
