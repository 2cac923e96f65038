-- What a run takes of standard input and leaves on standard output and standard error: each fact is about the bytes
-- that a reader has left or a writer holds, before and after, as far as it says what they are.
use Rattle.std.specs.Prelude.{ℕ, List, Option, ◌⊎◌}
use Rattle.std.specs.Io.KnownBytes.{Keeps, Appends}
use Rattle.icu_options.specs.declared.settings.Strength.{Strength}
use Rattle.collate_commands.specs.Answers.{Compares, IsAnswer}
use Rattle.collate_commands.specs.Commands.{Asked, strength_of}
use Rattle.program_files.specs.ProgramErrors.{Lines, line_of, line_with}
use Rattle.program_files.specs.declared.program_error.ProgramError.TheVariants.{NoMemory, ReadFailed, WriteFailed}
use Rattle.collate_commands.specs.InputRead.{ReadsFor, AsksForInput}
use Rattle.program_files.specs.PartialWrites.{AppendsBeginning}

-- the bytes that a reader has left or a writer holds, where they are known
abbrev pub Known : Type 0
Known = Option (List ℕ)

-- with which texts a collator of a strength is refused
abbrev pub Refuses : Type 1
Refuses = Strength → List ℕ → Type 0

-- the answer was printed
abbrev pub PrintsAnswer : Compares → Known → Known → Known → Known → Asked → Type 0
PrintsAnswer compares old_input new_input old new asked =
    (input : List ℕ) × (output : List ℕ)
    × ReadsFor asked old_input new_input input × IsAnswer compares asked input output × Appends old new output

-- a beginning of the answer was printed
abbrev pub PrintsBeginning : Compares → Known → Known → Known → Known → Asked → Type 0
PrintsBeginning compares old_input new_input old new asked =
    (input : List ℕ) × (output : List ℕ)
    × ReadsFor asked old_input new_input input × IsAnswer compares asked input output × AppendsBeginning old new output

-- the run ran out of memory, and printed nothing
pub record LacksMemory (lines : Lines) (old_output new_output old_errors new_errors : Known) : Type 0 where
  pub nothing : Keeps old_output new_output
  pub said : AppendsBeginning old_errors new_errors (line_of lines NoMemory)

-- the run stopped since no collator was to be had, and printed nothing
pub record HasNoCollator (lines : Lines) (refuses : Refuses) (asked : Asked) (old_output new_output old_errors new_errors : Known) : Type 0 where
  pub text : List ℕ
  pub refused : refuses (strength_of asked) text
  pub nothing : Keeps old_output new_output
  pub said : AppendsBeginning old_errors new_errors (line_with lines text)

-- the run stopped since a read of the input failed, which the command asks for, and printed nothing
pub record FailsToRead (lines : Lines) (asked : Asked) (old_output new_output old_errors new_errors : Known) : Type 0 where
  pub asks : AsksForInput asked
  pub nothing : Keeps old_output new_output
  pub said : AppendsBeginning old_errors new_errors (line_of lines ReadFailed)

-- the run stopped where a write of the answer failed
pub record FailsToWrite (lines : Lines) (compares : Compares) (asked : Asked)
    (old_input new_input old_output new_output old_errors new_errors : Known) : Type 0 where
  pub beginning : PrintsBeginning compares old_input new_input old_output new_output asked
  pub said : AppendsBeginning old_errors new_errors (line_of lines WriteFailed)

-- a run that ends with status 1
abbrev pub Fails : Lines → Compares → Refuses → Known → Known → Known → Known → Known → Known → Asked → Type 0
Fails lines compares refuses old_input new_input old_output new_output old_errors new_errors asked =
    LacksMemory lines old_output new_output old_errors new_errors
    ⊎ (HasNoCollator lines refuses asked old_output new_output old_errors new_errors
    ⊎ (FailsToRead lines asked old_output new_output old_errors new_errors
    ⊎ FailsToWrite lines compares asked old_input new_input old_output new_output old_errors new_errors))
