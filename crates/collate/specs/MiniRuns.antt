-- What a run takes of standard input and leaves on standard output and standard error, in the words of the commands
-- that it has: by Mini's tables, with the program's own lines.
use Rattle.collate_commands.specs.Commands.{Asked}
use Rattle.program_files.specs.ProgramErrors.{line_of}
use Rattle.collate_commands.specs.ProgramRuns as runs
use Rattle.program_files.specs.PartialWrites.{AppendsBeginning}
use Rattle.program_files.specs.declared.program_error.ProgramError.{ProgramError}
use Rattle.collate.specs.Answers.{mini_compares}
use Rattle.collate.specs.CollateLines.{collate_lines}
use Rattle.collate.specs.MiniErrors.{mini_refuses}

-- the line of an error was written, or a beginning where a write failed there too
abbrev pub Says : ProgramError → runs.Known → runs.Known → Type 0
Says error old new = AppendsBeginning old new (line_of collate_lines error)

-- the answer by Mini's tables was printed
abbrev pub PrintsMiniAnswer : runs.Known → runs.Known → runs.Known → runs.Known → Asked → Type 0
PrintsMiniAnswer old_input new_input old new asked = runs.PrintsAnswer mini_compares old_input new_input old new asked

-- a run over Mini's tables that ends with status 1
abbrev pub FailsOverMini : Asked → runs.Known → runs.Known → runs.Known → runs.Known → runs.Known → runs.Known → Type 0
FailsOverMini asked old_input new_input old_output new_output old_errors new_errors =
    runs.Fails collate_lines mini_compares mini_refuses old_input new_input old_output new_output old_errors new_errors asked
