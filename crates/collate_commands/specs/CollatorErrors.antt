-- What keeps an answer from being found.
use Rattle.collate_commands.specs.Commands.{Asked}
use Rattle.collate_commands.specs.InputRead.{AsksForInput}
use Rattle.program_files.specs.declared.program_error.ProgramError.{ProgramError}
use Rattle.program_files.specs.declared.program_error.ProgramError.TheVariants.{NoMemory, ReadFailed}

-- why a collator gives no answer: an allocation failed, or a read of the input
abbrev pub IsUnanswered : Asked → ProgramError → Type 0
IsUnanswered asked NoMemory = Unit {0}
IsUnanswered asked ReadFailed = AsksForInput asked
IsUnanswered asked _ = ⊥
