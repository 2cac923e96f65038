-- What the words of a command come to.
use Rattle.std.specs.Prelude.{◌≡◌}
use Rattle.program_files.specs.declared.program_error.ProgramError.{ProgramError}
use Rattle.program_files.specs.declared.program_error.ProgramError.TheVariants.{NoMemory}

-- an allocation failed
abbrev pub IsNoMemory : ProgramError → Type 0
IsNoMemory error = error ≡ NoMemory
