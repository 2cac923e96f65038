-- What is read of the input.
use Rattle.std.specs.Prelude.{ℕ, List, Option}
use Rattle.std.specs.Io.KnownBytes.{Keeps}
use Rattle.collate_commands.specs.Commands.{Asked, for_sorting}
use Rattle.program_files.specs.Inputs.{TakesWhole}

-- a sort reads the input to its end, and nothing else reads it
abbrev pub ReadsFor : Asked → Option (List ℕ) → Option (List ℕ) → List ℕ → Type 0
ReadsFor (for_sorting _) old new bytes = TakesWhole old new bytes
ReadsFor _ old new bytes = Keeps old new

-- the command reads the input
abbrev pub AsksForInput : Asked → Type 0
AsksForInput (for_sorting _) = Unit {0}
AsksForInput _ = ⊥
