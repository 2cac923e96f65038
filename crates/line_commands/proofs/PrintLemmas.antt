-- What was printed of a text is printed of one that is so.
use Rattle.std.proofs.Common.{◌≡◌, Err, IfErr, List, Ok, OnOk, Option, Result, sym, subst, ℕ}
use Rattle.std.specs.Io.KnownBytes.{Appends}
use Rattle.program_files.specs.declared.program_error.ProgramError.{ProgramError}
use Rattle.program_files.specs.declared.program_error.ProgramError.TheVariants as errors
use Rattle.line_commands.specs.Printed.{Prints, StopsPrinting}

module _ (is_text : List ℕ → Type 0) (text : List ℕ) (is : is_text text) (old new : Option (List ℕ)) where
  pub prints_so : {X E : Type 0} (r : Result X E) → OnOk r (Appends old new text) → OnOk r (Prints is_text old new)
  prints_so (Ok x) h = (text, is, h)
  prints_so (Err e) h = tt

  stops_so_at : (e : ProgramError) → StopsPrinting (λ t. t ≡ text) old new e → StopsPrinting is_text old new e
  stops_so_at errors.NoMemory h = h
  stops_so_at errors.WriteFailed h = (h.0, subst is_text (sym h.1) is, h.2)
  stops_so_at errors.WrongWords h = h
  stops_so_at (errors.Refused line) h = h
  stops_so_at errors.ReadFailed h = h

  pub stops_so : {X : Type 0} (r : Result X ProgramError) → IfErr r (StopsPrinting (λ t. t ≡ text) old new) → IfErr r (StopsPrinting is_text old new)
  stops_so (Ok x) h = tt
  stops_so (Err e) h = stops_so_at e h
