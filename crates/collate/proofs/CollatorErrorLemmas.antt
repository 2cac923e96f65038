-- What a refused collator says of its tables.
use Rattle.std.proofs.Common.{◌≡◌, ℕ, List, string_bytes, Result, Ok, IfOk, subst}
use Rattle.program_files.specs.ProgramErrors.{IsCollatorError}
use Rattle.program_files.specs.declared.program_error.ProgramError.{ProgramError}
use Rattle.program_files.specs.declared.program_error.ProgramError.TheVariants.{WrongWords, NoMemory, Refused, ReadFailed, WriteFailed}

-- what each text says of its cause holds of the error
pub error_says : (P Q : List ℕ → Type 0) → ((text : List ℕ) → P text → Q text) → (error : ProgramError) → IsCollatorError P error → IsCollatorError Q error
error_says P Q f WrongWords is = is
error_says P Q f NoMemory is = is
error_says P Q f (Refused text) is = f (string_bytes text) is
error_says P Q f ReadFailed is = is
error_says P Q f WriteFailed is = is

-- what holds of each value holds of the one that there is
pub of_ok : {T E : Type 0} (P : T → Type 0) (r : Result T E) (t : T) → IfOk r P → r ≡ Ok t → P t
of_ok P r t holds is = subst (λ v. IfOk v P) is holds
