-- What keeps a program from printing an answer: the status that it ends with, and what it says.
use Rattle.std.specs.Prelude.{◌≡◌, ◌⊎◌, ℕ, List, [], ◌∷◌, ◌++◌, codes, string_bytes}
use Rattle.program_files.specs.declared.program_error.ProgramError.{ProgramError}
use Rattle.program_files.specs.declared.program_error.ProgramError.TheVariants.{WrongWords, NoMemory, Refused, ReadFailed, WriteFailed}
use Rattle.program_files.specs.declared.program_error.Wording.{Wording}

-- the status that a program ends with for an error
abbrev pub status_of : ProgramError → ℕ
status_of WrongWords = 2
status_of _ = 1

-- the status that a program over CLDR's data ends with for an error
abbrev pub failure_status : ProgramError → ℕ
failure_status WrongWords = 2
failure_status _ = 3

-- what is wrong
abbrev pub error_text : ProgramError → List ℕ
error_text WrongWords = codes "an argument isn't in UTF-8"
error_text NoMemory = codes "no memory"
error_text (Refused text) = string_bytes text
error_text ReadFailed = codes "read failed"
error_text WriteFailed = codes "write failed"

-- how a program says what is wrong: the line that says what commands there are, and what each other line begins with
pub record Lines : Type 0 where
  pub usage : List ℕ
  pub prefix : List ℕ

-- how a program's wording says it
abbrev pub lines_in : Wording → Lines
lines_in w = record { usage = w.usage.now; prefix = w.prefix.now }

-- a line that says this
abbrev pub line_with : Lines → List ℕ → List ℕ
line_with lines text = lines.prefix ++ (text ++ 10 ∷ [])

-- the line that is said of an error
abbrev pub line_of : Lines → ProgramError → List ℕ
line_of lines WrongWords = lines.usage
line_of lines error = line_with lines (error_text error)

-- why there is no collator: an allocation failed, or it is refused, by one of these texts
abbrev pub IsCollatorError : (List ℕ → Type 0) → ProgramError → Type 0
IsCollatorError refuses NoMemory = Unit {0}
IsCollatorError refuses (Refused text) = refuses (string_bytes text)
IsCollatorError refuses _ = ⊥

-- why the input isn't read to its end: an allocation failed, or a read
abbrev pub IsUnread : ProgramError → Type 0
IsUnread error = (error ≡ NoMemory) ⊎ (error ≡ ReadFailed)
