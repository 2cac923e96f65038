-- Errors that name a file.
use Rattle.std.specs.Prelude.{◌≡◌, ℕ, List, string_bytes}
use Rattle.cldr_languages.specs.declared.language_error.LanguageError.{LanguageError}
use Rattle.cldr_languages.specs.declared.language_error.LanguageError.TheVariants as errors

-- an allocation failed, or this file isn't there, isn't read, or isn't in its form
abbrev pub IsOfFile : List ℕ → LanguageError → Type 0
IsOfFile file errors.NoMemory = Unit {0}
IsOfFile file (errors.NoData name) = string_bytes name ≡ file
IsOfFile file (errors.Unread name error) = string_bytes name ≡ file
IsOfFile file (errors.Data name fault) = string_bytes name ≡ file
IsOfFile file _ = ⊥
