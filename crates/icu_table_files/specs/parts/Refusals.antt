-- Bytes that spell nothing.
use Rattle.std.specs.Prelude.{◌≡◌, ℕ, ◌<◌, ◌^◌, List, ◌++◌, length}
use Rattle.icu_table_files.specs.parts.SpeltParts.{bytes_of_part}
use Rattle.icu_table_files.specs.declared.parts.form_error.FormError.{FormError}
use Rattle.icu_table_files.specs.declared.parts.form_error.FormError.TheVariants.{NoMemory}

-- an error of bytes that were to spell a value that fits: if they spell one, memory ran out
abbrev pub RefusesSpelling : {X : Type 0} → (X → List ℕ) → (X → Type 0) → List ℕ → FormError → Type 0
RefusesSpelling {X} spell Fits bytes e = (x : X) → Fits x → spell x ≡ bytes → e ≡ NoMemory

-- no part stands at the front
abbrev pub BeginsWithNoPart : List ℕ → Type 0
BeginsWithNoPart bytes = (part rest : List ℕ) → length part < 2 ^ 64 → bytes_of_part part ++ rest ≡ bytes → ⊥
