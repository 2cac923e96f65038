-- Numbers that spell no list.
use Rattle.std.specs.Prelude.{◌≡◌, ℕ, ◌^◌, List, [], ◌∷◌, length}
use Rattle.std.specs.Int.{w32}
use Rattle.std.specs.List.{flat_map}
use Rattle.std.specs.Str.{IsUtf8}
use Rattle.icu_table_files.specs.parts.SpeltParts.{AreBelow, bytes_of_numbers, bytes_of_parts}
use Rattle.icu_table_files.specs.TableBytes.{special_bytes}
use Rattle.icu_table_files.specs.declared.parts.form_error.FormError.{FormError}
use Rattle.icu_table_files.specs.declared.parts.form_error.FormError.TheVariants.{NoMemory}

-- an error of numbers that were to spell a list: if they spell one, memory ran out
abbrev pub RefusesNumbers : {X : Type 0} → (X → List ℕ) → List ℕ → FormError → Type 0
RefusesNumbers {X} words numbers e = (xs : List X) → flat_map words xs ≡ numbers → e ≡ NoMemory

-- an error of bytes that were to be so many parts: if they are, memory ran out
abbrev pub RefusesParts : ℕ → List ℕ → FormError → Type 0
RefusesParts count bytes e = (parts : List (List ℕ)) → length parts ≡ count → bytes_of_parts parts ≡ bytes → e ≡ NoMemory

-- an error of bytes that were to be a text: if they are, memory ran out
abbrev pub RefusesText : List ℕ → FormError → Type 0
RefusesText bytes e = IsUtf8 bytes → e ≡ NoMemory

-- an error of bytes that were to spell one number of 32 bits: if they do, memory ran out
abbrev pub RefusesNumber : List ℕ → FormError → Type 0
RefusesNumber bytes e = (x : ℕ) → bytes_of_numbers w32 (x ∷ []) ≡ bytes → e ≡ NoMemory

-- an error of bytes that were to spell special primary weights: if they do, memory ran out
abbrev pub RefusesSpecial : List ℕ → FormError → Type 0
RefusesSpecial bytes e = (numeric : ℕ) (last : List ℕ) → AreBelow (2 ^ 16) last → special_bytes numeric last ≡ bytes → e ≡ NoMemory

-- an error of parts that were to be those of a value that fits: if they are, memory ran out
abbrev pub RefusesPartsOf : {X : Type 0} → (X → List (List ℕ)) → (X → Type 0) → List (List ℕ) → FormError → Type 0
RefusesPartsOf {X} parts_of Fits parts e = (x : X) → Fits x → parts_of x ≡ parts → e ≡ NoMemory
