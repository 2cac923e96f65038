-- What is said of a file.
use Rattle.std.specs.Prelude.{◌≡◌, ◌≤◌, ◌<◌, ℕ, List, ◌++◌, codes, All, length}

-- a name of at most 200 printable characters of ASCII
abbrev pub IsPlainName : List ℕ → Type 0
IsPlainName file = (length file ≤ 200) × All (λ b. (32 ≤ b) × (b < 127)) file

-- a text that names a file, by its very name if that is plain, and then says something of it
abbrev pub IsSaidOf : List ℕ → List ℕ → Type 0
IsSaidOf file text = (name what : List ℕ) × (IsPlainName file → name ≡ file) × (text ≡ name ++ codes ": " ++ what)
