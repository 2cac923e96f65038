-- Texts that end after some of another's characters.
use Rattle.std.specs.Prelude.{ℕ, List, take}
use Rattle.icu_element_cursor.specs.declared.first_chars.FirstChars.{FirstChars}

-- the characters of the text, as many as are left
abbrev pub first_chars : {T : Type 0} → (T → List ℕ) → FirstChars T → List ℕ
first_chars text t = take t.left (text t.text)
