-- The parts of characters that are read one after another.
use Rattle.std.specs.Prelude.{ℕ, List, ◌++◌}
use Rattle.icu_text_decomposition.specs.declared.char_parts.Parts.{Parts}
use Rattle.icu_text_decomposition.specs.inner.CharParts.{begun_left, parts_of}

-- the parts that are still to be read
unfoldable pub parts_left : {T : Type 0} → (T → List ℕ) → Parts T → List ℕ
parts_left text p = begun_left p.begun ++ parts_of (text p.rest)
