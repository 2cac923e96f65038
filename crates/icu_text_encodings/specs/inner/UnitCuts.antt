-- Units before which a text may be cut.
use Rattle.std.specs.Prelude.{◌≡◌, ℕ, false, List, [], ◌∷◌, ⊤}
use Rattle.std.specs.Char.Utf16.{is_low_surrogate}
use Rattle.bstr.specs.Utf8.{continues}

-- no byte comes first that can only continue a character (Unicode Standard, "Unicode Encoding Forms")
abbrev pub StartsClean : List ℕ → Type 0
StartsClean [] = ⊤
StartsClean (b ∷ bs) = continues b ≡ false

-- no trail surrogate comes first
abbrev pub StartsNoTrail : List ℕ → Type 0
StartsNoTrail [] = ⊤
StartsNoTrail (u ∷ us) = is_low_surrogate u ≡ false
