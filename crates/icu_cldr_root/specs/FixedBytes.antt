-- The bytes that a file fixes, in its last lines (UTS #35 part 5, "Root Collation Data Files").
use Rattle.std.specs.Prelude.{◌≡◌, ◌≢◌, ℕ, Bool, true, false, List, ◌++◌, Some, codes}
use Rattle.icu_cldr_root.specs.HexDigits.{byte_written}
use Rattle.icu_cldr_root.specs.declared.fixed_bytes.FixedByte.{FixedByte}
use Rattle.icu_cldr_root.specs.declared.fixed_bytes.FixedName.{FixedName}
use Rattle.icu_cldr_root.specs.declared.fixed_bytes.FixedName.TheVariants.{FirstImplicit, LastImplicit, FirstTrail, LastTrail, FirstSpecial, LastSpecial, SecondaryCommon, LastSecondaryCommon, FirstIgnorableSecondary, TertiaryCommon, FirstIgnorableTertiary}

-- what a line begins with, in brackets, that fixes a byte
abbrev pub fixed_name : FixedName → List ℕ
fixed_name FirstImplicit = codes "fixed first implicit byte "
fixed_name LastImplicit = codes "fixed last implicit byte "
fixed_name FirstTrail = codes "fixed first trail byte "
fixed_name LastTrail = codes "fixed last trail byte "
fixed_name FirstSpecial = codes "fixed first special byte "
fixed_name LastSpecial = codes "fixed last special byte "
fixed_name SecondaryCommon = codes "fixed secondary common byte "
fixed_name LastSecondaryCommon = codes "fixed last secondary common byte "
fixed_name FirstIgnorableSecondary = codes "fixed first ignorable secondary byte "
fixed_name TertiaryCommon = codes "fixed tertiary common byte "
fixed_name FirstIgnorableTertiary = codes "fixed first ignorable tertiary byte "

-- a text that begins with none of these
abbrev pub NamesNoByte : List ℕ → Type 0
NamesNoByte text = (name : FixedName) (behind : List ℕ) → text ≢ fixed_name name ++ behind

-- a text that fixes a byte, which it writes behind the name
abbrev pub WritesByte : List ℕ → FixedByte → Type 0
WritesByte text f = (word : List ℕ) × (text ≡ fixed_name f.name ++ word) × (byte_written word ≡ Some f.byte)

-- the byte that the last line of a file fixes
abbrev pub is_last_name : FixedName → Bool
is_last_name FirstIgnorableTertiary = true
is_last_name _ = false

-- one of these bytes is that of a file's last line
abbrev pub fixes_last : FixedByte → Bool
fixes_last f = is_last_name f.name
