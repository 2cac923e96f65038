-- What a line says (UTS #35 part 5, "Root Collation Data Files").
use Rattle.std.specs.Prelude.{◌≡◌, ◌≢◌, ℕ, Bool, true, false, ◌/◌, ◌^◌, List, [], ◌∷◌, ◌++◌, ◌⊎◌, Some, codes, bytes_eq, string_bytes}
use Rattle.std.specs.List.{list_any}
use Rattle.icu_cldr_root.specs.FixedBytes.{NamesNoByte, WritesByte}
use Rattle.icu_cldr_root.specs.HexDigits.{byte_written}
use Rattle.icu_cldr_root.specs.LineParts.{text_of}
use Rattle.icu_cldr_root.specs.Ranges.{WritesRange}
use Rattle.icu_cldr_root.specs.Reserved.{HasOnlyWeight, SaysReserved, is_sample, reserved_sample}
use Rattle.icu_cldr_root.specs.Words.{BeginsWithWord, WordsWrite}
use Rattle.icu_cldr_root.specs.WrittenMappings.{WritesMapping}
use Rattle.icu_cldr_root.specs.declared.ideographs.CharRange.{CharRange}
use Rattle.icu_cldr_root.specs.declared.line.LeadByte.{LeadByte}
use Rattle.icu_cldr_root.specs.declared.line.Line.{Line}
use Rattle.icu_cldr_root.specs.declared.line.Line.TheVariants as says
use Rattle.icu_cldr_root.specs.declared.mapping.Mapping.{Mapping}
use Rattle.icu_cldr_root.specs.declared.reserved.ReservedPlace.{ReservedPlace}

-- the words of a text
abbrev pub AreLineWords : List ℕ → List (List ℕ) → Type 0
AreLineWords text words = WordsWrite (λ word w. word ≡ w) text words

-- the ranges of characters that words write
abbrev pub WriteRanges : List ℕ → List CharRange → Type 0
WriteRanges text ranges = WordsWrite (λ word r. WritesRange word r.first r.last) text ranges

-- what a line begins with, in brackets, that has the ideographs
abbrev pub ideographs_name : List ℕ
ideographs_name = codes "Unified_Ideograph"

-- what a line begins with, in brackets, that speaks of a lead byte
abbrev pub lead_name : List ℕ
lead_name = codes "top_byte"

-- what a line begins with, in brackets, that says the version
abbrev pub version_name : List ℕ
version_name = codes "UCA version = "

-- a text in brackets, whose inside begins with a name and goes on so
abbrev pub IsBracketed : List ℕ → List ℕ → List ℕ → Type 0
IsBracketed text name behind = text ≡ 91 ∷ (name ++ behind) ++ 93 ∷ []

-- what is said of a lead byte: the byte, and whether COMPRESS is among the other words
abbrev pub SaysOfLead : List ℕ → LeadByte → Type 0
SaysOfLead text l = (word : List ℕ) × (rest : List ℕ) × (words : List (List ℕ)) × BeginsWithWord text word rest
    × (byte_written word ≡ Some l.lead) × AreLineWords rest words
    × (l.is_compressible ≡ list_any (λ w. bytes_eq w (codes "COMPRESS")) words)

-- a character of no text, with which the file begins mappings that are none of a text's
abbrev pub homeless : ℕ
homeless = 0xFDD0

-- what is mapped behind the first character is the digit 4
abbrev pub is_digit_sample : Mapping → Bool
is_digit_sample m = is_sample 0x34 m

-- the mapping of the digit 4 behind the character of no text, whose only element has the lead byte of numbers
abbrev pub HasNumericLead : Mapping → ℕ → Type 0
HasNumericLead m lead =
    (weight : ℕ) × (m.first ≡ homeless) × (is_digit_sample m ≡ true) × HasOnlyWeight m weight × (lead ≡ weight / 2 ^ 24)

-- what stands in brackets has none of these names
pub record IsOtherName (inside : List ℕ) : Type 0 where
  pub ideographs : (behind : List ℕ) → inside ≢ ideographs_name ++ behind
  pub lead : (behind : List ℕ) → inside ≢ lead_name ++ behind
  pub version : (behind : List ℕ) → inside ≢ version_name ++ behind

-- a text in brackets of another name, which fixes no byte
abbrev pub IsOtherBracketed : List ℕ → Type 0
IsOtherBracketed text = (inside : List ℕ) × (text ≡ 91 ∷ inside ++ 93 ∷ []) × IsOtherName inside × NamesNoByte inside

-- a text that tables need nothing of: there is none, it is in brackets and of another name, or it maps what is no text
abbrev pub SaysNothing : List ℕ → Type 0
SaysNothing text =
    (text ≡ [])
    ⊎ IsOtherBracketed text
    ⊎ ((m : Mapping) × WritesMapping text m × (m.first ≡ homeless) × (is_digit_sample m ≡ false)
    × ((place : ReservedPlace) → is_sample (reserved_sample place) m ≡ false))

-- what the text of a line says
abbrev pub TextSays : List ℕ → Line → Type 0
TextSays text says.Nothing = SaysNothing text
TextSays text (says.Ideographs ranges) =
    (behind : List ℕ) × IsBracketed text ideographs_name behind × WriteRanges behind ranges.items
TextSays text (says.Version version) = IsBracketed text version_name (string_bytes version)
TextSays text (says.Fixed f) = (inside : List ℕ) × (text ≡ 91 ∷ inside ++ 93 ∷ []) × WritesByte inside f
TextSays text (says.LeadByte l) = (behind : List ℕ) × IsBracketed text lead_name behind × SaysOfLead behind l
TextSays text (says.NumericLead lead) = (m : Mapping) × WritesMapping text m × HasNumericLead m lead
TextSays text (says.Reserved r) = (m : Mapping) × WritesMapping text m × (m.first ≡ homeless) × SaysReserved m r
TextSays text (says.Mapping m) = WritesMapping text m × (m.first ≢ homeless)

-- what a line says, its comment aside
abbrev pub LineSays : List ℕ → Line → Type 0
LineSays line said = TextSays (text_of line) said
