-- What lines say of special primary weights (UTS #35 part 5, "Root Collation Data Files").
use Rattle.std.specs.Prelude.{◌≡◌, ℕ, ◌*◌, ◌/◌, ◌%◌, ◌^◌, ◌<◌, Bool, false, ◌==◌, ◌&&◌, ◌||◌, nat_le, List, [], ◌∷◌, Option, Some, None, bytes_eq, fold, if◌then◌else◌, slice_index}
use Rattle.std.specs.List.{flat_map, list_any}
use Rattle.std.specs.Option.{option_or}
use Rattle.icu_options.specs.declared.settings.MaxVariable.{MaxVariable}
use Rattle.icu_options.specs.declared.settings.MaxVariable.TheVariants.{Space, Punctuation, Symbol, Currency}
use Rattle.icu_table_provider.specs.SpecialPrimaries.{SpecialPrimaries, group_index, is_compressible}
use Rattle.icu_cldr_root.specs.LineElements.{respelt}
use Rattle.icu_cldr_root.specs.declared.fractional_element.FractionalElement.{FractionalElement}
use Rattle.icu_cldr_root.specs.declared.fractional_element.Primary.{Primary}
use Rattle.icu_cldr_root.specs.declared.fractional_element.Primary.TheVariants.{Weight, OfIdeograph}
use Rattle.icu_cldr_root.specs.declared.line.Line.{Line}
use Rattle.icu_cldr_root.specs.declared.line.Line.TheVariants as says
use Rattle.icu_cldr_root.specs.declared.mapping.Mapping.{Mapping}

-- a line says that weights with this lead byte compress
abbrev pub says_compressible : ℕ → Line → Bool
says_compressible lead (says.LeadByte l) = lead == l.lead && l.is_compressible
says_compressible lead _ = false

-- the lead byte of numbers, if a line has it
abbrev pub numeric_leads_of : Line → List ℕ
numeric_leads_of (says.NumericLead lead) = lead ∷ []
numeric_leads_of _ = []

-- a character of no text, with which the first primary weights of scripts and groups begin
abbrev pub boundary : ℕ
boundary = 0xFDD1

-- the character that stands for what follows a group: for punctuation, symbols, currencies and digits
abbrev pub sample_behind : MaxVariable → ℕ
sample_behind Space = 0x201C
sample_behind Punctuation = 0x263A
sample_behind Symbol = 0x20AC
sample_behind Currency = 0x34

-- The two highest bytes of the first primary weight after a group. Only such a first weight has a second byte of at
-- most 02, and 00 stands for it.
abbrev pub group_end : ℕ → ℕ
group_end first = let end = first / 2 ^ 16 in if nat_le (end % 256) 2 then end / 256 * 256 else end

-- the end of a group, by the first primary weight after it
abbrev pub end_by_primary : Primary → Option ℕ
end_by_primary (Weight weight) = Some (group_end (respelt weight))
end_by_primary (OfIdeograph c) = None

-- the end of a group, by the elements of what is mapped to that weight: one
abbrev pub end_by_elements : List FractionalElement → Option ℕ
end_by_elements [] = None
end_by_elements (e ∷ []) = end_by_primary e.primary
end_by_elements (e ∷ f ∷ es) = None

-- the end of the group before what a character stands for, if a mapping says it
abbrev pub group_end_in : ℕ → Mapping → Option ℕ
group_end_in sample m =
    if m.first == boundary && bytes_eq m.suffix.items (sample ∷ []) then end_by_elements m.elements.items else None

-- the end of that group, if a line says it
abbrev pub group_end_by : ℕ → Line → Option ℕ
group_end_by sample (says.Mapping m) = group_end_in sample m
group_end_by sample _ = None

-- the end of that group by lines, of which the last that says it counts
abbrev pub group_end_said : ℕ → List Line → Option ℕ
group_end_said sample said = fold (λ end line. option_or (group_end_by sample line) end) None said

-- The special primary weights are those that lines say. Each group ends before what its sample stands for, and one line
-- has the lead byte of numbers. The lead bytes that compress are those of lines with COMPRESS and that of implicit
-- weights, FE.
pub record SaysSpecials (special : SpecialPrimaries) (said : List Line) : Type 0 where
  pub ends : (group : MaxVariable) → group_end_said (sample_behind group) said ≡ Some (slice_index special.last (group_index group))
  pub numeric : flat_map numeric_leads_of said ≡ special.numeric ∷ []
  pub compressible : (lead : ℕ) → lead < 256 → is_compressible special lead ≡ (lead == 0xFE || list_any (says_compressible lead) said)
