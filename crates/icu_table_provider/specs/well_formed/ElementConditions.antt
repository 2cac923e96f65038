-- The conditions on one reachable element that depend on other tables than its own.
use Rattle.std.specs.Prelude.{ℕ, ◌/◌, ◌%◌, ◌^◌, Bool, true, not, ◌&&◌, ◌||◌, ◌==◌, nat_le, nat_lt, bit_and, List, [], ◌∷◌}
use Rattle.icu_table_entries.specs.Elements.{Element, common, case_mask}
use Rattle.icu_table_entries.specs.ElementConditions.{tertiary_of}
use Rattle.icu_table_provider.specs.Reorderings.{lead_byte}
use Rattle.icu_table_provider.specs.SpecialPrimaries.{is_compressible}
use Rattle.icu_table_provider.specs.declared.well_formed.condition.ReachableElementCondition.{ReachableElementCondition}
use Rattle.icu_table_provider.specs.declared.well_formed.condition.ReachableElementCondition.TheVariants.{Width, BackwardLead, TertiaryElement, MiddleLead, ImplicitLength, NumericLead, SharedLead, SecondByte}
use Rattle.icu_table_provider.specs.well_formed.Leads.{is_middle}
use Rattle.icu_table_provider.specs.CollatorTables.{CollatorTables, is_forward, reorder, new_lead}

-- the lead byte of implicit weights
abbrev pub implicit_lead : ℕ
implicit_lead = 0xFE

-- an element with a tertiary weight and no secondary weight
abbrev pub is_tertiary_element : Element → Bool
is_tertiary_element x = x.secondary == 0 && not (tertiary_of x == 0)

-- upper case: of the two case bits the higher one
abbrev pub upper_case : ℕ
upper_case = 0x8000

-- the element is upper case, and its tertiary weight is above the common one
abbrev pub is_high_tertiary_element : Element → Bool
is_high_tertiary_element x = bit_and x.lower case_mask == upper_case && nat_lt common (tertiary_of x)

-- a weight has this lead byte, or isn't taken to where the weights with it go
abbrev pub is_apart : CollatorTables → ℕ → ℕ → Bool
is_apart all b p = lead_byte p == b || not (lead_byte (reorder all p) == new_lead all b)

-- none of the three bytes below the lead is zero
abbrev pub has_low_bytes : ℕ → Bool
has_low_bytes p = not (p / 0x10000 % 256 == 0) && not (p / 0x100 % 256 == 0) && not (p % 256 == 0)

-- the second byte is from 04 to FE
abbrev pub has_second_byte : ℕ → Bool
has_second_byte p = nat_le 4 (p / 0x10000 % 256) && nat_le (p / 0x10000 % 256) 0xFE

-- what each condition asks of a nonzero primary weight
abbrev pub primary_meets : ReachableElementCondition → CollatorTables → ℕ → Bool
primary_meets MiddleLead all p = not (is_middle (lead_byte p)) || is_middle (lead_byte (reorder all p))
primary_meets ImplicitLength all p = not (lead_byte p == implicit_lead) || has_low_bytes p
primary_meets NumericLead all p = not (lead_byte p == all.special.numeric)
primary_meets SharedLead all p = is_apart all implicit_lead p && is_apart all all.special.numeric p
primary_meets SecondByte all p = not (is_compressible all.special (lead_byte p)) || has_second_byte p
primary_meets _ all p = true

-- what each condition asks of an element
abbrev pub reachable_element_meets : ReachableElementCondition → CollatorTables → Element → Bool
reachable_element_meets Width all x = nat_lt x.primary (2 ^ 32) && nat_lt x.secondary (2 ^ 16) && nat_lt x.lower (2 ^ 16)
reachable_element_meets BackwardLead all x = is_forward all || not (x.secondary / 256 == 2)
reachable_element_meets TertiaryElement all x = not (is_tertiary_element x) || is_high_tertiary_element x
reachable_element_meets condition all x = x.primary == 0 || primary_meets condition all x.primary

-- all of them, in the order in which an error names them
abbrev pub element_conditions : List ReachableElementCondition
element_conditions = Width ∷ BackwardLead ∷ TertiaryElement ∷ MiddleLead ∷ ImplicitLength ∷ NumericLead ∷ SharedLead ∷ SecondByte ∷ []
