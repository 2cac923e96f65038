-- Collation elements (UTS #10, "Collation Weights, Elements, and Keys"). An element has a primary weight of 32 bits, a
-- secondary of 16, and a lower half of 16 bits. That half has the case in its two highest bits, the tertiary weight
-- under 3F3F, and the quaternary in bits 7 and 6.
use Rattle.std.specs.Prelude.{ℕ, ◌+◌, ◌*◌, ◌/◌, ◌%◌, ◌^◌}

-- a collation element
pub record Element : Type 0 where
  pub primary : ℕ
  pub secondary : ℕ
  pub lower : ℕ

-- what an element has beside its primary weight
pub record NonPrimaryWeights : Type 0 where
  pub secondary : ℕ
  pub lower : ℕ

-- the element of 64 bits
abbrev pub element_of : ℕ → Element
element_of bits = record { primary = bits / 2 ^ 32; secondary = bits / 2 ^ 16 % 2 ^ 16; lower = bits % 2 ^ 16 }

-- the 64 bits of an element
abbrev pub bits_of : Element → ℕ
bits_of e = e.primary * 2 ^ 32 + e.secondary * 2 ^ 16 + e.lower

-- what 32 bits say of the weights beside the primary one
abbrev pub non_primary_of : ℕ → NonPrimaryWeights
non_primary_of bits = record { secondary = bits / 2 ^ 16; lower = bits % 2 ^ 16 }

-- these 32 bits
abbrev pub non_primary_bits : NonPrimaryWeights → ℕ
non_primary_bits w = w.secondary * 2 ^ 16 + w.lower

-- the part of an element beside its primary weight
abbrev pub non_primary : Element → NonPrimaryWeights
non_primary e = record { secondary = e.secondary; lower = e.lower }

-- the common secondary weight, and the lower half with the common tertiary weight
abbrev pub common : ℕ
common = 0x500

-- a primary weight with common weights after it
abbrev pub of_primary : ℕ → Element
of_primary p = record { primary = p; secondary = common; lower = common }

-- a secondary weight with the common tertiary after it
abbrev pub of_secondary : ℕ → Element
of_secondary s = record { primary = 0; secondary = s; lower = common }

-- the element that stands after the last one of a text
abbrev pub end_element : Element
end_element = record { primary = 1; secondary = 0x100; lower = 0x100 }

-- the case bits of a lower half
abbrev pub case_mask : ℕ
case_mask = 0xC000

-- the tertiary weight of a lower half
abbrev pub tertiary_mask : ℕ
tertiary_mask = 0x3F3F

-- the quaternary bits of a lower half
abbrev pub quaternary_mask : ℕ
quaternary_mask = 0xC0
