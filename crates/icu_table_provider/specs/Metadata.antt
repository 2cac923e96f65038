-- Which tables a collation has, and how they are read: the bits of its metadata that aren't settings.
use Rattle.std.specs.Prelude.{ℕ, Bool}
use Rattle.icu_options.specs.Metadata.{is_bit_set}

-- it has a tailoring
abbrev pub is_tailored : ℕ → Bool
is_tailored bits = is_bit_set bits 3

-- it has diacritics of its own
abbrev pub has_tailored_diacritics : ℕ → Bool
has_tailored_diacritics bits = is_bit_set bits 4

-- it has a reordering
abbrev pub has_reordering : ℕ → Bool
has_reordering bits = is_bit_set bits 5

-- the dot of U+0307 is left out before U+0300, U+0301 and U+0303, as Lithuanian keeps it on an i under another mark
abbrev pub is_lithuanian : ℕ → Bool
is_lithuanian bits = is_bit_set bits 6

-- bit 8: variable elements are shifted
abbrev pub is_shifted : ℕ → Bool
is_shifted bits = is_bit_set bits 8
