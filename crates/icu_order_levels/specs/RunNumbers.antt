-- The numbers of the bytes by which each level writes runs of its common weight (UTS #10, "Run-Length Compression"):
-- those of ICU's keys.
use Rattle.std.specs.Prelude.{ℕ, ◌^◌}
use Rattle.icu_order_levels.specs.declared.run_bytes.RunBytes.{RunBytes}

-- the common weight of secondaries, and of tertiaries without case bits
abbrev pub common_weight : ℕ
common_weight = 0x500

-- runs of secondaries, and of tertiaries with case bits, lower case first
abbrev pub secondary_run_bytes : RunBytes
secondary_run_bytes = record { common = common_weight; low = 0x05; middle = 0x25; high = 0x45; count = 33 }

-- runs of tertiaries without case bits
abbrev pub tertiary_run_bytes : RunBytes
tertiary_run_bytes = record { common = common_weight; low = 0x05; middle = 0x65; high = 0xC5; count = 97 }

-- runs of tertiaries with case bits, upper case first: the common weight has its case bits inverted
abbrev pub upper_first_tertiary_run_bytes : RunBytes
upper_first_tertiary_run_bytes = record { common = 0xC500; low = 0x85; middle = 0xA5; high = 0xC5; count = 33 }

-- runs of quaternaries, whose common weight is above each primary
abbrev pub quaternary_run_bytes : RunBytes
quaternary_run_bytes = record { common = 2 ^ 32; low = 0x1C; middle = 0x8C; high = 0xFC; count = 113 }

-- runs of case nibbles, lower case first: the common one is lower, 0
abbrev pub lower_first_case_run_bytes : RunBytes
lower_first_case_run_bytes = record { common = 0; low = 1; middle = 7; high = 13; count = 7 }

-- runs of case nibbles, upper case first: the common one is lower, 2, above which there is none
abbrev pub upper_first_case_run_bytes : RunBytes
upper_first_case_run_bytes = record { common = 2; low = 3; middle = 15; high = 27; count = 13 }
