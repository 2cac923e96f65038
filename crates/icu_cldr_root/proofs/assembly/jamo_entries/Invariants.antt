use Rattle.std.proofs.Common.{◌≡◌, ℕ, ◌+◌, ◌<◌, length, slice_index}
use Rattle.icu_cldr_root.specs.CharacterEntries.{entry_of_char}
use Rattle.icu_cldr_root.proofs.assembly.jamo_entries.Given as goal

-- the entries so far
abbrev pub invariant-loop-code : goal.invariant-loop-code
invariant-loop-code l = record {
  count : length l.jamo.items + 0x1100 ≡ l.code;
  entries : (k : ℕ) → k < length l.jamo.items → slice_index l.jamo.items k ≡ entry_of_char l.entries (0x1100 + k);
}
