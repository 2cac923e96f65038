-- Columns, byte by byte.
use Rattle.std.proofs.Common.{◌≡◌, ℕ, ◌+◌, ◌<◌, ◌≤◌, List, length, get_or, drop}
use Rattle.std.proofs.lemmas.List.{at_drop_more, at_drop_all}
use Rattle.icu_cldr_files.specs.xml.XmlErrors.{next_column, column_from}

-- one byte more
pub column_more : (n : ℕ) (bytes : List ℕ) (i : ℕ) → i < length bytes → column_from n (drop i bytes) ≡ column_from (next_column n (get_or bytes i 0)) (drop (i + 1) bytes)
unfolding column_from
column_more n bytes i inside = at_drop_more (column_from n) bytes i 0 inside

-- behind the last byte
pub column_end : (n : ℕ) (bytes : List ℕ) (i : ℕ) → length bytes ≤ i → column_from n (drop i bytes) ≡ n
unfolding column_from
column_end n bytes i over = at_drop_all (column_from n) bytes i over
