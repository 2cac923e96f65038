-- Entries of names, and what stands at them in a buffer.
use Rattle.std.specs.Prelude.{◌≡◌, ℕ, zero, suc, ◌+◌, ◌-◌, ◌*◌, ◌≤◌, Bool, List, [], ◌∷◌, ◌++◌, drop, length, nat_eq, nat_lt, take, if◌then◌else◌}
use Rattle.std.specs.Int.{to_be_bytes, w64}
use Rattle.std.specs.List.{AllByRecursion}
use Rattle.icu_order_levels.specs.beginnings.KeyBeginnings.{AreBytes}
use Rattle.icu_index_keys.specs.Borders.{border_key, lies_before}
use Rattle.icu_index_keys.specs.declared.borders.Border.{Border}
use Rattle.icu_index_keys.specs.declared.name_entries.Entry.{Entry}

-- a number of 256 as base, with so many digits more behind it, and zeros where there are no more
abbrev pub gathered : ℕ → ℕ → List ℕ → ℕ
gathered zero value digits = value
gathered (suc n) value [] = gathered n (value * 256) []
gathered (suc n) value (d ∷ ds) = gathered n (value * 256 + d) ds

-- the first eight bytes of a key as a number
unfoldable pub prefix_of : List ℕ → ℕ
prefix_of key = gathered 8 0 key

-- each key is bytes
abbrev pub HaveByteKeys : List (List ℕ × List ℕ) → Type 0
HaveByteKeys xs = AllByRecursion (λ x. AreBytes x.0) xs

-- a count of bytes as it stands before them: one byte below 255, else the byte 255 and eight, the highest first
abbrev pub written_count : ℕ → List ℕ
written_count n = if nat_lt n 255 then n ∷ [] else 255 ∷ to_be_bytes w64 n

-- bytes with the count of them all before them, without the first few, which stand elsewhere
abbrev pub with_count : ℕ → List ℕ → List ℕ
with_count less bytes = written_count (length bytes) ++ drop less bytes

-- the count that stands first
abbrev pub count_of : List ℕ → ℕ
count_of [] = 0
count_of (b ∷ bs) = if nat_eq b 255 then prefix_of bs else b

-- how many bytes it takes
abbrev pub count_size : List ℕ → ℕ
count_size [] = 1
count_size (b ∷ bs) = if nat_eq b 255 then 9 else 1

-- what stands behind it
abbrev pub behind_count : List ℕ → List ℕ
behind_count [] = []
behind_count (b ∷ bs) = if nat_eq b 255 then drop 8 bs else bs

-- the bytes that are counted first, without those that stand elsewhere, as many as there are
abbrev pub first_counted : ℕ → List ℕ → List ℕ
first_counted less bytes = take (count_of bytes - less) (behind_count bytes)

-- what stands behind them
abbrev pub behind_counted : ℕ → List ℕ → List ℕ
behind_counted less bytes = drop (count_of bytes - less) (behind_count bytes)

-- the bytes that are counted first are all there
abbrev pub IsCounted : ℕ → List ℕ → Type 0
IsCounted less bytes = count_size bytes + (count_of bytes - less) ≤ length bytes

-- the key of an entry: the first eight bytes by the number that they are, as many as it has, and the others
abbrev pub key_in : List ℕ → Entry → List ℕ
key_in bytes e = take (count_of (drop e.start bytes)) (to_be_bytes w64 e.prefix) ++ first_counted 8 (drop e.start bytes)

-- the name of an entry
abbrev pub name_in : List ℕ → Entry → List ℕ
name_in bytes e = first_counted 0 (behind_counted 8 (drop e.start bytes))

-- both
abbrev pub keyed_in : List ℕ → Entry → List ℕ × List ℕ
keyed_in bytes e = (key_in bytes e, name_in bytes e)

-- an entry of a key and a name that stand in a buffer
pub record IsEntryIn (bytes : List ℕ) (e : Entry) : Type 0 where
  pub key_there : IsCounted 8 (drop e.start bytes)
  pub name_there : IsCounted 0 (behind_counted 8 (drop e.start bytes))
  pub begins : e.prefix ≡ prefix_of (key_in bytes e)

-- whether the key of an entry stands before a border: by the first eight bytes where they differ
abbrev pub entry_before : List ℕ → Border → Entry → Bool
entry_before bytes border e =
    if nat_eq e.prefix (prefix_of (border_key border)) then lies_before border (key_in bytes e) else nat_lt e.prefix (prefix_of (border_key border))

-- an entry of this key and this name
pub record IsEntryOf (bytes key name : List ℕ) (e : Entry) : Type 0 where
  pub key_is : key_in bytes e ≡ key
  pub name_is : name_in bytes e ≡ name
  pub sound : IsEntryIn bytes e

-- each entry is one of a key and a name in a buffer
abbrev pub AreEntriesIn : List ℕ → List Entry → Type 0
AreEntriesIn bytes entries = AllByRecursion (λ e. IsEntryIn bytes e) entries
