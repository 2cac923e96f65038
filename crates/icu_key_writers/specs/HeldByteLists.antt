-- The bytes of a level that is held, in order.
use Rattle.std.specs.Prelude.{ℕ, List, ◌++◌, take}
use Rattle.icu_key_writers.specs.declared.held_bytes.HeldBytes.{HeldBytes}

-- the first ones, and then those for which there was no place beside them
unfoldable pub held_bytes : HeldBytes → List ℕ
held_bytes b = take b.count b.first ++ b.more.items
