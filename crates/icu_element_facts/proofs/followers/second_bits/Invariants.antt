use Rattle.std.proofs.Common.{◌≡◌, ℕ, ◌<◌, Some}
use Rattle.std.specs.Prelude.{slice_get}
use Rattle.icu_table_data.specs.Data.{Mapping}
use Rattle.icu_table_data.specs.StoredData.{found_context}
use Rattle.icu_element_facts.specs.Followers.{DiffersFromPair, HasNoBit}
use Rattle.icu_element_facts.proofs.followers.second_bits.Given as goal

-- no mapping so far begins with the character and one that has no bit
abbrev pub invariant-loop-index : goal.invariant-loop-index
invariant-loop-index l =
    (k : ℕ) (m : Mapping) → k < l.index → slice_get (found_context l.context).mappings k ≡ Some m → (d : ℕ) → HasNoBit l.bits d → DiffersFromPair l.first d m.chars
