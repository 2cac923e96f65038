-- What the conditions on an entry say of entries of one kind.
use Rattle.std.proofs.Common.{◌≡◌, ℕ, ◌<◌, Bool, true, nat_lt, length, arith, IsTrue}
use Rattle.std.proofs.lemmas.Bool.Decides.{nat_tests}
use Rattle.icu_table_entries.specs.declared.entry.EntryKind.{EntryKind}
use Rattle.icu_table_entries.specs.declared.entry.EntryKind.TheVariants.{Expansion32, Expansion, Prefix, Contraction, Digit, Offset}
use Rattle.icu_table_entries.specs.Entries.{kind_of, entry_index}
use Rattle.icu_table_data.specs.Data.{Data}
use Rattle.icu_table_data.specs.DataConditions.{is_inside}

at_offset : (k : EntryKind) (a b d f g h : Bool) → k ≡ Offset → IsTrue (elim k as (λ _. Bool) [ Expansion32 ↦ a | Expansion ↦ b | Prefix ↦ d | Contraction ↦ f | Digit ↦ g | Offset ↦ h | _ ↦ true ]) → IsTrue h
at_offset Offset a b d f g h is t = t
at_offset _ a b d f g h is t = cc

pub test_inside : (i n : ℕ) → IsTrue (nat_lt i n) → i < n
test_inside i n h = grind (arith, nat_tests)

-- the data of an offset entry are there
pub offset_inside : (home : Data) (e : ℕ) → kind_of e ≡ Offset → IsTrue (is_inside home e) → entry_index e < length home.elements
unfolding is_inside
offset_inside home e is t = test_inside _ _ (at_offset (kind_of e) _ _ _ _ _ _ is t)
