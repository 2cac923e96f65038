-- What tables give to those who read texts by them.
use Rattle.std.proofs.Common.{◌≡◌, ℕ, ◌<◌, Bool, true, List, [], ◌∷◌, length, nat_le, subst, arith, inl, inr, IsTrue}
use Rattle.std.proofs.lemmas.Bool.{and_parts, and_from}
use Rattle.std.proofs.lemmas.Bool.Decides.{nat_tests}
use Rattle.std.specs.Char.{IsScalar}
use Rattle.std.specs.List.{AllByRecursion, Contains}
use Rattle.icu_table_entries.specs.declared.error.DataTable.TheVariants.{Root, Jamo, Tailoring}
use Rattle.icu_table_data.specs.declared.reachable_condition.ReachableCondition.{ReachableCondition}
use Rattle.icu_table_data.specs.declared.reachable_condition.ReachableCondition.TheVariants.{Indices, Digits, Bytes, Offsets}
use Rattle.icu_table_entries.specs.declared.entry.EntryKind.{EntryKind}
use Rattle.icu_table_entries.specs.declared.entry.EntryKind.TheVariants.{Expansion32, Expansion, Prefix, Contraction, Digit, Offset}
use Rattle.icu_table_entries.specs.Entries.{kind_of, entry_index, digit_value}
use Rattle.icu_table_data.specs.DataConditions.{is_inside, is_readable}
use Rattle.icu_table_entries.specs.EntryConditions.{has_digit}
use Rattle.icu_table_data.specs.Reachable.{reachable_digit, reachable_from}
use Rattle.icu_table_data.specs.ReachableConditions.{meets}
use Rattle.icu_table_provider.specs.ReachableTables.{HasDigits, IsReachable}
use Rattle.icu_table_data.specs.Data.{Data, HomedEntry, homed, plain_of}
use Rattle.icu_table_provider.specs.Tables.{Tables, entry_of}
use Rattle.icu_table_data.proofs.ListLemmas.{all_members, of_member}
use Rattle.icu_table_data.proofs.EntryLemmas.{test_inside}
use Rattle.icu_table_provider.specs.declared.well_formed.condition.Condition.TheVariants as conditions
use Rattle.icu_table_provider.specs.CollatorTables.{CollatorTables}
use Rattle.icu_table_provider.specs.well_formed.WellFormedTables.{IsWellFormedTables}
use Rattle.icu_table_provider.specs.well_formed.Checked.{checked_tables}
use Rattle.icu_element_reading.specs.declared.element_tables.ElementTables.{ElementTables}
use Rattle.icu_element_matches.specs.WellFormedEntries.{MeetAll, IsWellFormedFrom, IsWellFormedMatch}
use Rattle.icu_element_reading.specs.inner.Readable.{AreReadable}
use Rattle.icu_element_reading.specs.Reading.{element_tables}
use Rattle.icu_element_reading.proofs.ElementPartLemmas.{reachable_digit-head, reachable_from-head, entry_of-reachable, AllReachable-weaker}
use Rattle.icu_element_reading.proofs.ElementSourceLemmas.{all_reachable}

-- ---- tables that were checked

reachable_meets : (all : CollatorTables) → IsWellFormedTables all → (condition : ReachableCondition) (home : Data) (c e : ℕ) → IsReachable all.tables home c e → IsTrue (meets condition home c e)
reachable_meets all well_formed condition home c e (inl reachable) = well_formed.each (conditions.Entry condition) Root home c e reachable
reachable_meets all well_formed condition home c e (inr (inl reachable)) = well_formed.each (conditions.Entry condition) Jamo home c e reachable
reachable_meets all well_formed condition home c e (inr (inr reachable)) = well_formed.each (conditions.Entry condition) Tailoring home c e reachable

pub well_formed_readable : (all : CollatorTables) → IsWellFormedTables all → AreReadable all.tables
well_formed_readable all well_formed = record { jamo_count = well_formed.tables.jamo.count; each = reachable_meets all well_formed }

pub readable_digits : (tables : Tables) → AreReadable tables → HasDigits tables
readable_digits tables readable =
    AllReachable-weaker (IsReachable tables) (λ home c e. IsTrue (has_digit e)) tables (λ home c e reachable. readable.each Digits home c e reachable) (all_reachable tables)

-- ---- the entry of a character

-- it is reachable, and so is what it leads to
pub entry_of-is_reachable : (tables : Tables) (c : ℕ) → IsScalar c → AllByRecursion (IsReachable tables (entry_of tables c).home c) (reachable_from (entry_of tables c).home (entry_of tables c).entry)
entry_of-is_reachable tables c scalar = entry_of-reachable (IsReachable tables) tables (all_reachable tables) c scalar

well_formed_entry : (tables : Tables) → AreReadable tables → (c : ℕ) → IsScalar c → IsWellFormedFrom (entry_of tables c).home c (entry_of tables c).entry
well_formed_entry tables readable c scalar = λ condition f among.
    let h = entry_of tables c in
    readable.each condition h.home c f (of_member (IsReachable tables h.home c) (reachable_from h.home h.entry) f (entry_of-is_reachable tables c scalar) among)

-- it meets the conditions, and so does what it leads to
pub well_formed_found : (t : ElementTables) (c : ℕ) → IsScalar c → (home : Data) (e : ℕ) → entry_of (element_tables t) c ≡ homed home e → IsWellFormedFrom home c e
well_formed_found t c scalar home e is =
    subst (λ (h : HomedEntry). IsWellFormedFrom h.home c h.entry) is (well_formed_entry (element_tables t) (well_formed_readable (checked_tables t.tables.now) t.tables.now.well_formed) c scalar)

-- ---- an entry that meets the conditions can be read, and so can a digit's other entry

pub readable_among : (home : Data) (c f : ℕ) (es : List ℕ) → MeetAll home c es → Contains es f → IsTrue (is_readable home c f)
unfolding is_readable
readable_among home c f es well_formed among =
    and_from _ _ (and_from _ _ (well_formed Indices f among) (and_parts _ _ (well_formed Bytes f among)).1) (well_formed Offsets f among)

at_digit : (k : EntryKind) (a b d f g h : Bool) → k ≡ Digit → IsTrue (elim k as (λ _. Bool) [ Expansion32 ↦ a | Expansion ↦ b | Prefix ↦ d | Contraction ↦ f | Digit ↦ g | Offset ↦ h | _ ↦ true ]) → IsTrue g
at_digit Digit a b d f g h is t = t
at_digit _ a b d f g h is t = cc

test_decimal : (d : ℕ) → IsTrue (nat_le d 9) → d < 10
test_decimal d h = grind (arith, nat_tests)

small_digit : (k : EntryKind) (small : Bool) → k ≡ Digit → IsTrue (elim k as (λ _. Bool) [ Digit ↦ small | _ ↦ true ]) → IsTrue small
small_digit Digit small is t = t
small_digit _ small is t = cc

-- the other entry of a digit is there
inside_among : (home : Data) (c e : ℕ) (es : List ℕ) → MeetAll home c es → Contains es e → kind_of e ≡ Digit → entry_index e < length home.entries
unfolding is_inside
inside_among home c e es well_formed among is =
    let inside : IsTrue (is_inside home e) = well_formed Indices e among in
    test_inside _ _ (at_digit (kind_of e) _ _ _ _ _ _ is inside)

-- its digit is one
pub decimal_among : (home : Data) (c e : ℕ) (es : List ℕ) → MeetAll home c es → Contains es e → kind_of e ≡ Digit → digit_value e < 10
unfolding has_digit
decimal_among home c e es well_formed among is =
    let small : IsTrue (has_digit e) = well_formed Digits e among in test_decimal _ (small_digit (kind_of e) _ is small)

pub itself : (home : Data) (e : ℕ) → Contains (reachable_from home e) e
itself home e = reachable_from-head (Contains (reachable_from home e)) home e (all_members (reachable_from home e))

-- ---- an entry that a match came to

matched_itself : (home : Data) (e : ℕ) → Contains (reachable_digit home e) e
matched_itself home e = reachable_digit-head (Contains (reachable_digit home e)) home e (all_members (reachable_digit home e))

plain_second : (P : ℕ → Type 0) (k : EntryKind) (e f : ℕ) → k ≡ Digit → AllByRecursion P (elim k as (λ _. List ℕ) [ Digit ↦ e ∷ f ∷ [] | _ ↦ e ∷ [] ]) → P f
plain_second P Digit e f is all = all.1.0
plain_second P _ e f is all = cc

matched_plain : (home : Data) (e : ℕ) → kind_of e ≡ Digit → Contains (reachable_digit home e) (plain_of home e)
unfolding reachable_digit
matched_plain home e is =
    plain_second (Contains (reachable_digit home e)) (kind_of e) e (plain_of home e) is (all_members (reachable_digit home e))

module _ (home : Data) (c e : ℕ) (well_formed : IsWellFormedMatch home c e) where
  pub match_readable : IsTrue (is_readable home c e)
  match_readable = readable_among home c e (reachable_digit home e) well_formed (matched_itself home e)

  pub plain_readable : kind_of e ≡ Digit → IsTrue (is_readable home c (plain_of home e))
  plain_readable is = readable_among home c (plain_of home e) (reachable_digit home e) well_formed (matched_plain home e is)

  pub plain_inside : kind_of e ≡ Digit → entry_index e < length home.entries
  plain_inside is = inside_among home c e (reachable_digit home e) well_formed (matched_itself home e) is

  pub match_decimal : kind_of e ≡ Digit → digit_value e < 10
  match_decimal is = decimal_among home c e (reachable_digit home e) well_formed (matched_itself home e) is
