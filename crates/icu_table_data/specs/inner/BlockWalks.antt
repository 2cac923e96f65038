-- How a walk goes on from block to block. It has parts: one for what says the same with each character, and one for
-- each kind of entry that goes by its character.
use Rattle.std.specs.Prelude.{ℕ, ◌≡◌, ◌*◌, ◌<◌, ◌≤◌, ◌⊎◌, nat_lt, Bool, true, false, not, ◌&&◌, if◌then◌else◌, List, [], ◌∷◌, ◌++◌, length, fold, flat_map, slice_index_or, take, ⊤, Some}
use Rattle.std.specs.Char.{IsScalar}
use Rattle.std.specs.List.{AllByRecursion, Contains, list_any}
use Rattle.icu_table_entries.specs.declared.entry.EntryKind.{EntryKind}
use Rattle.icu_table_entries.specs.declared.entry.EntryKind.TheVariants.{Prefix, Contraction, Digit, Offset, Implicit as ImplicitKind}
use Rattle.icu_table_entries.specs.Entries.{kind_of}
use Rattle.icu_table_data.specs.declared.block_walk.BlockState.{BlockState}
use Rattle.icu_table_data.specs.declared.block_walk.BlockState.TheVariants.{Unread, Visited, Shared}
use Rattle.icu_table_data.specs.declared.character_walk.Part.{Part}
use Rattle.icu_table_data.specs.declared.sought_lists.SoughtFrom.{SoughtFrom}
use Rattle.icu_table_data.specs.declared.character_walk.Part.TheVariants.{Counted, Implicit}
use Rattle.icu_table_data.specs.declared.visited_entries.VisitedEntries.{VisitedEntries}
use Rattle.icu_table_data.specs.declared.context.ContextMapping.{ContextMapping}
use Rattle.icu_table_data.specs.declared.data.CollationData.{CollationData}
use Rattle.icu_table_data.specs.Data.{Data}
use Rattle.icu_table_data.specs.Reachable.{goes_by_character, reachable_contraction, reachable_from, reachable_at, ReferAlike}
use Rattle.icu_table_data.specs.StoredData.{data_of, block_in}
use Rattle.icu_table_data.specs.Walks.{CharVisit, visit_of, after_run, after_visits, EachOfBlock, IsReachableVisit, IsSharedVisit}
use Rattle.icu_table_data.specs.inner.VisitedEntries.{IsRemembered}
use Rattle.icu_table_data.specs.inner.Visitors.{holds}

-- an entry of this part, which goes by its character
unfoldable pub is_wanted : Part → ℕ → Bool
is_wanted Counted e = elim (kind_of e) [ Offset ↦ true | _ ↦ false ]
is_wanted Implicit e = elim (kind_of e) [ ImplicitKind ↦ true | _ ↦ false ]

-- an entry of this part is reachable from this one
unfoldable pub leads_to : Part → Data → ℕ → Bool
leads_to part home e = list_any (is_wanted part) (reachable_from home e)

-- the most entries of a part that are listed
abbrev pub sought_count : ℕ
sought_count = 16

-- a list of entries, and whether it has them all, after one more
abbrev pub with_room : List ℕ → Bool → ℕ → List ℕ × Bool
with_room es whole e = if nat_lt (length es) sought_count then (es ++ e ∷ [], whole) else (es, false)

-- a list of entries of a part, and whether it has them all, after one more entry, if that is of the part and not listed
abbrev pub with_sought : Part → List ℕ × Bool → ℕ → List ℕ × Bool
with_sought part s e = if is_wanted part e && not (holds s.0 e) then with_room s.0 s.1 e else s

-- none of these entries is of the part
abbrev pub AreUnwanted : Part → List ℕ → Type 0
AreUnwanted part es = (f : ℕ) → Contains es f → is_wanted part f ≡ false

-- these are entries of the part that are reachable from an entry, or all of them
pub record AreSought (part : Part) (home : Data) (e : ℕ) (es : List ℕ) (whole : Bool) : Type 0 where
  pub wanted : (f : ℕ) → Contains es f → is_wanted part f ≡ true
  pub reachable : (f : ℕ) → Contains es f → Contains (reachable_from home e) f
  pub all : whole ≡ true → (f : ℕ) → Contains (reachable_from home e) f → is_wanted part f ≡ true → Contains es f

-- these were sought from an entry, if any were
abbrev pub IsSought : Part → Data → SoughtFrom → Type 0
IsSought part home kept =
    (e : ℕ) → kept.of ≡ Some e → AreSought part home e (take kept.sought.count kept.sought.entries) kept.sought.whole

-- that holds of each of these places
abbrev pub AreKept : Part → Data → List SoughtFrom → Type 0
AreKept part home places = (kept : SoughtFrom) → Contains places kept → IsSought part home kept

-- what a visitor is after visits of an entry with 64 characters in a row, if the entry is of the part
abbrev pub after_wanted : {V : Type 0} → (V → Data → ℕ → ℕ → V) → Part → V → Data → ℕ → ℕ → V
after_wanted after part v home first e = if is_wanted part e then after_run after v home first e 64 else v

-- what a visitor is after visits of entries, each with 64 characters in a row
abbrev pub after_runs : {V : Type 0} → (V → Data → ℕ → ℕ → V) → V → Data → ℕ → List ℕ → V
after_runs after v home first es = fold (λ v e. after_run after v home first e 64) v es

-- the kind of a prefix
abbrev pub is_prefix : EntryKind → Bool
is_prefix Prefix = true
is_prefix _ = false

-- an entry of this kind may lead to others
abbrev pub leads_further : EntryKind → Bool
leads_further Prefix = true
leads_further Contraction = true
leads_further Digit = true
leads_further _ = false

-- A visitor went from one state to another by visits of entries that are reachable: those of a part with each
-- character from one code point up to another among them.
pub record WalkedTo {V : Type 0} (after : V → Data → ℕ → ℕ → V) (falls_back : Bool) (part : Part) (home : Data) (old new : V) (from end : ℕ) : Type 0 where
  pub visits : List CharVisit
  pub reach : AllByRecursion (IsReachableVisit falls_back home) visits
  pub adds_up : new ≡ after_visits after old home visits
  pub each : (c e : ℕ) → from ≤ c → c < end → IsScalar c → Contains (reachable_at falls_back home c) e → is_wanted part e ≡ true → Contains visits (visit_of c e)

-- none of the entries that are remembered leads to one of the part
abbrev pub AreClear : Part → Data → VisitedEntries → Type 0
AreClear part home clear = (e : ℕ) → IsRemembered clear e → leads_to part home e ≡ false

-- each entry that is reachable from this one and doesn't go by its character was visited, or one that says the same
abbrev pub IsSpent : Data → List CharVisit → ℕ → Type 0
IsSpent home visits e = (f : ℕ) → Contains (reachable_from home e) f → goes_by_character f ≡ false → IsSharedVisit visits f

-- an entry is reachable from another one, or one that refers to the same context is
pub record IsReachedAlike (home : Data) (e f : ℕ) : Type 0 where
  pub other : ℕ
  pub reachable : Contains (reachable_from home e) other
  pub same : ReferAlike other f

-- that holds of one that is remembered
pub record IsKnown (home : Data) (seen : VisitedEntries) (f : ℕ) : Type 0 where
  pub entry : ℕ
  pub remembered : IsRemembered seen entry
  pub reached : IsReachedAlike home entry f

-- each of these entries that doesn't go by its character was visited, or one that says the same, or is reachable from
-- one that was remembered before
abbrev pub AreSpent : Data → VisitedEntries → List CharVisit → (ℕ → Type 0) → Type 0
AreSpent home seen visits P = (f : ℕ) → P f → goes_by_character f ≡ false → IsSharedVisit visits f ⊎ IsKnown home seen f

-- A visitor went from one state to another by visits of entries that are reachable, by which these entries were spent,
-- and what the entries lead to that are remembered in addition.
pub record Spends {V : Type 0} (after : V → Data → ℕ → ℕ → V) (falls_back : Bool) (home : Data) (seen more : VisitedEntries) (old new : V) (P : ℕ → Type 0) : Type 0 where
  pub visits : List CharVisit
  pub reach : AllByRecursion (IsReachableVisit falls_back home) visits
  pub adds_up : new ≡ after_visits after old home visits
  pub visited : (e : ℕ) → IsRemembered more e → IsRemembered seen e ⊎ AreSpent home seen visits (Contains (reachable_from home e))
  pub each : AreSpent home seen visits P

-- the entry is reachable with one of the characters from one code point up to another
pub record IsReachableIn (falls_back : Bool) (home : Data) (from end e : ℕ) : Type 0 where
  pub char : ℕ
  pub low : from ≤ char
  pub high : char < end
  pub scalar : IsScalar char
  pub reachable : Contains (reachable_at falls_back home char) e

-- what the entries of a prefix's mappings lead to
abbrev pub contraction_entries : Data → List ContextMapping → List ℕ
contraction_entries home mappings = flat_map (λ (mapping : ContextMapping). reachable_contraction home mapping.entry) mappings

-- each of these entries is reachable with the character
abbrev pub AreLedTo : Bool → Data → ℕ → List ℕ → Type 0
AreLedTo falls_back home c es = (e : ℕ) → Contains es e → Contains (reachable_at falls_back home c) e

-- A visitor went up to a code point, but for what goes by its character, and what the entries that are remembered lead
-- to was visited on the way.
pub record HasWalked {V : Type 0} (after : V → Data → ℕ → ℕ → V) (falls_back : Bool) (home : Data) (seen : VisitedEntries) (old new : V) (end : ℕ) : Type 0 where
  pub visits : List CharVisit
  pub reach : AllByRecursion (IsReachableVisit falls_back home) visits
  pub adds_up : new ≡ after_visits after old home visits
  pub each : (c e : ℕ) → c < end → IsScalar c → Contains (reachable_at falls_back home c) e → goes_by_character e ≡ false → IsSharedVisit visits e
  pub visited : (e : ℕ) → IsRemembered seen e → IsSpent home visits e

-- a visitor went over all characters, but for what goes by its character
pub record WalkedOnce {V : Type 0} (after : V → Data → ℕ → ℕ → V) (falls_back : Bool) (home : Data) (old new : V) : Type 0 where
  pub visits : List CharVisit
  pub reach : AllByRecursion (IsReachableVisit falls_back home) visits
  pub adds_up : new ≡ after_visits after old home visits
  pub each : (c e : ℕ) → IsScalar c → Contains (reachable_at falls_back home c) e → goes_by_character e ≡ false → IsSharedVisit visits e

-- a visitor that went up to a code point has gone on to another one, and what is remembered with it
abbrev pub WalksOn : {V : Type 0} → (V → Data → ℕ → ℕ → V) → Bool → Data → VisitedEntries → VisitedEntries → V → V → ℕ → ℕ → Type 0
WalksOn {V} after falls_back home seen more old new from end =
    (start : V) → HasWalked after falls_back home seen start old from → HasWalked after falls_back home more start new end

-- of the 64 code points from this one on, no character leads to an entry of the part
abbrev pub IsShared : Part → Data → ℕ → Type 0
IsShared part home first = EachOfBlock first (λ c. IsScalar c → leads_to part home (home.value c) ≡ false)

-- the 64 code points from this one on, as far as they are characters, have this entry
abbrev pub IsRun : Data → ℕ → ℕ → Type 0
IsRun home first entry = EachOfBlock first (λ c. IsScalar c → home.value c ≡ entry)

-- what the state of a block says of its values, by the code points that read it
abbrev pub IsState : Part → Data → ℕ → BlockState → Type 0
IsState part home first Unread = ⊥
IsState part home first Visited = ⊤
IsState part home first Shared = IsShared part home first

-- 64 code points before the n-th read the block, and are characters'
pub record IsRead (part : Part) (d : CollationData) (n b : ℕ) (state : BlockState) : Type 0 where
  pub index : ℕ
  pub below : index < n
  pub scalar : IsScalar (64 * index)
  pub reads : block_in d index ≡ b
  pub is : IsState part (data_of d) (64 * index) state

-- the state of a block is true of its values: where it says that they were read, 64 code points before the n-th read
-- the block
abbrev pub HasState : Part → CollationData → ℕ → ℕ → BlockState → Type 0
HasState part d n b Unread = ⊤
HasState part d n b Visited = IsRead part d n b Visited
HasState part d n b Shared = IsRead part d n b Shared

-- the states of all blocks are true of their values
abbrev pub AreStates : Part → CollationData → ℕ → List BlockState → Type 0
AreStates part d n states = (b : ℕ) → b < 0x10000 → HasState part d n b (slice_index_or states b Unread)
