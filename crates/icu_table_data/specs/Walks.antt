-- A walk over the entries that are reachable with characters.
use Rattle.std.specs.Prelude.{ℕ, zero, suc, ◌+◌, ◌≡◌, ◌≤◌, ◌<◌, ◌⊎◌, Bool, List, fold}
use Rattle.std.specs.Char.{IsScalar}
use Rattle.std.specs.List.{AllByRecursion, Contains}
use Rattle.icu_table_entries.specs.declared.entry.EntryKind.TheVariants.{Implicit}
use Rattle.icu_table_entries.specs.Entries.{kind_of}
use Rattle.icu_table_data.specs.Data.{Data}
use Rattle.icu_table_data.specs.Reachable.{reachable_at, AreAlike}

-- what a visitor is after entries that are reachable with a character, in order
abbrev pub after_all : {V : Type 0} → (V → Data → ℕ → ℕ → V) → V → Data → ℕ → List ℕ → V
after_all after v home c es = fold (λ v e. after v home c e) v es

-- what a visitor is after what an entry leads to, in order
abbrev pub after_lead : {V : Type 0} → (V → Data → ℕ → ℕ → V) → (Data → ℕ → List ℕ) → Data → ℕ → ℕ → V → V
after_lead after lead home c e v = after_all after v home c (lead home e)

-- what a visitor is after the entries that are reachable with a character of the code point table, in order
abbrev pub after_char : {V : Type 0} → (V → Data → ℕ → ℕ → V) → Bool → Data → ℕ → V → V
after_char after falls_back home c v = after_all after v home c (reachable_at falls_back home c)

-- a visit: a character, and an entry that is visited with it
pub record CharVisit : Type 0 where
  pub char : ℕ
  pub entry : ℕ

-- a visit of this entry with this character
abbrev pub visit_of : ℕ → ℕ → CharVisit
visit_of c e = record { char = c; entry = e }

-- what a visitor is after visits, in order
abbrev pub after_visits : {V : Type 0} → (V → Data → ℕ → ℕ → V) → V → Data → List CharVisit → V
after_visits after v home visits = fold (λ v visit. after v home visit.char visit.entry) v visits

-- what holds of each of the 64 code points from one on
abbrev pub EachOfBlock : ℕ → (ℕ → Type 0) → Type 0
EachOfBlock first P = (c : ℕ) → first ≤ c → c < first + 64 → P c

-- what a visitor is after visits of an entry with so many characters in a row, from one on
unfoldable pub after_run : {V : Type 0} → (V → Data → ℕ → ℕ → V) → V → Data → ℕ → ℕ → ℕ → V
after_run after v home first e zero = v
after_run after v home first e (suc n) = after (after_run after v home first e n) home (first + n) e

-- what two visitors are after one more entry, which both of them visit
abbrev pub after_both : {V W : Type 0} → (V → Data → ℕ → ℕ → V) → (W → Data → ℕ → ℕ → W) → V × W → Data → ℕ → ℕ → V × W
after_both first second s home c e = (first s.0 home c e, second s.1 home c e)

-- the entry of a visit is reachable with its character
pub record IsReachableVisit (falls_back : Bool) (home : Data) (visit : CharVisit) : Type 0 where
  pub scalar : IsScalar visit.char
  pub reachable : Contains (reachable_at falls_back home visit.char) visit.entry

-- an entry was visited that says the same as this one, with some character
pub record IsSharedVisit (visits : List CharVisit) (e : ℕ) : Type 0 where
  pub other : CharVisit
  pub among : Contains visits other
  pub alike : AreAlike other.entry e

-- the entry was visited with the character, or one that says the same as it does with each character
abbrev pub IsCovered : List CharVisit → ℕ → ℕ → Type 0
IsCovered visits c e = IsSharedVisit visits e ⊎ Contains visits (visit_of c e)

-- the entry is one for an implicit weight, and a visit of it with the character changes nothing
pub record IsPassed {V : Type 0} (after : V → Data → ℕ → ℕ → V) (home : Data) (v : V) (c e : ℕ) : Type 0 where
  pub implicit : kind_of e ≡ Implicit
  pub nothing : after v home c e ≡ v

-- A visitor went from one state to another by visits of entries that are reachable, in any order and any number of
-- times: each entry that is reachable with a character is covered by the visits, or is passed.
pub record Walked {V : Type 0} (after : V → Data → ℕ → ℕ → V) (falls_back : Bool) (home : Data) (old new : V) : Type 0 where
  pub visits : List CharVisit
  pub reach : AllByRecursion (IsReachableVisit falls_back home) visits
  pub adds_up : new ≡ after_visits after old home visits
  pub each : (c e : ℕ) → IsScalar c → Contains (reachable_at falls_back home c) e → IsCovered visits c e ⊎ IsPassed after home new c e
