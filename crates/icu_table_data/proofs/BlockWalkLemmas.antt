-- The states of blocks, and what a walk of all parts comes to.
use Rattle.std.proofs.Common.{◌≡◌, ℕ, ◌+◌, ◌-◌, ◌*◌, ◌/◌, ◌%◌, ◌<◌, ◌≤◌, Bool, true, false, List, ◌++◌, inl, inr, refl, sym, ap, ◌∙◌, subst, arith}
use Rattle.std.specs.Prelude.{slice_index_or, set, replicate, length}
use Rattle.std.specs.Char.{IsScalar}
use Rattle.std.specs.List.{Contains}
use Rattle.std.proofs.Math.Utf8.{scalar, scalar_cases, low_scalar}
use Rattle.std.proofs.lemmas.Bool.Decides.{nat_tests}
use Rattle.std.proofs.lemmas.Bool.{cases_Bool, cases_eq}
use Rattle.std.proofs.lemmas.Grind.{common_steps}
use Rattle.std.proofs.lemmas.List.{get_or-set_same, get_or-set_other}
use Rattle.std.proofs.lemmas.List.Elements.{Contains-append_left, Contains-append_right}
use Rattle.icu_table_entries.specs.declared.entry.EntryKind.TheVariants.{Implicit as ImplicitKind}
use Rattle.icu_table_entries.specs.Entries.{kind_of}
use Rattle.icu_table_data.specs.declared.block_walk.BlockState.{BlockState}
use Rattle.icu_table_data.specs.declared.block_walk.BlockState.TheVariants.{Unread, Visited, Shared}
use Rattle.icu_table_data.specs.declared.character_walk.Part.{Part}
use Rattle.icu_table_data.specs.declared.character_walk.Part.TheVariants.{Counted, Implicit}
use Rattle.icu_table_data.specs.declared.data.CollationData.{CollationData}
use Rattle.icu_table_data.specs.Data.{Data}
use Rattle.icu_table_data.specs.Reachable.{goes_by_character}
use Rattle.icu_table_data.specs.StoredData.{data_of, block_in}
use Rattle.icu_table_data.specs.Walks.{CharVisit, visit_of, IsReachableVisit, IsSharedVisit, IsCovered, Walked}
use Rattle.icu_table_data.specs.inner.BlockWalks.{leads_to, IsShared, WalkedTo, WalkedOnce, IsState, IsRead, HasState, AreStates}
use Rattle.icu_table_data.proofs.ListLemmas.{all_append}
use Rattle.icu_table_data.proofs.CharLemmas.{scalar_below}
use Rattle.icu_table_data.proofs.ReachLemmas.{class_of, implicit_wanted}
use Rattle.icu_table_data.proofs.SpentLemmas.{both_add}

-- ---- blocks of one number

-- a number from E000 on, of a code point, is a character's
high_scalar : (c : ℕ) → 0xE000 ≤ c → c < 0x110000 → scalar c ≡ true
high_scalar c low high = grind (arith, nat_tests)

-- a block has characters alone, or none
pub scalar_block : (i c : ℕ) → IsScalar (64 * i) → i < 17408 → 64 * i ≤ c → c < 64 * i + 64 → IsScalar c
scalar_block i c s inside low high =
    elim (scalar_cases (64 * i) s) [
      | inl below ↦ low_scalar c (omega arith)
      | inr above ↦ high_scalar c (omega (arith, above.0)) (omega arith)
    ]

pub block_scalar : (i c : ℕ) → IsScalar c → 64 * i ≤ c → c < 64 * i + 64 → IsScalar (64 * i)
block_scalar i c s low high =
    elim (scalar_cases c s) [
      | inl below ↦ low_scalar (64 * i) (omega arith)
      | inr above ↦ high_scalar (64 * i) (omega (arith, above.0)) (omega (arith, above.1))
    ]

-- two that read one block read the same entries
pub same_entry : (d : CollationData) (i j c : ℕ) → block_in d j ≡ block_in d i → 64 * i ≤ c → c < 64 * i + 64 → (data_of d).value (64 * j + (c - 64 * i)) ≡ (data_of d).value c
unfolding data_of
same_entry d i j c same low high =
    let first : (64 * j + (c - 64 * i)) / 64 ≡ j = omega arith in
    let second : c / 64 ≡ i = omega arith in
    let place : (64 * j + (c - 64 * i)) % 64 ≡ c % 64 = omega arith in
    rw (first, second, place, same) refl

-- what a block says of another index with its number
pub twins : (d : CollationData) (i j : ℕ) → j < i → i < 17408 → IsScalar (64 * j) → block_in d j ≡ block_in d i
    → (c : ℕ) → 64 * i ≤ c → c < 64 * i + 64 → IsScalar (64 * j + (c - 64 * i)) × ((data_of d).value (64 * j + (c - 64 * i)) ≡ (data_of d).value c)
twins d i j below inside s same c low high =
    (scalar_block j (64 * j + (c - 64 * i)) s (omega arith) (omega arith) (omega arith), same_entry d i j c same low high)

-- ---- states of blocks

none_read : (n b : ℕ) → slice_index_or (replicate n Unread) b Unread ≡ Unread
none_read n b = grind (arith, common_steps)

-- at first none is read
pub no_states : (part : Part) (d : CollationData) (n : ℕ) → AreStates part d 0 (replicate n Unread)
no_states part d n b inside = subst (HasState part d 0 b) (sym (none_read n b)) tt

later_read : (part : Part) (d : CollationData) (n b : ℕ) (state : BlockState) → IsRead part d n b state → IsRead part d (n + 1) b state
later_read part d n b state r = record { index = r.index; below = omega (arith, r.below); scalar = r.scalar; reads = r.reads; is = r.is }

later_state : (part : Part) (d : CollationData) (n b : ℕ) (state : BlockState) → HasState part d n b state → HasState part d (n + 1) b state
later_state part d n b Unread h = tt
later_state part d n b Visited h = later_read part d n b Visited h
later_state part d n b Shared h = later_read part d n b Shared h

pub later_states : (part : Part) (d : CollationData) (n : ℕ) (states : List BlockState) → AreStates part d n states → AreStates part d (n + 1) states
later_states part d n states are b inside = later_state part d n b (slice_index_or states b Unread) (are b inside)

new_state : (part : Part) (d : CollationData) (i b : ℕ) (state : BlockState) → IsScalar (64 * i) → block_in d i ≡ b → IsState part (data_of d) (64 * i) state → HasState part d (i + 1) b state
new_state part d i b Unread s reads is = absurd is
new_state part d i b Visited s reads is = record { index = i; below = omega arith; scalar = s; reads = reads; is = is }
new_state part d i b Shared s reads is = record { index = i; below = omega arith; scalar = s; reads = reads; is = is }

-- the state of one more block is set
pub set_state : (part : Part) (d : CollationData) (i b : ℕ) (state : BlockState) (states : List BlockState) → b < length states → IsScalar (64 * i) → block_in d i ≡ b
    → IsState part (data_of d) (64 * i) state → AreStates part d i states → AreStates part d (i + 1) (set states b state)
set_state part d i b state states inside s reads is are n low =
    elim (cases_eq n b) [
      | inl same ↦
          subst (HasState part d (i + 1) n) (sym (ap (λ k. slice_index_or (set states b state) k Unread) same ∙ get_or-set_same states b state Unread inside))
          (subst (λ k. HasState part d (i + 1) k state) (sym same) (new_state part d i b state s reads is))
      | inr other ↦
          subst (HasState part d (i + 1) n) (sym (get_or-set_other states b n state Unread other)) (later_state part d i n (slice_index_or states n Unread) (are n low))
    ]

-- ---- a block whose number was read before

-- the state of the block that an index reads
pub state_at : (part : Part) (d : CollationData) (i b : ℕ) (state : BlockState) (states : List BlockState) → AreStates part d i states → b ≡ block_in d i → b < 0x10000
    → slice_index_or states b Unread ≡ state → HasState part d i (block_in d i) state
state_at part d i b state states are reads inside is = subst (λ n. HasState part d i n state) reads (subst (HasState part d i b) is (are b inside))

-- what a block says of its characters another index with its number says of those there
pub shared_twins : (part : Part) (d : CollationData) (i : ℕ) → i < 17408 → IsScalar (64 * i) → IsRead part d i (block_in d i) Shared → IsShared part (data_of d) (64 * i)
shared_twins part d i inside scalar r c low high s =
    let at = twins d i r.index r.below inside r.scalar r.reads c low high in
    ap (leads_to part (data_of d)) (sym at.1) ∙ r.is (64 * r.index + (c - 64 * i)) (omega arith) (omega arith) at.0

-- ---- all parts

module _ {V : Type 0} (after : V → Data → ℕ → ℕ → V) (falls_back : Bool) (home : Data) where
  abbrev To : Part → V → V → ℕ → ℕ → Type 0
  To part = WalkedTo after falls_back part home

  covered : (xs ys : List CharVisit) (c e : ℕ) → (goes_by_character e ≡ false → IsSharedVisit xs e) → (goes_by_character e ≡ true → Contains ys (visit_of c e)) → IsCovered (xs ++ ys) c e
  covered xs ys c e shared exact =
      elim (cases_Bool (goes_by_character e)) [
        | inl goes ↦ inr (Contains-append_right xs ys (visit_of c e) (exact goes))
        | inr stays ↦
            let s = shared stays in
            inl (record { other = s.other; among = Contains-append_left xs ys s.other s.among; alike = s.alike })
      ]

  -- visits of entries for implicit weights change nothing
  pub walked_but_implicit : (s t u : V) → WalkedOnce after falls_back home s t → To Counted t u 0 0x110000
      → ((home : Data) (c e : ℕ) → kind_of e ≡ ImplicitKind → after u home c e ≡ u) → Walked after falls_back home s u
  walked_but_implicit s t u a b passes = record {
    visits = a.visits ++ b.visits;
    reach = all_append (IsReachableVisit falls_back home) a.visits b.visits a.reach b.reach;
    adds_up = both_add after falls_back home s t u a.visits b.visits a.adds_up b.adds_up;
    each = λ c e scalar has.
        elim (cases_Bool (goes_by_character e)) [
          | inl goes ↦ elim (class_of e goes) [
            | inl wanted ↦ inl (inr (Contains-append_right a.visits b.visits (visit_of c e) (b.each c e (omega arith) (scalar_below c scalar) scalar has wanted)))
            | inr implicit ↦ inr (record { implicit = implicit; nothing = passes home c e implicit })
          ]
          | inr stays ↦
              let s = a.each c e scalar has stays in
              inl (inl (record { other = s.other; among = Contains-append_left a.visits b.visits s.other s.among; alike = s.alike }))
        ];
  }

  -- they are made
  pub walked_all : (s t u v : V) → WalkedOnce after falls_back home s t → To Counted t u 0 0x110000 → To Implicit u v 0 0x110000 → Walked after falls_back home s v
  walked_all s t u v a b d = record {
    visits = a.visits ++ (b.visits ++ d.visits);
    reach =
        all_append (IsReachableVisit falls_back home) a.visits (b.visits ++ d.visits) a.reach
        (all_append (IsReachableVisit falls_back home) b.visits d.visits b.reach d.reach);
    adds_up =
        both_add after falls_back home s t v a.visits (b.visits ++ d.visits) a.adds_up
        (both_add after falls_back home t u v b.visits d.visits b.adds_up d.adds_up);
    each = λ c e scalar has.
        inl (covered a.visits (b.visits ++ d.visits) c e (λ stays. a.each c e scalar has stays)
        (λ goes. elim (class_of e goes) [
          | inl wanted ↦ Contains-append_left b.visits d.visits (visit_of c e) (b.each c e (omega arith) (scalar_below c scalar) scalar has wanted)
          | inr implicit ↦ Contains-append_right b.visits d.visits (visit_of c e) (d.each c e (omega arith) (scalar_below c scalar) scalar has (implicit_wanted e implicit))
        ]));
  }
