-- Entries of characters, by themselves and between others, that are put in.
use Rattle.std.proofs.Common.{◌≡◌, ℕ, Bool, true, false, List, [], Option, Some, None, refl, sym, ap, subst, ◌∙◌, if◌then◌else◌, arith}
use Rattle.std.specs.Prelude.{◌==◌, ◌&&◌, nat_lt, bytes_eq, unwrap_or, option_and_then}
use Rattle.std.specs.BTreeMap.{get, is_at}
use Rattle.std.specs.Ordering.{is_eq, nat_cmp}
use Rattle.std.specs.declared.cmp.Ordering.TheVariants.{Less, Equal, Greater}
use Rattle.std.proofs.lemmas.Bool.Decides.{nat_tests}
use Rattle.icu_cldr_root.specs.inner.LineEntries.{Plain, Around, PutsPlain, PutsBetween, EntriesGrow, entry_around}
use Rattle.icu_table_mappings.specs.Surroundings.{Surroundings, entry_between, PutsEntryBetween}
use Rattle.icu_table_mappings.proofs.PutEntryLemmas.{nothing_between}
use Rattle.icu_table_mappings.proofs.SurroundingLemmas.{same_from_true}

-- ---- keys

at_other : (a b : Bool) → b ≡ false → is_eq (if a then Less else (if b then Equal else Greater)) ≡ false
at_other true b h = refl
at_other false true h = cc
at_other false false h = refl

-- another character is at another key
pub other_key : (c x : ℕ) → (c == x) ≡ false → is_at (nat_cmp c) x ≡ false
other_key c x h = at_other (nat_lt c x) (c == x) h

same_number : (c x : ℕ) → (c == x) ≡ true → c ≡ x
same_number c x h = grind (arith, nat_tests)

-- ---- between characters

-- entries around a character, or none
pub around_or_none : (o : Option Surroundings) (none : Surroundings) (before after : List ℕ) → entry_between none before after ≡ None
    → entry_between (unwrap_or o none) before after ≡ option_and_then (λ all. entry_between all before after) o
around_or_none None none before after h = h
around_or_none (Some all) none before after h = refl

-- an entry is put around a character
pub put_around : (old new : Around) (c : ℕ) (found : Option Surroundings) (none around added : Surroundings) (before after : List ℕ) (entry : ℕ)
    → found ≡ get nat_cmp old c → none.entries ≡ [] → around ≡ unwrap_or found none
    → PutsEntryBetween around added before after entry → entry_between around before after ≡ None
    → get nat_cmp new c ≡ Some added → ((x : ℕ) → (c == x) ≡ false → get nat_cmp new x ≡ get nat_cmp old x)
    → PutsBetween old new c before after entry
put_around old new c found none around added before after entry was empty is puts absent here others =
    let same : (b a : List ℕ) → entry_between around b a ≡ entry_around old c b a =
    λ b a. ap (λ (s : Surroundings). entry_between s b a) is ∙ around_or_none found none b a (nothing_between none b a empty)
    ∙ ap (option_and_then (λ all. entry_between all b a)) was in
    record {
      absent = sym (same before after) ∙ absent;
      here = λ b a. ap (option_and_then (λ all. entry_between all b a)) here ∙ puts b a
          ∙ ap (λ o. if bytes_eq before b && bytes_eq after a then Some entry else o) (same b a);
      others = others;
    }

-- ---- what stood stays

plain_stays : (old new : Plain) (c e : ℕ) → PutsPlain old new c e → (x v : ℕ) (b : Bool) → (c == x) ≡ b
    → get nat_cmp old x ≡ Some v → get nat_cmp new x ≡ Some v
plain_stays old new c e puts x v true same had =
    let none : get nat_cmp old x ≡ None = subst (λ y. get nat_cmp old y ≡ None) (same_number c x same) puts.absent in
    cc
plain_stays old new c e puts x v false other had = puts.others x other ∙ had

pub grow_plain : (old new : Plain) (around : Around) (c e : ℕ) → PutsPlain old new c e → EntriesGrow old around new around
grow_plain old new around c e puts = record {
  alone = λ x v had. plain_stays old new c e puts x v (c == x) refl had;
  between = λ x b a v had. had;
  no_empty = λ x none. none;
}

module _ (old new : Around) (c : ℕ) (before after : List ℕ) (e : ℕ) (puts : PutsBetween old new c before after e) where
  stays_here : (b a : List ℕ) (v : ℕ) (s t : Bool) → bytes_eq before b ≡ s → bytes_eq after a ≡ t → entry_around old c b a ≡ Some v
      → (if s && t then Some e else entry_around old c b a) ≡ Some v
  stays_here b a v true true same also had =
      let k : before ≡ b = same_from_true before b same in
      let l : after ≡ a = same_from_true after a also in
      let none : entry_around old c b a ≡ None = subst (λ y. entry_around old c b y ≡ None) l (subst (λ y. entry_around old c y after ≡ None) k puts.absent) in
      cc
  stays_here b a v true false same also had = had
  stays_here b a v false t same also had = had

  stays : (x : ℕ) (b a : List ℕ) (v : ℕ) (t : Bool) → (c == x) ≡ t → entry_around old x b a ≡ Some v → entry_around new x b a ≡ Some v
  stays x b a v true same had =
      subst (λ y. entry_around old y b a ≡ Some v → entry_around new y b a ≡ Some v) (same_number c x same)
      (λ h. puts.here b a ∙ stays_here b a v (bytes_eq before b) (bytes_eq after a) refl refl h) had
  stays x b a v false other had = ap (option_and_then (λ all. entry_between all b a)) (puts.others x other) ∙ had

  module _ (some : (bytes_eq before [] && bytes_eq after []) ≡ false) where
    empty_stays : (x : ℕ) (t : Bool) → (c == x) ≡ t → entry_around old x [] [] ≡ None → entry_around new x [] [] ≡ None
    empty_stays x true same none =
        subst (λ y. entry_around old y [] [] ≡ None → entry_around new y [] [] ≡ None) (same_number c x same)
        (λ h. puts.here [] [] ∙ ap (λ t. if t then Some e else entry_around old c [] []) some ∙ h) none
    empty_stays x false other none = ap (option_and_then (λ all. entry_between all [] [])) (puts.others x other) ∙ none

    pub grow_around : (plain : Plain) → EntriesGrow plain old plain new
    grow_around plain = record {
      alone = λ x v had. had;
      between = λ x b a v had. stays x b a v (c == x) refl had;
      no_empty = λ x none. empty_stays x (c == x) refl none;
    }
