-- The entries of a character behind a prefix: those of the longest that has any, and where they leave room those of the
-- next shorter one.
use Rattle.std.proofs.Common.{◌≡◌, ℕ, ◌+◌, ◌-◌, ◌<◌, ◌≤◌, length, Bool, true, false, List, [], ◌∷◌, Option, Some, None, refl, sym, ap, ◌∙◌, if◌then◌else◌, arith, zero, suc, take}
use Rattle.std.specs.Prelude.{is_some, ◌&&◌, ◌||◌, nat_eq, option_and_then}
use Rattle.std.proofs.lemmas.Bool.Decides.{nat_tests}
use Rattle.std.proofs.Math.Bool.{or-true}
use Rattle.std.specs.BTreeMap.{insert_entry}
use Rattle.std.specs.Global.{Vec}
use Rattle.std.specs.List.{starts_with}
use Rattle.std.specs.List.Sorted.{IsStrictlySortedBy}
use Rattle.std.specs.Map.{keys_of}
use Rattle.std.specs.Option.{option_or}
use Rattle.std.specs.Str.{bytes_eq}
use Rattle.icu_table_mappings.specs.Surroundings.{Suffixes, Surroundings, begins_after, behind_longer, entry_at, entry_between, nearest_of, own_entry, value_among}
use Rattle.icu_table_mappings.specs.inner.ContextParts.{last_among}
use Rattle.icu_table_mappings.proofs.SurroundingLemmas.{inserted_among, key_order, last_end, last_turn, same_from_true}

-- ---- entries that begin characters

begins_itself : (xs : List ℕ) → starts_with nat_eq xs xs ≡ true
begins_itself [] = refl
begins_itself (x ∷ xs) =
    let same : nat_eq x x ≡ true = grind (arith, nat_tests) in
    rw same (begins_itself xs)

-- an entry before these characters begins them
pub begun_there : (es : List (Vec ℕ × ℕ)) (after : List ℕ) (e : ℕ) → value_among es after ≡ Some e → begins_after es after ≡ true
unfolding value_among begins_after
begun_there [] after e h = cc
begun_there (x ∷ es) after e h = by_test (bytes_eq x.0.items after) refl (λ g. begun_there es after e g) h where
  by_test : (b : Bool) → bytes_eq x.0.items after ≡ b → (value_among es after ≡ Some e → begins_after es after ≡ true)
      → (if b then Some x.1 else value_among es after) ≡ Some e → (starts_with nat_eq after x.0.items || begins_after es after) ≡ true
  by_test true is more h =
      ap (λ ks. starts_with nat_eq after ks || begins_after es after) (same_from_true x.0.items after is)
      ∙ ap (λ b. b || begins_after es after) (begins_itself after)
  by_test false is more h = ap (λ b. starts_with nat_eq after x.0.items || b) (more h) ∙ or-true (starts_with nat_eq after x.0.items)

-- one before nothing begins all
pub nothing_begins : (es : List (Vec ℕ × ℕ)) (after : List ℕ) → is_some (value_among es []) ≡ true → begins_after es after ≡ true
unfolding value_among begins_after
nothing_begins [] after h = cc
nothing_begins (x ∷ es) after h = by_test (bytes_eq x.0.items []) refl (λ g. nothing_begins es after g) h where
  by_test : (b : Bool) → bytes_eq x.0.items [] ≡ b → (is_some (value_among es []) ≡ true → begins_after es after ≡ true)
      → is_some (if b then Some x.1 else value_among es []) ≡ true → (starts_with nat_eq after x.0.items || begins_after es after) ≡ true
  by_test true is more h = ap (λ ks. starts_with nat_eq after ks || begins_after es after) (same_from_true x.0.items [] is)
  by_test false is more h = ap (λ b. starts_with nat_eq after x.0.items || b) (more h) ∙ or-true (starts_with nat_eq after x.0.items)

-- only one before nothing begins nothing
begun_nothing : (es : List (Vec ℕ × ℕ)) → begins_after es [] ≡ true → is_some (value_among es []) ≡ true
unfolding value_among begins_after
begun_nothing [] h = cc
begun_nothing (x ∷ es) h = here x.0.items (λ g. begun_nothing es g) h where
  here : (ks : List ℕ) → (begins_after es [] ≡ true → is_some (value_among es []) ≡ true)
      → (starts_with nat_eq [] ks || begins_after es []) ≡ true → is_some (if bytes_eq ks [] then Some x.1 else value_among es []) ≡ true
  here [] more h = refl
  here (k ∷ ks) more h = more h

-- first characters begin the whole
pub begins_with_part : (k : ℕ) (xs : List ℕ) → starts_with nat_eq xs (take k xs) ≡ true
begins_with_part zero xs = refl
begins_with_part (suc k) [] = refl
begins_with_part (suc k) (x ∷ xs) =
    let same : nat_eq x x ≡ true = grind (arith, nat_tests) in
    rw same (begins_with_part k xs)

-- an entry before the first of these characters begins them
pub begun_by : (es : List (Vec ℕ × ℕ)) (after : List ℕ) (k : ℕ) → is_some (value_among es (take k after)) ≡ true → begins_after es after ≡ true
unfolding value_among begins_after
begun_by [] after k h = cc
begun_by (x ∷ es) after k h = by_test (bytes_eq x.0.items (take k after)) refl (λ g. begun_by es after k g) h where
  by_test : (b : Bool) → bytes_eq x.0.items (take k after) ≡ b → (is_some (value_among es (take k after)) ≡ true → begins_after es after ≡ true)
      → is_some (if b then Some x.1 else value_among es (take k after)) ≡ true → (starts_with nat_eq after x.0.items || begins_after es after) ≡ true
  by_test true is more h =
      ap (λ ks. starts_with nat_eq after ks || begins_after es after) (same_from_true x.0.items (take k after) is)
      ∙ ap (λ b. b || begins_after es after) (begins_with_part k after)
  by_test false is more h = ap (λ b. starts_with nat_eq after x.0.items || b) (more h) ∙ or-true (starts_with nat_eq after x.0.items)

-- what begins characters is their first ones
pub is_beginning : (ks xs : List ℕ) → starts_with nat_eq xs ks ≡ true → (k : ℕ) × (k ≤ length xs) × (bytes_eq ks (take k xs) ≡ true)
is_beginning [] xs h = (0, omega arith, refl)
is_beginning (k ∷ ks) [] h = cc
is_beginning (k ∷ ks) (x ∷ xs) h = here (nat_eq k x) refl (λ g. is_beginning ks xs g) h where
  here : (b : Bool) → nat_eq k x ≡ b → (starts_with nat_eq xs ks ≡ true → (k : ℕ) × (k ≤ length xs) × (bytes_eq ks (take k xs) ≡ true))
      → (b && starts_with nat_eq xs ks) ≡ true → (n : ℕ) × (n ≤ suc (length xs)) × (bytes_eq (k ∷ ks) (take n (x ∷ xs)) ≡ true)
  here true is more h =
      let rest = more h in
      (suc rest.0, omega (arith, rest.1), ap (λ b. b && bytes_eq ks (take rest.0 xs)) is ∙ rest.2)
  here false is more h = cc

some_by_test : (b : Bool) (v : ℕ) (o : Option ℕ) → is_some o ≡ true → is_some (if b then Some v else o) ≡ true
some_by_test true v o h = refl
some_by_test false v o h = h

-- an entry that begins these characters is before the first of them
pub begun_at : (es : List (Vec ℕ × ℕ)) (after : List ℕ) → begins_after es after ≡ true → (k : ℕ) × (k ≤ length after) × (is_some (value_among es (take k after)) ≡ true)
unfolding value_among begins_after
begun_at [] after h = cc
begun_at (x ∷ es) after h = by_test (starts_with nat_eq after x.0.items) refl (λ g. begun_at es after g) h where
  by_test : (b : Bool) → starts_with nat_eq after x.0.items ≡ b
      → (begins_after es after ≡ true → (k : ℕ) × (k ≤ length after) × (is_some (value_among es (take k after)) ≡ true)) → (b || begins_after es after) ≡ true
      → (k : ℕ) × (k ≤ length after) × (is_some (if bytes_eq x.0.items (take k after) then Some x.1 else value_among es (take k after)) ≡ true)
  by_test true is more h =
      let at = is_beginning x.0.items after is in
      (at.0, at.1, ap (λ b. is_some (if b then Some x.1 else value_among es (take at.0 after))) at.2)
  by_test false is more h =
      let at = more h in
      (at.0, at.1, some_by_test (bytes_eq x.0.items (take at.0 after)) x.1 (value_among es (take at.0 after)) at.2)

-- where no first characters have an entry, none begins them
pub none_begins : (es : List (Vec ℕ × ℕ)) (after : List ℕ) → ((k : ℕ) → k < length after + 1 → is_some (value_among es (take k after)) ≡ false)
    → begins_after es after ≡ false
none_begins es after none = by_test (begins_after es after) refl where
  by_test : (b : Bool) → begins_after es after ≡ b → b ≡ false
  by_test true is =
      let at = begun_at es after is in
      let inside : at.0 < length after + 1 = omega (arith, at.1) in
      let absent : is_some (value_among es (take at.0 after)) ≡ false = none at.0 inside in
      let there : is_some (value_among es (take at.0 after)) ≡ true = at.2 in
      cc
  by_test false is = refl

-- ---- the entries of a longer prefix joined by those of a shorter one

-- how far they are joined: what the longer one's begin has its entry, and of the others what is left decides
pub record JoinsSoFar (longer shorter new : Suffixes) (left : List (Vec ℕ × ℕ)) (chars : List ℕ) : Type 0 where
  pub begun : begins_after longer.entries chars ≡ true → entry_at new chars ≡ entry_at longer chars
  pub others : begins_after longer.entries chars ≡ false → last_among left (entry_at new chars) chars ≡ last_among shorter.entries None chars

none_found : (es : List (Vec ℕ × ℕ)) (chars : List ℕ) (o : Option ℕ) → value_among es chars ≡ o → begins_after es chars ≡ false → o ≡ None
none_found es chars None is other = refl
none_found es chars (Some e) is other = let begun : begins_after es chars ≡ true = begun_there es chars e is in cc

pub joins_first : (longer shorter new : Suffixes) (left : List (Vec ℕ × ℕ)) (chars : List ℕ) → left ≡ shorter.entries
    → entry_at new chars ≡ entry_at longer chars → JoinsSoFar longer shorter new left chars
joins_first longer shorter new left chars all same = record {
  begun = λ h. same;
  others = λ h.
      ap (λ es. last_among es (entry_at new chars) chars) all
      ∙ ap (λ o. last_among shorter.entries o chars) (same ∙ none_found longer.entries chars (entry_at longer chars) refl h);
}

apart_keys : (longer : Suffixes) (key chars : List ℕ) (a b : Bool) → begins_after longer.entries key ≡ a → begins_after longer.entries chars ≡ b
    → (a ≡ b → ⊥) → (t : Bool) → bytes_eq key chars ≡ t → t ≡ false
apart_keys longer key chars a b of_key of_chars differ true is =
    let same : begins_after longer.entries key ≡ begins_after longer.entries chars = ap (begins_after longer.entries) (same_from_true key chars is) in
    absurd (differ (sym of_key ∙ same ∙ of_chars))
apart_keys longer key chars a b of_key of_chars differ false is = refl

true_differs : true ≡ false → ⊥
true_differs h = cc

-- an entry of the shorter one that is put in
pub joins_kept : (longer shorter old new : Suffixes) (left next : List (Vec ℕ × ℕ)) (key copy : Vec ℕ) (v : ℕ) → left ≡ (key, v) ∷ next
    → new.entries ≡ insert_entry key_order old.entries copy v → copy.items ≡ key.items → begins_after longer.entries key.items ≡ false
    → (chars : List ℕ) → JoinsSoFar longer shorter old left chars → JoinsSoFar longer shorter new next chars
joins_kept longer shorter old new left next key copy v steps entries same other chars so_far = record {
  begun = λ h.
      let apart : bytes_eq key.items chars ≡ false =
      apart_keys longer key.items chars false true other h (λ e. true_differs (sym e)) (bytes_eq key.items chars) refl in
      ap (λ es. value_among es chars) entries ∙ inserted_among chars old.entries copy v
      ∙ ap (λ ks. if bytes_eq ks chars then Some v else entry_at old chars) same
      ∙ ap (λ b. if b then Some v else entry_at old chars) apart ∙ so_far.begun h;
  others = λ h. last_turn chars left next old.entries new.entries key copy v (last_among shorter.entries None chars) steps entries same (so_far.others h);
}

-- an entry that one of the longer one's begins
pub joins_skipped : (longer shorter new : Suffixes) (left next : List (Vec ℕ × ℕ)) (key : Vec ℕ) (v : ℕ) → left ≡ (key, v) ∷ next
    → begins_after longer.entries key.items ≡ true → (chars : List ℕ) → JoinsSoFar longer shorter new left chars → JoinsSoFar longer shorter new next chars
unfolding last_among
joins_skipped longer shorter new left next key v steps begun chars so_far = record {
  begun = so_far.begun;
  others = λ h.
      let apart : bytes_eq key.items chars ≡ false = apart_keys longer key.items chars true false begun h true_differs (bytes_eq key.items chars) refl in
      sym (ap (λ b. last_among next (if b then Some v else entry_at new chars) chars) apart)
      ∙ sym (ap (λ es. last_among es (entry_at new chars) chars) steps)
      ∙ so_far.others h;
}

-- nothing beside an entry
pub or_none : (o : Option ℕ) → option_or o None ≡ o
or_none None = refl
or_none (Some e) = refl

-- all are joined
pub joins_all : (longer shorter new : Suffixes) (left : List (Vec ℕ × ℕ)) → left ≡ [] → IsStrictlySortedBy key_order (keys_of shorter.entries)
    → (chars : List ℕ) → JoinsSoFar longer shorter new left chars → entry_at new chars ≡ behind_longer (Some longer) chars (entry_at shorter chars)
joins_all longer shorter new left done up chars so_far = by_test (begins_after longer.entries chars) refl where
  by_test : (b : Bool) → begins_after longer.entries chars ≡ b → entry_at new chars ≡ (if b then entry_at longer chars else entry_at shorter chars)
  by_test true is = so_far.begun is
  by_test false is = last_end chars left new.entries shorter.entries None done up (so_far.others is) ∙ or_none (entry_at shorter chars)

-- ---- the nearest entry

-- one character more of the prefix
pub nearest_more : (all : Surroundings) (own count : ℕ) (before after : List ℕ) (found : Option Suffixes) → 0 < count
    → found ≡ value_among all.entries (take count before)
    → nearest_of all own count before after ≡ behind_longer found after (nearest_of all own (count - 1) before after)
unfolding nearest_of
nearest_more all own zero before after found some is = absurd (omega arith)
nearest_more all own (suc n) before after found some is =
    let one : suc n - 1 ≡ n = omega arith in
    ap (λ o. behind_longer o after (nearest_of all own n before after)) (sym is)
    ∙ sym (ap (λ k. behind_longer found after (nearest_of all own k before after)) one)

-- where the longer one has an entry before nothing, its own count alone
pub only_longer : (longer : Suffixes) (after : List ℕ) (shorter : Option ℕ) → is_some (entry_at longer []) ≡ true
    → behind_longer (Some longer) after shorter ≡ entry_at longer after
only_longer longer after shorter alone =
    ap (λ b. if b then entry_at longer after else shorter) (nothing_begins longer.entries after alone)

-- a character has an entry before nothing
pub has_nearest : (all : Surroundings) (own n : ℕ) (before : List ℕ) → is_some (nearest_of all own n before []) ≡ true
unfolding nearest_of
has_nearest all own zero before = some_or (entry_between all [] []) own where
  some_or : (o : Option ℕ) (v : ℕ) → is_some (option_or o (Some v)) ≡ true
  some_or None v = refl
  some_or (Some w) v = refl
has_nearest all own (suc n) before = longer_has (value_among all.entries (take (suc n) before)) (nearest_of all own n before []) (has_nearest all own n before) where
  by_test : (s : Suffixes) (shorter : Option ℕ) (b : Bool) → begins_after s.entries [] ≡ b → is_some shorter ≡ true
      → is_some (if b then entry_at s [] else shorter) ≡ true
  by_test s shorter true is h = begun_nothing s.entries is
  by_test s shorter false is h = h

  longer_has : (o : Option Suffixes) (shorter : Option ℕ) → is_some shorter ≡ true → is_some (behind_longer o [] shorter) ≡ true
  longer_has None shorter h = h
  longer_has (Some s) shorter h = by_test s shorter (begins_after s.entries []) refl h

-- an entry that stands between characters is the nearest
pub nearest_at : (all : Surroundings) (own : ℕ) (before after : List ℕ) (n e : ℕ) → take n before ≡ before → (n ≡ 0 → before ≡ [])
    → entry_between all before after ≡ Some e → nearest_of all own n before after ≡ Some e
unfolding nearest_of
nearest_at all own before after zero e whole empty h =
    ap (λ o. option_or o (own_entry own after)) (sym (ap (λ xs. entry_between all xs after) (empty refl)) ∙ h)
nearest_at all own before after (suc n) e whole empty h =
    ap (λ xs. behind_longer (value_among all.entries xs) after (nearest_of all own n before after)) whole
    ∙ longer_is (value_among all.entries before) (nearest_of all own n before after) h where
      longer_is : (o : Option Suffixes) (shorter : Option ℕ) → option_and_then (λ suffixes. entry_at suffixes after) o ≡ Some e
          → behind_longer o after shorter ≡ Some e
      longer_is None shorter h = cc
      longer_is (Some s) shorter h = ap (λ b. if b then entry_at s after else shorter) (begun_there s.entries after e h) ∙ h
