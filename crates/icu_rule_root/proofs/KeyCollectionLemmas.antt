-- The keys that are collected: those that were there, and those of the elements of all entries that a walk comes to.
use Rattle.std.proofs.Common.{◌≡◌, ℕ, ◌+◌, ◌-◌, ◌<◌, ◌≤◌, ◌⊎◌, inl, inr, Bool, true, false, ◌&&◌, nat_lt, nat_le, List, [], ◌∷◌, ◌++◌, length, map, fold, if◌then◌else◌, slice_index, refl, sym, ap, ◌∙◌, subst, arith, IsTrue, ◌↔◌, append_assoc, append-nil}
use Rattle.std.proofs.lemmas.Bool.{cases_lt, and_parts, and_from}
use Rattle.std.proofs.lemmas.Bool.Decides.{nat_tests}
use Rattle.std.proofs.lemmas.List.Elements.{Contains-append_left, Contains-append_right, Contains-append_cases, Contains-push, Contains-push_cases}
use Rattle.icu_table_data.proofs.CollectedWeightLemmas.{given-parts, given-from}
use Rattle.std.specs.List.{AllByRecursion, Contains}
use Rattle.icu_table_entries.specs.declared.entry.EntryKind.{EntryKind}
use Rattle.icu_table_entries.specs.declared.entry.EntryKind.TheVariants.{Implicit}
use Rattle.icu_table_entries.specs.Elements.{Element, of_secondary}
use Rattle.icu_table_entries.specs.Entries.{kind_of}
use Rattle.icu_table_data.specs.Data.{Data, homed}
use Rattle.icu_table_data.specs.Final.{final_elements}
use Rattle.icu_table_data.specs.CollectedWeights.{Adds, is_stated}
use Rattle.icu_table_data.specs.Reachable.{AreAlike, reachable_at, reachable_from}
use Rattle.icu_table_data.specs.Walks.{after_all, Walked}
use Rattle.icu_table_data.specs.inner.Visitors.{given_elements}
use Rattle.icu_table_data.proofs.ListLemmas.{all_of, all_where, of_member, in_map, nothing_in, in_first, at_first, at_rest}
use Rattle.icu_table_data.proofs.SameEntryLemmas.{gives_alike}
use Rattle.icu_table_data.proofs.WalkLemmas.{fold_keeps, fold_back, walk_keeps, walk_back}
use Rattle.icu_table_provider.specs.Diacritics.{is_replaced_index}
use Rattle.icu_table_provider.specs.Tables.{Tables, is_jamo, jamo_base}
use Rattle.icu_table_provider.specs.well_formed.ReachableElements.{IsOfReachableDiacritic}
use Rattle.icu_rule_root.specs.RootElements.{IsStatedBy, IsStatedInRoot, IsStatedByJamo, IsRootElement}
use Rattle.icu_rule_root.specs.inner.KeyWindows.{element_key}
use Rattle.icu_rule_root.specs.inner.KeyCollections.{stated_elements, with_key, with_keys, IsKeyOf, IsRootKey, IsStatedAtJamo, IsDiacriticAt, HoldsBelow, IsJamoKey, IsDiacriticKey}

-- ---- the elements of an entry

stated_is : (home : Data) (c e : ℕ) (x : Element) → Contains (stated_elements home c e) x → IsTrue (is_stated home c e) × Contains (final_elements (homed home e) c) x
unfolding stated_elements
stated_is home c e x h = given-parts (is_stated home c e) (final_elements (homed home e) c) x h

is_stated-from : (home : Data) (c e : ℕ) (x : Element) → IsTrue (is_stated home c e) → Contains (final_elements (homed home e) c) x → Contains (stated_elements home c e) x
unfolding stated_elements
is_stated-from home c e x stated h = given-from (is_stated home c e) (final_elements (homed home e) c) x stated h

implicit_not : (k : EntryKind) (b : Bool) → k ≡ Implicit → ((elim k as (λ _. Bool) [ Implicit ↦ false | _ ↦ true ]) && b) ≡ false
implicit_not Implicit b h = refl
implicit_not _ b h = cc

none_of : (b : Bool) (xs : List Element) → b ≡ false → (if b then xs else []) ≡ []
none_of true xs h = cc
none_of false xs h = refl

nothing_stated : (home : Data) (c e : ℕ) → kind_of e ≡ Implicit → stated_elements home c e ≡ []
unfolding stated_elements is_stated
nothing_stated home c e is = none_of (is_stated home c e) (final_elements (homed home e) c) (implicit_not (kind_of e) _ is)

-- an entry for an implicit weight adds no key
pub implicit_adds_nothing : (keys : List ℕ) (home : Data) (c e : ℕ) → kind_of e ≡ Implicit → with_keys keys home c e ≡ keys
implicit_adds_nothing keys home c e is = ap (λ xs. keys ++ map element_key xs) (nothing_stated home c e is) ∙ append-nil keys

same_given : (home : Data) (c e : ℕ) → stated_elements home c e ≡ given_elements home c e
unfolding stated_elements given_elements
same_given home c e = refl

stated_alike : (home : Data) (c d e f : ℕ) → AreAlike e f → stated_elements home c e ≡ stated_elements home d f
stated_alike home c d e f alike = same_given home c e ∙ gives_alike home c d e f alike ∙ sym (same_given home d f)

pub keys_pushed : (keys : List ℕ) (xs : List Element) → fold with_key keys xs ≡ keys ++ map element_key xs
keys_pushed keys [] = sym (append-nil keys)
keys_pushed keys (x ∷ xs) = keys_pushed (keys ++ element_key x ∷ []) xs ∙ append_assoc keys (element_key x ∷ []) (map element_key xs)

stated_all : (b : Bool) (xs : List Element) → b ≡ true → xs ≡ (if b then xs else [])
stated_all true xs h = refl
stated_all false xs h = cc

-- the keys of elements that are stated
pub keys_stated : (keys : List ℕ) (home : Data) (c e : ℕ) → is_stated home c e ≡ true → fold with_key keys (final_elements (homed home e) c) ≡ with_keys keys home c e
unfolding stated_elements
keys_stated keys home c e is =
    keys_pushed keys (final_elements (homed home e) c) ∙ ap (λ xs. keys ++ map element_key xs) (stated_all (is_stated home c e) (final_elements (homed home e) c) is)

-- ---- which element a key is of

pub weaker_key : (P Q : Element → Type 0) → ((x : Element) → P x → Q x) → (k : ℕ) → IsKeyOf P k → IsKeyOf Q k
weaker_key P Q f k h = record { element = h.element; holds = f h.element h.holds; is = h.is }

key_in : (xs : List Element) (k : ℕ) → Contains (map element_key xs) k → IsKeyOf (Contains xs) k
key_in [] k has = absurd (nothing_in k has)
key_in (x ∷ xs) k has =
    elim (in_first (element_key x) k (map element_key xs) has) [
      | inl same ↦ record { element = x; holds = at_first x xs; is = same }
      | inr rest ↦ weaker_key (Contains xs) (Contains (x ∷ xs)) (λ y. at_rest x y xs) k (key_in xs k rest)
    ]

in_keys : (xs : List Element) (x : Element) (k : ℕ) → Contains xs x → element_key x ≡ k → Contains (map element_key xs) k
in_keys xs x k has is = subst (Contains (map element_key xs)) is (in_map element_key xs x has)

-- ---- entries one after another

module _ (home : Data) (k : ℕ) where
  abbrev Of : ℕ → List ℕ → Type 0
  Of c es = IsKeyOf (IsStatedBy home c es) k

  stated_key : (c e : ℕ) (es : List ℕ) → Contains es e → Contains (map element_key (stated_elements home c e)) k → Of c es
  stated_key c e es reachable has =
      weaker_key (Contains (stated_elements home c e)) (IsStatedBy home c es)
      (λ x given. let is = stated_is home c e x given in record { entry = e; reachable = reachable; stated = is.0; given = is.1 }) k (key_in (stated_elements home c e) k has)

  -- what a key that is there leads to, one that was there before or is added leads to
  abbrev Leads : Type 0 → ℕ → ℕ → Type 0
  Leads G c e = Contains (map element_key (stated_elements home c e)) k → G

  keeps_at : (G : Type 0) (c : ℕ) (es : List ℕ) → (Of c es → G) → AllByRecursion (λ e. (s : List ℕ) → (Contains s k → G) → Contains (with_keys s home c e) k → G) es
  keeps_at G c es into =
      all_where (λ e. (s : List ℕ) → (Contains s k → G) → Contains (with_keys s home c e) k → G) es
      (λ e reachable s old has. elim (Contains-append_cases s (map element_key (stated_elements home c e)) k has) [
        | inl before ↦ old before
        | inr added ↦ into (stated_key c e es reachable added)
      ])

  back_at : (G : Type 0) (c e : ℕ) (s : List ℕ) → (Contains (with_keys s home c e) k → G) → (Contains s k → G) × Leads G c e
  back_at G c e s later = (
    λ has. later (Contains-append_left s (map element_key (stated_elements home c e)) k has),
    λ has. later (Contains-append_right s (map element_key (stated_elements home c e)) k has),
  )

  leads_of : (G : Type 0) (c : ℕ) (es : List ℕ) → AllByRecursion (Leads G c) es → Of c es → G
  leads_of G c es all h =
      of_member (Leads G c) es h.holds.entry all h.holds.reachable
      (in_keys (stated_elements home c h.holds.entry) h.element k (is_stated-from home c h.holds.entry h.element h.holds.stated h.holds.given) h.is)

  leads_alike : (G : Type 0) (c d e f : ℕ) → AreAlike f e → Leads G d f → Leads G c e
  leads_alike G c d e f alike = subst (λ xs. Contains (map element_key xs) k → G) (stated_alike home d c f e alike)

pub entries_add : (home : Data) (c : ℕ) (es : List ℕ) (old : List ℕ) → Adds (IsKeyOf (IsStatedBy home c es)) old (after_all with_keys old home c es)
entries_add home c es old k =
    let G : Type 0 = Contains (after_all with_keys old home c es) k in
    let H : Type 0 = Contains old k ⊎ IsKeyOf (IsStatedBy home c es) k in
    let back : (Contains old k → G) × AllByRecursion (Leads home k G c) es =
    fold_back (λ s e. with_keys s home c e) (λ s. Contains s k → G) (Leads home k G c) es (all_of _ (back_at home k G c) es) old (λ has. has) in (
      fold_keeps (λ s e. with_keys s home c e) (λ s. Contains s k → H) es (keeps_at home k H c es (λ is. inr is)) old (λ has. inl has),
      λ h. elim h as (λ _. G) [ inl before ↦ back.0 before | inr added ↦ leads_of home k G c es back.1 added ],
    )

pub jamo_adds : (tables : Tables) (place : ℕ) (home : Data) (c e : ℕ) (old new : List ℕ) → home ≡ tables.root → c ≡ jamo_base + place → e ≡ slice_index tables.jamo place
    → new ≡ after_all with_keys old home c (reachable_from home e) → Adds (IsJamoKey tables place) old new
jamo_adds tables place home c e old new of_home of_char of_entry is =
    subst (Adds (IsJamoKey tables place) old)
    (sym (is ∙ ap (λ (h : Data). after_all with_keys old h c (reachable_from h e)) of_home ∙ ap (λ d. after_all with_keys old tables.root d (reachable_from tables.root e)) of_char
    ∙ ap (λ f. after_all with_keys old tables.root (jamo_base + place) (reachable_from tables.root f)) of_entry))
    (entries_add tables.root (jamo_base + place) (reachable_from tables.root (slice_index tables.jamo place)) old)

-- ---- a walk over the root

pub walk_adds : (tables : Tables) (old new : List ℕ) → Walked with_keys false tables.root old new → Adds (IsKeyOf (IsStatedInRoot tables)) old new
walk_adds tables old new walked k =
    let home : Data = tables.root in
    let G : Type 0 = Contains new k in
    let H : Type 0 = Contains old k ⊎ IsKeyOf (IsStatedInRoot tables) k in
    let back = walk_back with_keys false home (λ s. Contains s k → G) (Leads home k G) (back_at home k G) (leads_alike home k G) old new walked (λ has. has) in (
      walk_keeps with_keys false home (λ s. Contains s k → H)
          (λ c scalar. keeps_at home k H c (reachable_at false home c) (λ is. inr (weaker_key (IsStatedBy home c (reachable_at false home c)) (IsStatedInRoot tables) (λ x stated. record { char = c; scalar = scalar; stated = stated }) k is)))
          old new walked (λ has. inl has),
      λ h. elim h as (λ _. G) [
        | inl before ↦ back.0 before
        | inr added ↦ leads_of home k G added.holds.char (reachable_at false home added.holds.char) (back.1 added.holds.char added.holds.scalar) (record { element = added.element; holds = added.holds.stated; is = added.is })
      ],
    )

-- ---- places one after another

module _ (P : ℕ → ℕ → Type 0) where
  pub below_none : (xs : List ℕ) → Adds (HoldsBelow P 0) xs xs
  below_none xs k = (λ has. inl has, λ h. elim h as (λ _. Contains xs k) [ inl has ↦ has | inr none ↦ absurd (let below = none.below in omega (arith, below)) ])

  wider : (n k : ℕ) → HoldsBelow P n k → HoldsBelow P (n + 1) k
  wider n k h = record { place = h.place; below = (let below = h.below in omega (arith, below)); holds = h.holds }

  place_cases : (n k : ℕ) → HoldsBelow P (n + 1) k → HoldsBelow P n k ⊎ P n k
  place_cases n k h =
      elim (cases_lt h.place n) [
        | inl less ↦ inl (record { place = h.place; below = less; holds = h.holds })
        | inr most ↦ inr (subst (λ i. P i k) (let below = h.below in omega (arith, below, most)) h.holds)
      ]

  pub below_step : (n : ℕ) (old mid new : List ℕ) → Adds (HoldsBelow P n) old mid → Adds (P n) mid new → Adds (HoldsBelow P (n + 1)) old new
  below_step n old mid new before here k = (
    λ has. elim ((here k).0 has) [
      | inl was ↦ (elim ((before k).0 was) [ inl first ↦ inl first | inr placed ↦ inr (wider n k placed) ])
      | inr added ↦ inr (record { place = n; below = omega arith; holds = added })
    ],
    λ h. elim h as (λ _. Contains new k) [
      | inl first ↦ (here k).1 (inl ((before k).1 (inl first)))
      | inr placed ↦ (elim (place_cases n k placed) as (λ _. Contains new k) [
        | inl less ↦ (here k).1 (inl ((before k).1 (inr less)))
        | inr at ↦ (here k).1 (inr at)
      ])
    ],
  )

-- ---- diacritics

pub diacritic_skipped : (secondaries : List ℕ) (place : ℕ) (keys : List ℕ) → is_replaced_index place ≡ true → Adds (IsDiacriticKey secondaries place) keys keys
diacritic_skipped secondaries place keys replaced k = (
  λ has. inl has,
  λ h. elim h as (λ _. Contains keys k) [ inl has ↦ has | inr added ↦ (let kept = added.holds.kept in cc) ],
)

pub diacritic_added : (secondaries : List ℕ) (place : ℕ) (keys : List ℕ) (x : Element) → is_replaced_index place ≡ false → x ≡ of_secondary (slice_index secondaries place)
    → Adds (IsDiacriticKey secondaries place) keys (with_key keys x)
diacritic_added secondaries place keys x kept is k = (
  λ has. elim (Contains-push_cases keys (element_key x) k has) [
    | inl before ↦ inl before
    | inr same ↦ inr (record { element = x; holds = record { kept = kept; is = is }; is = same })
  ],
  λ h. elim h as (λ _. Contains (with_key keys x) k) [
    | inl before ↦ Contains-append_left keys (element_key x ∷ []) k before
    | inr added ↦ subst (Contains (with_key keys x)) (ap element_key (is ∙ sym added.holds.is) ∙ added.is) (Contains-push keys (element_key x))
  ],
)

-- ---- all of them

jamo_test : (place : ℕ) → place < 256 → IsTrue (is_jamo (jamo_base + place))
jamo_test place h = and_from _ _ (low place) (high place h)
  where
    low : (place : ℕ) → IsTrue (nat_le 0x1100 (0x1100 + place))
    low place = grind (arith, nat_tests)

    high : (place : ℕ) → place < 256 → IsTrue (nat_lt (0x1100 + place) 0x1200)
    high place h = grind (arith, nat_tests)

jamo_low : (c : ℕ) → IsTrue (nat_le 0x1100 c) → 0x1100 ≤ c
jamo_low c h = grind (arith, nat_tests)

jamo_high : (c : ℕ) → IsTrue (nat_lt c 0x1200) → c < 0x1200
jamo_high c h = grind (arith, nat_tests)

jamo_place : (place : ℕ) → place ≡ 0x1100 + place - 0x1100
jamo_place place = omega arith

by_jamo : (tables : Tables) (place : ℕ) → place < 256 → (x : Element) → IsStatedAtJamo tables place x → IsStatedByJamo tables x
by_jamo tables place below x h = record {
  char = jamo_base + place;
  jamo = jamo_test place below;
  stated = subst (λ i. IsStatedBy tables.root (jamo_base + place) (reachable_from tables.root (slice_index tables.jamo i)) x) (jamo_place place) h;
}

jamo_key : (tables : Tables) (k : ℕ) → HoldsBelow (IsJamoKey tables) 256 k → IsKeyOf (IsStatedByJamo tables) k
jamo_key tables k h = weaker_key (IsStatedAtJamo tables h.place) (IsStatedByJamo tables) (by_jamo tables h.place h.below) k h.holds

jamo_at : (tables : Tables) (k : ℕ) → IsKeyOf (IsStatedByJamo tables) k → HoldsBelow (IsJamoKey tables) 256 k
jamo_at tables k h =
    let c = h.holds.char in
    let tests = and_parts _ _ h.holds.jamo in
    let low : 0x1100 ≤ c = jamo_low c tests.0 in
    let high : c < 0x1200 = jamo_high c tests.1 in
    let same : c ≡ jamo_base + (c - jamo_base) = omega (arith, low) in
    record {
      place = c - jamo_base;
      below = omega (arith, low, high);
      holds = record {
        element = h.element;
        holds = subst (λ d. IsStatedBy tables.root d (reachable_from tables.root (slice_index tables.jamo (c - jamo_base))) h.element) same h.holds.stated;
        is = h.is;
      };
    }

diacritic_key : (secondaries : List ℕ) (k : ℕ) → HoldsBelow (IsDiacriticKey secondaries) (length secondaries) k → IsKeyOf (IsOfReachableDiacritic secondaries) k
diacritic_key secondaries k h =
    weaker_key (IsDiacriticAt secondaries h.place) (IsOfReachableDiacritic secondaries) (λ x d. record { place = h.place; inside = h.below; kept = d.kept; is = d.is }) k h.holds

diacritic_at : (secondaries : List ℕ) (k : ℕ) → IsKeyOf (IsOfReachableDiacritic secondaries) k → HoldsBelow (IsDiacriticKey secondaries) (length secondaries) k
diacritic_at secondaries k h =
    record { place = h.holds.place; below = h.holds.inside; holds = record { element = h.element; holds = record { kept = h.holds.kept; is = h.holds.is }; is = h.is } }

pub keys_of_root : (tables : Tables) (a b c : List ℕ) → Adds (IsKeyOf (IsStatedInRoot tables)) [] a → Adds (HoldsBelow (IsJamoKey tables) 256) a b
    → Adds (HoldsBelow (IsDiacriticKey tables.diacritics) (length tables.diacritics)) b c → (k : ℕ) → Contains c k ↔ IsRootKey tables k
keys_of_root tables a b c root jamo diacritics k = (
  λ has. elim ((diacritics k).0 has) as (λ _. IsRootKey tables k) [
    | inl in_b ↦ (elim ((jamo k).0 in_b) as (λ _. IsRootKey tables k) [
      | inl in_a ↦ (elim ((root k).0 in_a) as (λ _. IsRootKey tables k) [
        | inl none ↦ absurd (nothing_in k none)
        | inr stated ↦ weaker_key (IsStatedInRoot tables) (IsRootElement tables) (λ x h. inl h) k stated
      ])
      | inr placed ↦ weaker_key (IsStatedByJamo tables) (IsRootElement tables) (λ x h. inr (inl h)) k (jamo_key tables k placed)
    ])
    | inr placed ↦ weaker_key (IsOfReachableDiacritic tables.diacritics) (IsRootElement tables) (λ x h. inr (inr h)) k (diacritic_key tables.diacritics k placed)
  ],
  λ h. elim h.holds as (λ _. Contains c k) [
    | inl stated ↦ (diacritics k).1 (inl ((jamo k).1 (inl ((root k).1 (inr (record { element = h.element; holds = stated; is = h.is }))))))
    | inr (inl stated) ↦ (diacritics k).1 (inl ((jamo k).1 (inr (jamo_at tables k (record { element = h.element; holds = stated; is = h.is })))))
    | inr (inr placed) ↦ (diacritics k).1 (inr (diacritic_at tables.diacritics k (record { element = h.element; holds = placed; is = h.is })))
  ],
)
