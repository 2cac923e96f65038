-- The mappings of an entry's contexts, one after another, and the conditions that the entries of contexts meet.
use Rattle.std.proofs.Common.{◌≡◌, ℕ, ◌+◌, ◌-◌, ◌<◌, Bool, true, false, List, [], ◌∷◌, ◌++◌, length, map, flat_map, fold, take, get_or, slice_index, Some, refl, sym, ap, ◌∙◌, subst, IsTrue, if◌then◌else◌}
use Rattle.std.proofs.lemmas.List.{take_more, map-append, append_assoc, append-nil}
use Rattle.std.proofs.lemmas.Grind.{flat_map-append}
use Rattle.std.proofs.lemmas.List.Elements.{Contains-get_or}
use Rattle.std.proofs.lemmas.Option.{slice_get_within, get_or_from_slice_get}
use Rattle.std.proofs.lemmas.Bool.{and_parts, and_from}
use Rattle.std.specs.Char.{IsScalar}
use Rattle.std.specs.List.{AllByRecursion, push, slice_get}
use Rattle.icu_table_entries.specs.declared.error.DataTable.TheVariants.{Root, Jamo}
use Rattle.icu_table_entries.specs.declared.entry.EntryKind.{EntryKind}
use Rattle.icu_table_entries.specs.declared.entry.EntryKind.TheVariants.{Expansion32, Expansion, Prefix, Contraction, Digit, Offset}
use Rattle.icu_table_entries.specs.Entries.{kind_of, entry_index}
use Rattle.icu_table_data.specs.declared.reachable_condition.ReachableCondition.{ReachableCondition}
use Rattle.icu_table_data.specs.declared.reachable_condition.ReachableCondition.TheVariants.{Indices, Bytes, Offsets}
use Rattle.icu_table_data.specs.Data.{Mapping, Data, homed, context_of, plain_of}
use Rattle.icu_table_data.specs.DataConditions.{is_inside, is_readable}
use Rattle.icu_table_data.specs.Reachable.{named_entries, reachable_digit, reachable_contraction, reachable_from}
use Rattle.icu_table_data.specs.ReachableConditions.{meets}
use Rattle.icu_table_data.proofs.EntryLemmas.{test_inside}
use Rattle.icu_table_data.proofs.ListLemmas.{weaker, all_where, of_member, all_first, all_second}
use Rattle.icu_table_provider.specs.CollatorTables.{CollatorTables}
use Rattle.icu_table_provider.specs.Tables.{is_jamo, jamo_base}
use Rattle.icu_table_provider.specs.declared.well_formed.condition.Condition.TheVariants as conditions
use Rattle.icu_table_provider.specs.well_formed.WellFormedTables.{IsWellFormedTables}
use Rattle.icu_element_matches.specs.WellFormedEntries.{MeetAll, HasContext, IsWellFormedFrom, IsWellFormedMatch}
use Rattle.icu_rule_root.specs.RootEntries.{root_entry}
use Rattle.icu_rule_root.specs.inner.LedEntries.{AreWellFormedMatches, AreWellFormedContractions, IsWellFormedContraction}

-- ---- mappings one after another

pub more_mapped : {X Y : Type 0} (f : X → Y) (xs : List X) (i : ℕ) (x : X) → slice_get xs i ≡ Some x → (ys done : List Y) → done ≡ ys ++ map f (take i xs)
    → done ++ f x ∷ [] ≡ ys ++ map f (take (i + 1) xs)
more_mapped f xs i x at ys done is =
    let same : get_or xs i x ≡ x = get_or_from_slice_get xs i x x at in
    ap (λ zs. zs ++ f x ∷ []) is ∙ append_assoc ys (map f (take i xs)) (f x ∷ [])
    ∙ ap (λ zs. ys ++ zs) (sym (ap (map f) (take_more xs i x (slice_get_within xs i x at)) ∙ map-append f (take i xs) (get_or xs i x ∷ []) ∙ ap (λ y. map f (take i xs) ++ f y ∷ []) same))

pub more_joined : {X Y : Type 0} (f : X → List Y) (xs : List X) (i : ℕ) (x : X) → slice_get xs i ≡ Some x → (ys done : List Y) → done ≡ ys ++ flat_map f (take i xs)
    → done ++ f x ≡ ys ++ flat_map f (take (i + 1) xs)
more_joined f xs i x at ys done is =
    let same : get_or xs i x ≡ x = get_or_from_slice_get xs i x x at in
    ap (λ zs. zs ++ f x) is ∙ append_assoc ys (flat_map f (take i xs)) (f x)
    ∙ ap (λ zs. ys ++ zs) (sym (ap (flat_map f) (take_more xs i x (slice_get_within xs i x at)) ∙ flat_map-append f (take i xs) (get_or xs i x ∷ [])
    ∙ ap (λ zs. flat_map f (take i xs) ++ zs) (append-nil (f (get_or xs i x))) ∙ ap (λ y. flat_map f (take i xs) ++ f y) same))

-- what holds of each mapping holds of the one at a place
pub at_place : {X : Type 0} (P : X → Type 0) (xs : List X) (i : ℕ) (x : X) → AllByRecursion P xs → slice_get xs i ≡ Some x → P x
at_place P xs i x all at =
    subst P (get_or_from_slice_get xs i x x at) (of_member P xs (get_or xs i x) all (Contains-get_or xs i x (slice_get_within xs i x at)))

pub fold_pushed : {X : Type 0} (xs ys : List X) → fold push xs ys ≡ xs ++ ys
fold_pushed xs [] = sym (append-nil xs)
fold_pushed xs (y ∷ ys) = fold_pushed (xs ++ y ∷ []) ys ∙ append_assoc xs (y ∷ []) ys

-- ---- conditions

module _ (home : Data) (c : ℕ) where
  abbrev Meets : ℕ → Type 0
  Meets f = (condition : ReachableCondition) → IsTrue (meets condition home c f)

  all_meet : (es : List ℕ) → MeetAll home c es → AllByRecursion Meets es
  all_meet es meet = all_where Meets es (λ f has condition. meet condition f has)

  meet_all : (es : List ℕ) → AllByRecursion Meets es → MeetAll home c es
  meet_all es all = λ condition f has. of_member Meets es f all has condition

  -- ---- a contraction, or none

  none_further : (P : ℕ → Type 0) (k : EntryKind) (e p : ℕ) (xs : List ℕ)
      → AllByRecursion P (elim k as (λ _. List ℕ) [ Contraction ↦ e ∷ xs | _ ↦ elim k as (λ _. List ℕ) [ Digit ↦ e ∷ p ∷ [] | _ ↦ e ∷ [] ] ])
      → AllByRecursion P (elim k as (λ _. List ℕ) [ Digit ↦ e ∷ p ∷ [] | _ ↦ e ∷ [] ])
  none_further P Contraction e p xs all = (all.0, tt)
  none_further P _ e p xs all = all

  pub match_of_contraction : (e : ℕ) → IsWellFormedContraction home c e → IsWellFormedMatch home c e
  unfolding reachable_contraction reachable_digit
  match_of_contraction e meet =
      meet_all (reachable_digit home e) (none_further Meets (kind_of e) e (plain_of home e) _ (all_meet (reachable_contraction home e) meet))

  led_by : (P : ℕ → Type 0) (k : EntryKind) (e : ℕ) (xs ys : List ℕ) → k ≡ Contraction → AllByRecursion P (elim k as (λ _. List ℕ) [ Contraction ↦ e ∷ xs | _ ↦ ys ]) → P e × AllByRecursion P xs
  led_by P Contraction e xs ys is all = all
  led_by P _ e xs ys is all = cc

  led_by_prefix : (P : ℕ → Type 0) (k : EntryKind) (e : ℕ) (xs ys : List ℕ) → k ≡ Prefix → AllByRecursion P (elim k as (λ _. List ℕ) [ Prefix ↦ e ∷ xs | _ ↦ ys ]) → P e × AllByRecursion P xs
  led_by_prefix P Prefix e xs ys is all = all
  led_by_prefix P _ e xs ys is all = cc

  each_of : (P : ℕ → Type 0) (f : ℕ → List ℕ) (xs : List ℕ) → AllByRecursion P (flat_map f xs) → AllByRecursion (λ x. AllByRecursion P (f x)) xs
  each_of P f [] all = tt
  each_of P f (x ∷ xs) all = (all_first P (f x) (flat_map f xs) all, each_of P f xs (all_second P (f x) (flat_map f xs) all))

  of_mapped : (P : ℕ → Type 0) (mappings : List Mapping) → AllByRecursion P (map (λ (m : Mapping). m.entry) mappings) → AllByRecursion (λ (m : Mapping). P m.entry) mappings
  of_mapped P [] all = tt
  of_mapped P (m ∷ mappings) all = (all.0, of_mapped P mappings all.1)

  led : (e : ℕ) → kind_of e ≡ Contraction → IsWellFormedContraction home c e → Meets e × AllByRecursion (λ f. AllByRecursion Meets (reachable_digit home f)) (named_entries home e)
  unfolding reachable_contraction
  led e is meet =
      let both = led_by Meets (kind_of e) e _ _ is (all_meet (reachable_contraction home e) meet) in
      (both.0, each_of Meets (reachable_digit home) (named_entries home e) both.1)

  led_from_prefix : (e : ℕ) → kind_of e ≡ Prefix → IsWellFormedFrom home c e → Meets e × AllByRecursion (λ f. AllByRecursion Meets (reachable_contraction home f)) (named_entries home e)
  unfolding reachable_from
  led_from_prefix e is meet =
      let both = led_by_prefix Meets (kind_of e) e _ _ is (all_meet (reachable_from home e) meet) in
      (both.0, each_of Meets (reachable_contraction home) (named_entries home e) both.1)

  pub default_match : (e : ℕ) → kind_of e ≡ Contraction → IsWellFormedContraction home c e → IsWellFormedMatch home c (context_of (homed home e)).default
  default_match e is meet = meet_all (reachable_digit home (context_of (homed home e)).default) (led e is meet).1.0

  pub mapping_matches : (e : ℕ) → kind_of e ≡ Contraction → IsWellFormedContraction home c e → AreWellFormedMatches home c (context_of (homed home e)).mappings
  mapping_matches e is meet =
      weaker (λ (m : Mapping). AllByRecursion Meets (reachable_digit home m.entry)) (λ (m : Mapping). IsWellFormedMatch home c m.entry) (λ m all. meet_all (reachable_digit home m.entry) all)
      (context_of (homed home e)).mappings (of_mapped (λ f. AllByRecursion Meets (reachable_digit home f)) (context_of (homed home e)).mappings (led e is meet).1.1)

  pub default_contraction : (e : ℕ) → kind_of e ≡ Prefix → IsWellFormedFrom home c e → IsWellFormedContraction home c (context_of (homed home e)).default
  default_contraction e is meet = meet_all (reachable_contraction home (context_of (homed home e)).default) (led_from_prefix e is meet).1.0

  pub mapping_contractions : (e : ℕ) → kind_of e ≡ Prefix → IsWellFormedFrom home c e → AreWellFormedContractions home c (context_of (homed home e)).mappings
  mapping_contractions e is meet =
      weaker (λ (m : Mapping). AllByRecursion Meets (reachable_contraction home m.entry)) (λ (m : Mapping). IsWellFormedContraction home c m.entry) (λ m all. meet_all (reachable_contraction home m.entry) all)
      (context_of (homed home e)).mappings (of_mapped (λ f. AllByRecursion Meets (reachable_contraction home f)) (context_of (homed home e)).mappings (led_from_prefix e is meet).1.1)

  no_prefix : (P : ℕ → Type 0) (k : EntryKind) (e p : ℕ) (xs ys : List ℕ)
      → AllByRecursion P (elim k as (λ _. List ℕ) [ Prefix ↦ e ∷ xs | _ ↦ elim k as (λ _. List ℕ) [ Contraction ↦ e ∷ ys | _ ↦ elim k as (λ _. List ℕ) [ Digit ↦ e ∷ p ∷ [] | _ ↦ e ∷ [] ] ] ])
      → AllByRecursion P (elim k as (λ _. List ℕ) [ Contraction ↦ e ∷ ys | _ ↦ elim k as (λ _. List ℕ) [ Digit ↦ e ∷ p ∷ [] | _ ↦ e ∷ [] ] ])
  no_prefix P Prefix e p xs ys all = (all.0, tt)
  no_prefix P _ e p xs ys all = all

  pub contraction_of_entry : (e : ℕ) → IsWellFormedFrom home c e → IsWellFormedContraction home c e
  unfolding reachable_from reachable_contraction reachable_digit
  contraction_of_entry e meet =
      meet_all (reachable_contraction home e) (no_prefix Meets (kind_of e) e (plain_of home e) _ _ (all_meet (reachable_from home e) meet))

  -- ---- what is there

  contraction_there : (k : EntryKind) (a b d f g h : Bool) → k ≡ Contraction
      → IsTrue (elim k as (λ _. Bool) [ Expansion32 ↦ a | Expansion ↦ b | Prefix ↦ d | Contraction ↦ f | Digit ↦ g | Offset ↦ h | _ ↦ true ]) → IsTrue f
  contraction_there Contraction a b d f g h is t = t
  contraction_there _ a b d f g h is t = cc

  prefix_there : (k : EntryKind) (a b d f g h : Bool) → k ≡ Prefix
      → IsTrue (elim k as (λ _. Bool) [ Expansion32 ↦ a | Expansion ↦ b | Prefix ↦ d | Contraction ↦ f | Digit ↦ g | Offset ↦ h | _ ↦ true ]) → IsTrue d
  prefix_there Prefix a b d f g h is t = t
  prefix_there _ a b d f g h is t = cc

  pub contraction_inside : (e : ℕ) → kind_of e ≡ Contraction → IsWellFormedContraction home c e → HasContext home e
  unfolding is_inside
  contraction_inside e is meet =
      let inside : IsTrue (is_inside home e) = (led e is meet).0 Indices in test_inside _ _ (contraction_there (kind_of e) _ _ _ _ _ _ is inside)

  pub prefix_inside : (e : ℕ) → kind_of e ≡ Prefix → IsWellFormedFrom home c e → HasContext home e
  unfolding is_inside
  prefix_inside e is meet =
      let inside : IsTrue (is_inside home e) = (led_from_prefix e is meet).0 Indices in test_inside _ _ (prefix_there (kind_of e) _ _ _ _ _ _ is inside)

  -- ---- an entry that nothing leads further

  readable_of : (e : ℕ) → Meets e → IsTrue (is_readable home c e)
  unfolding is_readable
  readable_of e meet = and_from _ _ (and_from _ _ (meet Indices) (and_parts _ _ (meet Bytes)).1) (meet Offsets)

  first_of_digit : (P : ℕ → Type 0) (k : EntryKind) (e p : ℕ) → AllByRecursion P (elim k as (λ _. List ℕ) [ Digit ↦ e ∷ p ∷ [] | _ ↦ e ∷ [] ]) → P e
  first_of_digit P Digit e p all = all.0
  first_of_digit P _ e p all = all.0

  second_of_digit : (P : ℕ → Type 0) (k : EntryKind) (e p : ℕ) → k ≡ Digit → AllByRecursion P (elim k as (λ _. List ℕ) [ Digit ↦ e ∷ p ∷ [] | _ ↦ e ∷ [] ]) → P p
  second_of_digit P Digit e p is all = all.1.0
  second_of_digit P _ e p is all = cc

  itself_meets : (e : ℕ) → IsWellFormedMatch home c e → Meets e
  unfolding reachable_digit
  itself_meets e meet = first_of_digit Meets (kind_of e) e (plain_of home e) (all_meet (reachable_digit home e) meet)

  plain_meets : (e : ℕ) → kind_of e ≡ Digit → IsWellFormedMatch home c e → Meets (plain_of home e)
  unfolding reachable_digit
  plain_meets e is meet = second_of_digit Meets (kind_of e) e (plain_of home e) is (all_meet (reachable_digit home e) meet)

  pub match_readable : (e : ℕ) → IsWellFormedMatch home c e → IsTrue (is_readable home c e)
  match_readable e meet = readable_of e (itself_meets e meet)

  pub plain_readable : (e : ℕ) → kind_of e ≡ Digit → IsWellFormedMatch home c e → IsTrue (is_readable home c (plain_of home e))
  plain_readable e is meet = readable_of (plain_of home e) (plain_meets e is meet)

  digit_there : (k : EntryKind) (a b d f g h : Bool) → k ≡ Digit
      → IsTrue (elim k as (λ _. Bool) [ Expansion32 ↦ a | Expansion ↦ b | Prefix ↦ d | Contraction ↦ f | Digit ↦ g | Offset ↦ h | _ ↦ true ]) → IsTrue g
  digit_there Digit a b d f g h is t = t
  digit_there _ a b d f g h is t = cc

  pub plain_inside : (e : ℕ) → kind_of e ≡ Digit → IsWellFormedMatch home c e → entry_index e < length home.entries
  unfolding is_inside
  plain_inside e is meet =
      let inside : IsTrue (is_inside home e) = itself_meets e meet Indices in test_inside _ _ (digit_there (kind_of e) _ _ _ _ _ _ is inside)

-- ---- the entry of a character

entry_by : (all : CollatorTables) → IsWellFormedTables all → (c : ℕ) → IsScalar c → (b : Bool) → is_jamo c ≡ b
    → IsWellFormedFrom all.tables.root c (if b then slice_index all.tables.jamo (c - jamo_base) else all.tables.root.value c)
entry_by all well_formed c scalar true is = λ condition f has. well_formed.each (conditions.Entry condition) Jamo all.tables.root c f (refl, is, has)
entry_by all well_formed c scalar false is = λ condition f has. well_formed.each (conditions.Entry condition) Root all.tables.root c f (refl, scalar, has)

pub entry_well_formed : (all : CollatorTables) → IsWellFormedTables all → (c : ℕ) → IsScalar c → IsWellFormedFrom all.tables.root c (root_entry all.tables c)
unfolding root_entry
entry_well_formed all well_formed c scalar = entry_by all well_formed c scalar (is_jamo c) refl
