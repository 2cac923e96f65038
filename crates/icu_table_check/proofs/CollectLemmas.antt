-- The weights that a list comes to hold, table by table.
use Rattle.std.proofs.Common.{◌≡◌, ◌↔◌, ◌⊎◌, ℕ, ◌+◌, ◌-◌, ◌<◌, false, true, Bool, Result, OnOk, List, length, slice_index, Option, Some, None, IsTrue, refl, sym, ap, ◌∙◌, subst, inl, inr, arith, option_map}
use Rattle.std.proofs.lemmas.Bool.Decides.{nat_tests}
use Rattle.std.specs.List.{Contains}
use Rattle.icu_table_data.proofs.WalkLemmas.{on_ok}
use Rattle.icu_table_data.specs.declared.data.CollationData.{CollationData}
use Rattle.icu_table_entries.specs.declared.error.DataTable.TheVariants.{Root, Jamo, SpecialPrimaries, Metadata, Tailoring, Reordering, Diacritics}
use Rattle.icu_table_entries.specs.Elements.{of_secondary}
use Rattle.icu_table_data.specs.CollectedWeights.{is_stated}
use Rattle.icu_table_data.specs.Final.{final_elements}
use Rattle.icu_table_data.specs.Data.{Data, homed}
use Rattle.icu_table_provider.specs.Tables.{is_jamo}
use Rattle.icu_table_data.specs.Reachable.{reachable_from, reachable_at}
use Rattle.icu_table_data.specs.CollectedWeights.{IsWeightAmong, IsReachableWeight}
use Rattle.icu_table_provider.specs.Diacritics.{is_replaced_index}
use Rattle.icu_table_data.specs.StoredData.{data_of}
use Rattle.icu_table_provider.specs.StoredTables.{jamo_of, diacritics_of}
use Rattle.icu_table_provider.specs.declared.table_set.TableSet.{TableSet}
use Rattle.icu_table_check.specs.declared.check.weights.WeightList.{WeightList}
use Rattle.icu_table_provider.specs.CollatorTables.{CollatorTables}
use Rattle.icu_table_provider.specs.TableSets.{tables_in}
use Rattle.icu_table_check.specs.inner.ComparedWeights.{compared_weight, IsWeightBy, Adds, IsBelow, IsJamoWeight, IsDiacriticWeight}
use Rattle.icu_table_weights.proofs.PageLemmas.{below_last}

-- ---- what is added

map_right : {A B C D : Type 0} → (A ↔ (B ⊎ C)) → (C ↔ D) → (A ↔ (B ⊎ D))
map_right f g = (
  λ a. elim (f.0 a) [ inl b ↦ inl b | inr c ↦ inr (g.0 c) ],
  λ s. elim s [ inl b ↦ f.1 (inl b) | inr d ↦ f.1 (inr (g.1 d)) ],
)

pub adds_same : (P Q : ℕ → Type 0) (old new : List ℕ) → ((w : ℕ) → P w ↔ Q w) → Adds P old new → Adds Q old new
adds_same P Q old new same adds w = map_right (adds w) (same w)

pub adds_none : (P : ℕ → Type 0) (old new : List ℕ) → new ≡ old → ((w : ℕ) → P w → ⊥) → Adds P old new
adds_none P old new is none w = (λ c. inl (subst (λ ws. Contains ws w) is c), λ s. elim s [ inl c ↦ subst (λ ws. Contains ws w) (sym is) c | inr p ↦ absurd (none w p) ])

pub adds_one : (P : ℕ → Type 0) (old new : List ℕ) (v : ℕ) → Adds (λ w. w ≡ v) old new → P v → ((w : ℕ) → P w → w ≡ v) → Adds P old new
adds_one P old new v adds has only w = (
  λ c. elim ((adds w).0 c) [ inl before ↦ inl before | inr is ↦ inr (subst P (sym is) has) ],
  λ s. (adds w).1 (elim s as (λ _. Contains old w ⊎ (w ≡ v)) [ inl before ↦ inl before | inr p ↦ inr (only w p) ]),
)

-- ---- place by place

pub below_none : (P : ℕ → ℕ → Type 0) (old : List ℕ) → Adds (IsBelow P 0) old old
below_none P old = adds_none (IsBelow P 0) old old refl (λ w is. absurd (omega (arith, is.below)))

more : (i n : ℕ) → i < n → i < n + 1
more i n h = omega (arith, h)

last : (n : ℕ) → n < n + 1
last n = omega arith

pub below_step : (P : ℕ → ℕ → Type 0) (start old new : List ℕ) (n : ℕ) → Adds (IsBelow P n) start old → Adds (P n) old new → Adds (IsBelow P (n + 1)) start new
below_step P start old new n before now w = (
  λ c. elim ((now w).0 c) [
    | inl older ↦ elim ((before w).0 older) [
      | inl oldest ↦ inl oldest
      | inr is ↦ inr (record { place = is.place; below = more is.place n is.below; is = is.is })
    ]
    | inr p ↦ inr (record { place = n; below = last n; is = p })
  ],
  λ s. elim s [
    | inl oldest ↦ (now w).1 (inl ((before w).1 (inl oldest)))
    | inr is ↦ elim (below_last is.place n is.below) [
      | inl earlier ↦ (now w).1 (inl ((before w).1 (inr (record { place = is.place; below = earlier; is = is.is }))))
      | inr same ↦ (now w).1 (inr (subst (λ i. P i w) same is.is))
    ]
  ],
)

-- ---- table by table

module _ (list : WeightList) (all : CollatorTables) where
  pub root_same : (w : ℕ) → IsReachableWeight (compared_weight list) false all.tables.root w ↔ IsWeightBy list Root all.tables w
  root_same w = (
    λ is. record {
      x = is.among.x;
      read = record { home = all.tables.root; char = is.c; entry = is.among.e; reachable = (refl, is.scalar, is.among.reachable); stated = is.among.stated; member = is.among.given };
      weighs = is.among.weighs;
    },
    λ is. record {
      c = is.read.char;
      scalar = is.read.reachable.1;
      among = record {
        e = is.read.entry;
        reachable = subst (λ h. Contains (reachable_at false h is.read.char) is.read.entry) is.read.reachable.0 is.read.reachable.2;
        stated = subst (λ h. IsTrue (is_stated h is.read.char is.read.entry)) is.read.reachable.0 is.read.stated;
        x = is.x;
        given = subst (λ h. Contains (final_elements (homed h is.read.entry) is.read.char) is.x) is.read.reachable.0 is.read.member;
        weighs = is.weighs;
      };
    },
  )

  same_some : (a b : Data) → Some a ≡ Some b → a ≡ b
  same_some a b h = cc

  pub tailoring_same : (t : Data) → all.tables.tailoring ≡ Some t → (w : ℕ) → IsReachableWeight (compared_weight list) true t w ↔ IsWeightBy list Tailoring all.tables w
  tailoring_same t found w = (
    λ is. record {
      x = is.among.x;
      read = record { home = t; char = is.c; entry = is.among.e; reachable = (found, is.scalar, is.among.reachable); stated = is.among.stated; member = is.among.given };
      weighs = is.among.weighs;
    },
    λ is.
        let same : is.read.home ≡ t = same_some is.read.home t (sym is.read.reachable.0 ∙ found) in
        record {
          c = is.read.char;
          scalar = is.read.reachable.1;
          among = record {
            e = is.read.entry;
            reachable = subst (λ h. Contains (reachable_at true h is.read.char) is.read.entry) same is.read.reachable.2;
            stated = subst (λ h. IsTrue (is_stated h is.read.char is.read.entry)) same is.read.stated;
            x = is.x;
            given = subst (λ h. Contains (final_elements (homed h is.read.entry) is.read.char) is.x) same is.read.member;
            weighs = is.weighs;
          };
        },
  )

  none_some : (a : Data) → None ≡ Some a → ⊥
  none_some a h = cc

  pub no_tailoring : all.tables.tailoring ≡ None → (w : ℕ) → IsWeightBy list Tailoring all.tables w → ⊥
  no_tailoring found w is = none_some is.read.home (sym found ∙ is.read.reachable.0)

  place_back : (c : ℕ) → IsTrue (is_jamo c) → 0x1100 + (c - 0x1100) ≡ c
  place_back c is = grind (arith, nat_tests)

  place_inside : (c : ℕ) → IsTrue (is_jamo c) → c - 0x1100 < 256
  place_inside c is = grind (arith, nat_tests)

  char_jamo : (i : ℕ) → i < 256 → IsTrue (is_jamo (0x1100 + i))
  char_jamo i inside = grind (arith, nat_tests)

  char_place : (i : ℕ) → 0x1100 + i - 0x1100 ≡ i
  char_place i = omega arith

  pub jamo_same : (w : ℕ) → IsBelow (IsJamoWeight list all) 256 w ↔ IsWeightBy list Jamo all.tables w
  jamo_same w = (
    λ is. record {
      x = is.is.x;
      read = record {
        home = all.tables.root;
        char = 0x1100 + is.place;
        entry = is.is.e;
        reachable = (refl, char_jamo is.place is.below, subst (λ i. Contains (reachable_from all.tables.root (slice_index all.tables.jamo i)) is.is.e) (sym (char_place is.place)) is.is.reachable);
        stated = is.is.stated;
        member = is.is.given;
      };
      weighs = is.is.weighs;
    },
    λ is.
        let back = place_back is.read.char is.read.reachable.1 in
        record {
          place = is.read.char - 0x1100;
          below = place_inside is.read.char is.read.reachable.1;
          is = record {
            e = is.read.entry;
            reachable = subst (λ h. Contains (reachable_from h (slice_index all.tables.jamo (is.read.char - 0x1100))) is.read.entry) is.read.reachable.0 is.read.reachable.2;
            stated = subst (λ c. IsTrue (is_stated all.tables.root c is.read.entry)) (sym back) (subst (λ h. IsTrue (is_stated h is.read.char is.read.entry)) is.read.reachable.0 is.read.stated);
            x = is.x;
            given = subst (λ c. Contains (final_elements (homed all.tables.root is.read.entry) c) is.x) (sym back) (subst (λ h. Contains (final_elements (homed h is.read.entry) is.read.char) is.x) is.read.reachable.0 is.read.member);
            weighs = is.weighs;
          };
        },
  )

  pub diacritics_same : (n : ℕ) → n ≡ length all.tables.diacritics → (w : ℕ) → IsBelow (IsDiacriticWeight list all) n w ↔ IsWeightBy list Diacritics all.tables w
  diacritics_same n count w = (
    λ is. record {
      x = of_secondary (slice_index all.tables.diacritics is.place);
      read = record { place = is.place; inside = subst (λ n. is.place < n) count is.below; kept = is.is.kept; is = refl };
      weighs = is.is.weighs;
    },
    λ is. record {
      place = is.read.place;
      below = subst (λ n. is.read.place < n) (sym count) is.read.inside;
      is = record { kept = is.read.kept; weighs = subst (λ x. compared_weight list x ≡ Some w) is.read.is is.weighs };
    },
  )

  pub special_none : (w : ℕ) → IsWeightBy list SpecialPrimaries all.tables w → ⊥
  special_none w is = is.read.reachable

  pub metadata_none : (w : ℕ) → IsWeightBy list Metadata all.tables w → ⊥
  metadata_none w is = is.read.reachable

  pub reordering_none : (w : ℕ) → IsWeightBy list Reordering all.tables w → ⊥
  reordering_none w is = is.read.reachable

-- ---- as tables are returned

abbrev Found : (ℕ → Type 0) → List ℕ → List ℕ → Type 0
Found P old new = (w : ℕ) → Contains new w ↔ (Contains old w ⊎ P w)

module _ (s : TableSet) (list : WeightList) where
  pub loaded_root : {X E : Type 0} (r : Result X E) (old new : List ℕ) → OnOk r (Found (IsReachableWeight (compared_weight list) false (data_of s.root)) old new) → OnOk r (Adds (IsWeightBy list Root (tables_in s).tables) old new)
  unfolding tables_in
  loaded_root r old new = on_ok _ _ (adds_same (IsReachableWeight (compared_weight list) false (data_of s.root)) (IsWeightBy list Root (tables_in s).tables) old new (root_same list (tables_in s))) r

  pub loaded_tailoring : (t : CollationData) → s.tailoring ≡ Some t → {X E : Type 0} (r : Result X E) (old new : List ℕ) → OnOk r (Found (IsReachableWeight (compared_weight list) true (data_of t)) old new) → OnOk r (Adds (IsWeightBy list Tailoring (tables_in s).tables) old new)
  unfolding tables_in
  loaded_tailoring t found r old new =
      on_ok _ _ (adds_same (IsReachableWeight (compared_weight list) true (data_of t)) (IsWeightBy list Tailoring (tables_in s).tables) old new
      (tailoring_same list (tables_in s) (data_of t) (ap (option_map data_of) found))) r

  pub loaded_no_tailoring : s.tailoring ≡ None → (old : List ℕ) → Adds (IsWeightBy list Tailoring (tables_in s).tables) old old
  unfolding tables_in
  loaded_no_tailoring found old = adds_none (IsWeightBy list Tailoring (tables_in s).tables) old old refl (no_tailoring list (tables_in s) (ap (option_map data_of) found))

  pub loaded_of_jamo : (i e c : ℕ) → e ≡ slice_index (jamo_of s.jamo) i → c ≡ 0x1100 + i → {X E : Type 0} (r : Result X E) (old new : List ℕ)
      → OnOk r (Found (IsWeightAmong (compared_weight list) (data_of s.root) c (reachable_from (data_of s.root) e)) old new) → OnOk r (Adds (IsJamoWeight list (tables_in s) i) old new)
  unfolding tables_in
  loaded_of_jamo i e c is at r old new h =
      subst (λ e. OnOk r (Found (IsWeightAmong (compared_weight list) (data_of s.root) (0x1100 + i) (reachable_from (data_of s.root) e)) old new)) is
      (subst (λ d. OnOk r (Found (IsWeightAmong (compared_weight list) (data_of s.root) d (reachable_from (data_of s.root) e)) old new)) at h)

  pub loaded_jamo : (n : ℕ) → n ≡ 256 → (old new : List ℕ) → Adds (IsBelow (IsJamoWeight list (tables_in s)) n) old new → Adds (IsWeightBy list Jamo (tables_in s).tables) old new
  loaded_jamo n count old new adds =
      adds_same (IsBelow (IsJamoWeight list (tables_in s)) 256) (IsWeightBy list Jamo (tables_in s).tables) old new (jamo_same list (tables_in s))
      (subst (λ n. Adds (IsBelow (IsJamoWeight list (tables_in s)) n) old new) count adds)

  pub loaded_diacritics : (n : ℕ) → n ≡ length (diacritics_of s.diacritics) → (old new : List ℕ) → Adds (IsBelow (IsDiacriticWeight list (tables_in s)) n) old new → Adds (IsWeightBy list Diacritics (tables_in s).tables) old new
  unfolding tables_in
  loaded_diacritics n count old new adds = adds_same (IsBelow (IsDiacriticWeight list (tables_in s)) n) (IsWeightBy list Diacritics (tables_in s).tables) old new (diacritics_same list (tables_in s) n count) adds

  same_some_weight : (v w : ℕ) → Some v ≡ Some w → v ≡ w
  same_some_weight v w h = cc

  none_some_weight : (w : ℕ) → None ≡ Some w → ⊥
  none_some_weight w h = cc

  abbrev diacritic_weight : ℕ → Option ℕ
  diacritic_weight i = compared_weight list (of_secondary (slice_index (diacritics_of s.diacritics) i))

  pub loaded_diacritic : (i v : ℕ) → is_replaced_index i ≡ false → diacritic_weight i ≡ Some v → (old new : List ℕ) → Adds (λ w. w ≡ v) old new → Adds (IsDiacriticWeight list (tables_in s) i) old new
  unfolding tables_in
  loaded_diacritic i v kept weighs old new is =
      adds_one (IsDiacriticWeight list (tables_in s) i) old new v is (record { kept = kept; weighs = weighs }) (λ w p. sym (same_some_weight v w (sym weighs ∙ p.weighs)))

  pub loaded_no_diacritic : (i : ℕ) → diacritic_weight i ≡ None → (old : List ℕ) → Adds (IsDiacriticWeight list (tables_in s) i) old old
  unfolding tables_in
  loaded_no_diacritic i weighs old = adds_none (IsDiacriticWeight list (tables_in s) i) old old refl (λ w p. none_some_weight w (sym weighs ∙ p.weighs))

  true_false : (b : Bool) → b ≡ true → b ≡ false → ⊥
  true_false true h k = cc
  true_false false h k = cc

  pub loaded_replaced : (i : ℕ) → is_replaced_index i ≡ true → (old : List ℕ) → Adds (IsDiacriticWeight list (tables_in s) i) old old
  loaded_replaced i replaced old = adds_none (IsDiacriticWeight list (tables_in s) i) old old refl (λ w p. true_false _ replaced p.kept)
