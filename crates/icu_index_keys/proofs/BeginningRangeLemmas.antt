-- The names behind a border, and those whose keys begin with bytes.
use Rattle.std.proofs.Common.{◌≡◌, ℕ, ◌≤◌, arith, Bool, true, not, ◌&&◌, List, [], ◌∷◌, ◌++◌, Some, None, drop, filter, length, map, suc, if◌then◌else◌, refl, sym, ap, ◌∙◌}
use Rattle.std.proofs.lemmas.List.{append-nil, drop_all, take_all}
use Rattle.std.proofs.Math.Bool.{and-true}
use Rattle.std.specs.Borrow.{Bor}
use Rattle.std.specs.Global.{Vec}
use Rattle.std.specs.List.{AllByRecursion}
use Rattle.icu_order_levels.proofs.beginnings.AboveLemmas.{beginnings_between}
use Rattle.icu_order_levels.specs.beginnings.KeyBeginnings.{least_above, begins, stands_between}
use Rattle.icu_index_keys.proofs.BorderRangeLemmas.{between_is}
use Rattle.icu_index_keys.proofs.KeyedLemmas.{filter_along, names_are}
use Rattle.icu_index_keys.proofs.LeafPlaceLemmas.{all_pass, leaf_none}
use Rattle.icu_index_keys.proofs.PlacedLemmas.{agree, bytes_key}
use Rattle.icu_index_keys.specs.Borders.{border_key, lies_before}
use Rattle.icu_index_keys.specs.KeyedLists.{Keyed, beginning_with, behind_border, between, names_in}
use Rattle.icu_index_keys.specs.declared.borders.Border.{Border}
use Rattle.icu_index_keys.specs.declared.borders.Border.TheVariants.{Before}
use Rattle.icu_index_keys.specs.declared.name_entries.Entry.{Entry}
use Rattle.icu_index_keys.specs.inner.NameEntries.{AreEntriesIn, HaveByteKeys, entry_before, key_in, keyed_in, name_in}
use Rattle.icu_order_levels.specs.beginnings.KeyBeginnings.{AreBytes}
use Rattle.icu_index_keys.specs.inner.Leaves.{Parts, entries_between, entries_of}

-- ---- the place behind all entries

abbrev pub any_entry : Entry → Bool
any_entry e = true

each_passes : (es : List Entry) → AllByRecursion (λ e. any_entry e ≡ true) es
each_passes [] = tt
each_passes (e ∷ es) = (refl, each_passes es)

pub parts_at_end : (ls : List (Vec Entry)) (n : ℕ) → n ≡ length ls → Parts any_entry ls n 0
parts_at_end ls n e =
    let is = all_pass any_entry (entries_of ls) (each_passes (entries_of ls)) in
    let low : length ls ≤ n = omega (arith, e) in
    record {
      passes = ap (λ es. entries_of es ++ []) (take_all n ls low) ∙ (append-nil (entries_of ls) ∙ sym is.0);
      fails = ap (λ es. es ++ entries_of (drop (suc n) ls)) (leaf_none ls n low) ∙ (ap entries_of (drop_all (suc n) ls (omega (arith, e))) ∙ sym is.1);
      within = omega arith;
    }

-- ---- the names behind a border

module _ (bytes : List ℕ) (are : AreBytes bytes) (ls : List (Vec Entry)) (sound : AreEntriesIn bytes (entries_of ls))
    (from : Border) (from_bytes : AreBytes (border_key from)) where
  behind_alike : (es : List Entry) → AllByRecursion (λ e. entry_before bytes from e ≡ lies_before from (key_in bytes e)) es
      → AllByRecursion (λ e. (not (entry_before bytes from e) && any_entry e) ≡ not (lies_before from (key_in bytes e))) es
  behind_alike [] h = tt
  behind_alike (e ∷ es) h = (and-true (not (entry_before bytes from e)) ∙ ap not h.0, behind_alike es h.1)

  pub names_behind : (i a n : ℕ) → n ≡ length ls → Parts (entry_before bytes from) ls i a
      → map (name_in bytes) (entries_between ls i a n 0) ≡ names_in (behind_border from (map (keyed_in bytes) (entries_of ls)))
  names_behind i a n e first =
      ap (map (name_in bytes)) (between_is (entry_before bytes from) any_entry ls i a n 0 first (parts_at_end ls n e))
      ∙ (names_are bytes (filter (λ e. not (entry_before bytes from e) && any_entry e) (entries_of ls))
      ∙ ap names_in (filter_along (keyed_in bytes) (λ e. not (entry_before bytes from e) && any_entry e) (λ x. not (lies_before from x.0)) (entries_of ls)
      (behind_alike (entries_of ls) (agree bytes are from from_bytes (entries_of ls) sound))))

-- ---- keys are bytes

pub byte_keys : (bytes : List ℕ) → AreBytes bytes → (es : List Entry) → HaveByteKeys (map (keyed_in bytes) es)
byte_keys bytes are [] = tt
byte_keys bytes are (e ∷ es) = (bytes_key bytes e are, byte_keys bytes are es)

-- ---- those that begin with bytes

filter_same : (s t : Keyed → Bool) (xs : List Keyed) → AllByRecursion (λ x. s x ≡ t x) xs → filter s xs ≡ filter t xs
filter_same s t [] h = refl
filter_same s t (x ∷ xs) h = ap (λ b. if b then x ∷ filter s xs else filter s xs) h.0 ∙ ap (λ ys. if t x then x ∷ ys else ys) (filter_same s t xs h.1)

module _ (from : Bor (List ℕ)) (are : AreBytes from.now) where
  below_bound : (to : Bor (List ℕ)) → least_above from.now ≡ Some to.now → (xs : List Keyed) → HaveByteKeys xs
      → AllByRecursion (λ x. (not (lies_before (Before from) x.0) && lies_before (Before to) x.0) ≡ begins from.now x.0) xs
  below_bound to is [] h = tt
  below_bound to is (x ∷ xs) h = (
    sym (beginnings_between from.now x.0 are h.0 ∙ ap (λ o. stands_between from.now o x.0) is),
    below_bound to is xs h.1,
  )

  pub between_begins : (to : Bor (List ℕ)) → least_above from.now ≡ Some to.now → (xs : List Keyed) → HaveByteKeys xs
      → names_in (between (Before from) (Before to) xs) ≡ names_in (beginning_with from.now xs)
  between_begins to is xs h =
      ap names_in (filter_same (λ x. not (lies_before (Before from) x.0) && lies_before (Before to) x.0) (λ x. begins from.now x.0) xs (below_bound to is xs h))

  no_bound : least_above from.now ≡ None → (xs : List Keyed) → HaveByteKeys xs
      → AllByRecursion (λ x. not (lies_before (Before from) x.0) ≡ begins from.now x.0) xs
  no_bound is [] h = tt
  no_bound is (x ∷ xs) h = (
    sym (and-true (not (lies_before (Before from) x.0)))
        ∙ sym (beginnings_between from.now x.0 are h.0 ∙ ap (λ o. stands_between from.now o x.0) is),
    no_bound is xs h.1,
  )

  pub behind_begins : least_above from.now ≡ None → (xs : List Keyed) → HaveByteKeys xs
      → names_in (behind_border (Before from) xs) ≡ names_in (beginning_with from.now xs)
  behind_begins is xs h = ap names_in (filter_same (λ x. not (lies_before (Before from) x.0)) (λ x. begins from.now x.0) xs (no_bound is xs h))
