-- A name more among those of a buffer.
use Rattle.std.proofs.Common.{◌≡◌, ℕ, zero, suc, ◌<◌, ◌-◌, ◌&&◌, nat_eq, if◌then◌else◌, Bool, true, false, not, List, [], ◌∷◌, ◌++◌, drop, filter, get_or, length, map, take, refl, sym, ap, ◌∙◌, arith, subst}
use Rattle.std.proofs.lemmas.List.{length-map}
use Rattle.std.specs.Borrow.{Bor}
use Rattle.std.specs.Int.{to_be_bytes, w64}
use Rattle.std.specs.List.{AllByRecursion}
use Rattle.std.specs.Ordering.{is_le}
use Rattle.icu_table_data.proofs.ListLemmas.{all_append, weaker}
use Rattle.std.specs.Global.{Vec}
use Rattle.icu_index_keys.proofs.BorderRangeLemmas.{between_is}
use Rattle.icu_index_keys.proofs.BufferLemmas.{both, entries_stay, keyed_stay}
use Rattle.icu_index_keys.proofs.KeyedLemmas.{all_filter, filter_along, keys_parted, length_placed, map_append, map_same, names_are, parted_along, placed_is, rise_placed}
use Rattle.icu_index_keys.proofs.KeyPrefixLemmas.{before_is}
use Rattle.icu_index_keys.specs.Borders.{border_key, lies_before}
use Rattle.icu_index_keys.specs.KeyedLists.{Keyed, between, names_in, placed}
use Rattle.icu_index_keys.specs.declared.borders.Border.{Border}
use Rattle.icu_index_keys.specs.declared.borders.Border.TheVariants.{Behind}
use Rattle.icu_index_keys.specs.declared.name_entries.Entry.{Entry}
use Rattle.icu_index_keys.specs.inner.NameEntries.{AreEntriesIn, IsEntryIn, IsEntryOf, entry_before, behind_count, count_of, first_counted, key_in, keyed_in, name_in}
use Rattle.icu_order_levels.specs.beginnings.KeyBeginnings.{AreBytes}
use Rattle.icu_index_keys.specs.inner.Leaves.{IsParted, Parts, Rise, entries_between, entries_of}
use Rattle.icu_order_levels.specs.ListOrder.{list_order}

-- ---- bytes

pub bytes_from : (xs : List ℕ) → ((i : ℕ) → get_or xs i 0 < 256) → AreBytes xs
bytes_from [] h = tt
bytes_from (x ∷ xs) h = (h 0, bytes_from xs (λ i. h (suc i)))

pub bytes_in : (xs : List ℕ) → ((i d : ℕ) → i < length xs → get_or xs i d < 256) → AreBytes xs
bytes_in [] h = tt
bytes_in (x ∷ xs) h = (h 0 0 (omega arith), bytes_in xs (λ i d low. h (suc i) d (omega arith)))

pub bytes_drop : (n : ℕ) (xs : List ℕ) → AreBytes xs → AreBytes (drop n xs)
bytes_drop zero xs h = h
bytes_drop (suc n) [] h = tt
bytes_drop (suc n) (x ∷ xs) h = bytes_drop n xs h.1

bytes_take : (n : ℕ) (xs : List ℕ) → AreBytes xs → AreBytes (take n xs)
bytes_take zero xs h = tt
bytes_take (suc n) [] h = tt
bytes_take (suc n) (x ∷ xs) h = (h.0, bytes_take n xs h.1)

bytes_behind : (xs : List ℕ) → AreBytes xs → AreBytes (behind_count xs)
bytes_behind [] h = tt
bytes_behind (x ∷ xs) h = at (nat_eq x 255) where
  at : (t : Bool) → AreBytes (if t then drop 8 xs else xs)
  at true = bytes_drop 8 xs h.1
  at false = h.1

bytes_digits : (n : ℕ) → AreBytes (to_be_bytes w64 n)
bytes_digits n = (omega arith, (omega arith, (omega arith, (omega arith, (omega arith, (omega arith, (omega arith, (omega arith, tt))))))))

pub bytes_key : (bytes : List ℕ) (e : Entry) → AreBytes bytes → AreBytes (key_in bytes e)
bytes_key bytes e h =
    let from = drop e.start bytes in
    all_append (λ b. b < 256) (take (count_of from) (to_be_bytes w64 e.prefix)) (first_counted 8 from)
    (bytes_take (count_of from) (to_be_bytes w64 e.prefix) (bytes_digits e.prefix))
    (bytes_take (count_of from - 8) (behind_count from) (bytes_behind from (bytes_drop e.start bytes h)))

-- ---- entries stand before a border as their keys do

module _ (bytes : List ℕ) (are : AreBytes bytes) (border : Border) (kept : AreBytes (border_key border)) where
  pub agree : (es : List Entry) → AreEntriesIn bytes es → AllByRecursion (λ e. entry_before bytes border e ≡ lies_before border (key_in bytes e)) es
  agree [] h = tt
  agree (e ∷ es) h = (before_is bytes border e h.0.begins (bytes_key bytes e are) kept, agree es h.1)

  keys_are : (es : List Entry) → map (λ (x : Keyed). x.0) (map (keyed_in bytes) es) ≡ map (key_in bytes) es
  keys_are [] = refl
  keys_are (e ∷ es) = ap (λ ks. key_in bytes e ∷ ks) (keys_are es)

  pub entries_parted : (es : List Entry) → AreEntriesIn bytes es → Rise (map (λ (x : Keyed). x.0) (map (keyed_in bytes) es)) → IsParted (entry_before bytes border) es
  entries_parted es sound rise =
      parted_along (key_in bytes) (entry_before bytes border) (lies_before border) es (agree es sound)
      (keys_parted border (map (key_in bytes) es) (subst Rise (keys_are es) rise))

-- ---- one more

module _ (bytes more new : List ℕ) (is : new ≡ bytes ++ more) (es : List Entry) (sound : AreEntriesIn bytes es) where
  pub sound_in : AreEntriesIn new es
  sound_in = subst (λ bs. AreEntriesIn bs es) (sym is) (entries_stay bytes more es sound)

  pub keyed_as : map (keyed_in new) es ≡ map (keyed_in bytes) es
  keyed_as = subst (λ bs. map (keyed_in bs) es ≡ map (keyed_in bytes) es) (sym is) (map_same (keyed_in (bytes ++ more)) (keyed_in bytes) es (keyed_stay bytes more es sound))

  module _ (are : AreBytes new) (key : Bor (List ℕ)) (name : List ℕ) (border : Border) (goes : border ≡ Behind key) (kept : AreBytes key.now)
      (e : Entry) (entry : IsEntryOf new key.now name e) (rise : Rise (map (λ (x : Keyed). x.0) (map (keyed_in bytes) es))) where
    kept_border : AreBytes (border_key border)
    kept_border = subst (λ b. AreBytes (border_key b)) (sym goes) kept

    pub parted_in : IsParted (entry_before new border) es
    parted_in = entries_parted new are border kept_border es sound_in (subst (λ xs. Rise (map (λ (x : Keyed). x.0) xs)) (sym keyed_as) rise)

    abbrev stays : Keyed → Bool
    stays y = is_le (list_order y.0 key.now)

    agrees : AllByRecursion (λ x. entry_before new border x ≡ stays (keyed_in new x)) es
    agrees = subst (λ b. AllByRecursion (λ x. entry_before new border x ≡ lies_before b (key_in new x)) es) goes (agree new are border kept_border es sound_in)

    others : AllByRecursion (λ x. not (entry_before new border x) ≡ not (stays (keyed_in new x))) es
    others = weaker (λ x. entry_before new border x ≡ stays (keyed_in new x)) (λ x. not (entry_before new border x) ≡ not (stays (keyed_in new x))) (λ x h. ap not h) es agrees

    stays_parted : IsParted stays (map (keyed_in bytes) es)
    stays_parted = of_keys (map (keyed_in bytes) es) (keys_parted (Behind key) (map (λ (x : Keyed). x.0) (map (keyed_in bytes) es)) rise) where
      all_of_keys : (xs : List Keyed) → AllByRecursion (λ k. lies_before (Behind key) k ≡ false) (map (λ (x : Keyed). x.0) xs) → AllByRecursion (λ x. stays x ≡ false) xs
      all_of_keys [] h = tt
      all_of_keys (x ∷ xs) h = (h.0, all_of_keys xs h.1)

      of_keys : (xs : List Keyed) → IsParted (lies_before (Behind key)) (map (λ (x : Keyed). x.0) xs) → IsParted stays xs
      of_keys [] h = tt
      of_keys (x ∷ xs) h = (λ e. all_of_keys xs (h.0 e), of_keys xs h.1)

    module _ (after : List Entry) (placed_in : after ≡ filter (entry_before new border) es ++ e ∷ filter (λ x. not (entry_before new border x)) es) where
      pub keyed_placed : map (keyed_in new) after ≡ placed (key.now, name) (map (keyed_in bytes) es)
      keyed_placed =
          ap (map (keyed_in new)) placed_in
          ∙ (map_append (keyed_in new) (filter (entry_before new border) es) (e ∷ filter (λ x. not (entry_before new border x)) es)
          ∙ (ap (λ ys. ys ++ keyed_in new e ∷ map (keyed_in new) (filter (λ x. not (entry_before new border x)) es))
          (filter_along (keyed_in new) (entry_before new border) stays es agrees ∙ ap (filter stays) keyed_as)
          ∙ (ap (λ ys. filter stays (map (keyed_in bytes) es) ++ keyed_in new e ∷ ys)
          (filter_along (keyed_in new) (λ x. not (entry_before new border x)) (λ y. not (stays y)) es others ∙ ap (filter (λ y. not (stays y))) keyed_as)
          ∙ (ap (λ x. filter stays (map (keyed_in bytes) es) ++ x ∷ filter (λ y. not (stays y)) (map (keyed_in bytes) es))
          (both (key_in new e) key.now (name_in new e) name entry.key_is entry.name_is)
          ∙ sym (placed_is (key.now, name) (map (keyed_in bytes) es) stays_parted)))))

      pub sound_placed : AreEntriesIn new after
      sound_placed =
          subst (AreEntriesIn new) (sym placed_in)
          (all_append (IsEntryIn new) (filter (entry_before new border) es) (e ∷ filter (λ x. not (entry_before new border x)) es)
          (all_filter (IsEntryIn new) (entry_before new border) es sound_in)
          (entry.sound, all_filter (IsEntryIn new) (λ x. not (entry_before new border x)) es sound_in))

      pub rise_after : Rise (map (λ (x : Keyed). x.0) (map (keyed_in new) after))
      rise_after = subst (λ xs. Rise (map (λ (x : Keyed). x.0) xs)) (sym keyed_placed) (rise_placed (key.now, name) (map (keyed_in bytes) es) rise)

      pub length_after : length after ≡ suc (length es)
      length_after =
          sym (length-map after (keyed_in new))
          ∙ (ap length keyed_placed ∙ (length_placed (key.now, name) (map (keyed_in bytes) es) ∙ ap suc (length-map es (keyed_in bytes))))

-- ---- those between two borders

module _ (bytes : List ℕ) (are : AreBytes bytes) (ls : List (Vec Entry)) (sound : AreEntriesIn bytes (entries_of ls))
    (from to : Border) (from_bytes : AreBytes (border_key from)) (to_bytes : AreBytes (border_key to)) where
  alike : (es : List Entry) → AllByRecursion (λ e. entry_before bytes from e ≡ lies_before from (key_in bytes e)) es
      → AllByRecursion (λ e. entry_before bytes to e ≡ lies_before to (key_in bytes e)) es
      → AllByRecursion (λ e. (not (entry_before bytes from e) && entry_before bytes to e) ≡ (not (lies_before from (key_in bytes e)) && lies_before to (key_in bytes e))) es
  alike [] h k = tt
  alike (e ∷ es) h k =
      (ap (λ b. not b && entry_before bytes to e) h.0 ∙ ap (λ b. not (lies_before from (key_in bytes e)) && b) k.0, alike es h.1 k.1)

  pub names_between : (i a j b : ℕ) → Parts (entry_before bytes from) ls i a → Parts (entry_before bytes to) ls j b
      → map (name_in bytes) (entries_between ls i a j b) ≡ names_in (between from to (map (keyed_in bytes) (entries_of ls)))
  names_between i a j b first second =
      ap (map (name_in bytes)) (between_is (entry_before bytes from) (entry_before bytes to) ls i a j b first second)
      ∙ (names_are bytes (filter (λ e. not (entry_before bytes from e) && entry_before bytes to e) (entries_of ls))
      ∙ ap names_in (filter_along (keyed_in bytes) (λ e. not (entry_before bytes from e) && entry_before bytes to e) (λ x. not (lies_before from x.0) && lies_before to x.0) (entries_of ls)
      (alike (entries_of ls) (agree bytes are from from_bytes (entries_of ls) sound) (agree bytes are to to_bytes (entries_of ls) sound))))
