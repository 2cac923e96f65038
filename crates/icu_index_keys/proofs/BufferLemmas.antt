-- Entries of a buffer that grows.
use Rattle.std.proofs.Common.{◌≡◌, ℕ, ◌^◌, ◌<◌, List, [], ◌∷◌, ◌++◌, drop, length, take, sym, ap, ◌∙◌, arith, subst}
use Rattle.std.proofs.Math.Seq.{drop-append_seam, take-append_seam}
use Rattle.std.proofs.lemmas.List.{append-nil, drop-append-le, length-drop}
use Rattle.std.specs.Int.{to_be_bytes, w64}
use Rattle.std.specs.List.{AllByRecursion}
use Rattle.icu_order_levels.specs.beginnings.KeyBeginnings.{AreBytes}
use Rattle.icu_index_keys.proofs.TiedLemmas.{key_joined}
use Rattle.icu_index_keys.proofs.CountedLemmas.{all_is, all_more, counted_more, counted_there, first_is, first_more, rest_is, rest_more, size_some}
use Rattle.icu_index_keys.specs.declared.name_entries.Entry.{Entry}
use Rattle.icu_index_keys.specs.inner.NameEntries.{AreEntriesIn, IsCounted, IsEntryIn, IsEntryOf, behind_counted, count_of, with_count, first_counted, key_in, keyed_in, name_in, prefix_of}

-- ---- an entry stays

module _ (bytes more : List ℕ) (e : Entry) (is : IsEntryIn bytes e) where
  behind : drop e.start (bytes ++ more) ≡ drop e.start bytes ++ more
  behind = drop-append-le e.start bytes more (omega (arith, is.key_there, size_some (drop e.start bytes), length-drop e.start bytes))

  key_more : key_in (bytes ++ more) e ≡ key_in bytes e
  key_more =
      let from = drop e.start bytes in
      ap (λ bs. take (count_of bs) (to_be_bytes w64 e.prefix) ++ first_counted 8 bs) behind
      ∙ (ap (λ n. take n (to_be_bytes w64 e.prefix) ++ first_counted 8 (from ++ more)) (all_more 8 from more is.key_there)
      ∙ ap (λ bs. take (count_of from) (to_be_bytes w64 e.prefix) ++ bs) (first_more 8 from more is.key_there))

  rest : behind_counted 8 (drop e.start (bytes ++ more)) ≡ behind_counted 8 (drop e.start bytes) ++ more
  rest = ap (behind_counted 8) behind ∙ rest_more 8 (drop e.start bytes) more is.key_there

  name_more : name_in (bytes ++ more) e ≡ name_in bytes e
  name_more = ap (first_counted 0) rest ∙ first_more 0 (behind_counted 8 (drop e.start bytes)) more is.name_there

  sound_more : IsEntryIn (bytes ++ more) e
  sound_more = record {
    key_there = subst (IsCounted 8) (sym behind) (counted_more 8 (drop e.start bytes) more is.key_there);
    name_there = subst (IsCounted 0) (sym rest) (counted_more 0 (behind_counted 8 (drop e.start bytes)) more is.name_there);
    begins = is.begins ∙ ap prefix_of (sym key_more);
  }

pub entries_stay : (bytes more : List ℕ) (es : List Entry) → AreEntriesIn bytes es → AreEntriesIn (bytes ++ more) es
entries_stay bytes more [] h = tt
entries_stay bytes more (e ∷ es) h = (sound_more bytes more e h.0, entries_stay bytes more es h.1)

pub both : (k l m n : List ℕ) → k ≡ l → m ≡ n → ◌≡◌ {A = List ℕ × List ℕ} (k, m) (l, n)
both k l m n a b = ap (λ x. (x, m)) a ∙ ap (λ x. (l, x)) b

pub keyed_stay : (bytes more : List ℕ) (es : List Entry) → AreEntriesIn bytes es → AllByRecursion (λ e. keyed_in (bytes ++ more) e ≡ keyed_in bytes e) es
keyed_stay bytes more [] h = tt
keyed_stay bytes more (e ∷ es) h = (both (key_in (bytes ++ more) e) (key_in bytes e) (name_in (bytes ++ more) e) (name_in bytes e) (key_more bytes more e h.0) (name_more bytes more e h.0), keyed_stay bytes more es h.1)

-- ---- a new entry

module _ (bytes key name new : List ℕ) (is : new ≡ bytes ++ (with_count 8 key ++ with_count 0 name)) (are : AreBytes key)
    (short : length key < 2 ^ 64) (small : length name < 2 ^ 64) (e : Entry) (prefix : e.prefix ≡ prefix_of key) (start : e.start ≡ length bytes) where
  abbrev both_written : List ℕ
  both_written = with_count 8 key ++ with_count 0 name

  from_it : drop e.start new ≡ both_written
  from_it = ap (λ n. drop n new) start ∙ (ap (drop (length bytes)) is ∙ drop-append_seam bytes both_written)

  behind_key : behind_counted 8 (drop e.start new) ≡ with_count 0 name ++ []
  behind_key = ap (behind_counted 8) from_it ∙ (rest_is 8 key short (with_count 0 name) ∙ sym (append-nil (with_count 0 name)))

  key_got : key_in new e ≡ key
  key_got =
      ap (λ bs. take (count_of bs) (to_be_bytes w64 e.prefix) ++ first_counted 8 bs) from_it
      ∙ (ap (λ n. take n (to_be_bytes w64 e.prefix) ++ first_counted 8 both_written) (all_is 8 key short (with_count 0 name))
      ∙ (ap (λ bs. take (length key) (to_be_bytes w64 e.prefix) ++ bs) (first_is 8 key short (with_count 0 name))
      ∙ (ap (λ p. take (length key) (to_be_bytes w64 p) ++ drop 8 key) prefix ∙ key_joined key are)))

  pub entry_is : IsEntryOf new key name e
  entry_is = record {
    key_is = key_got;
    name_is = ap (first_counted 0) behind_key ∙ first_is 0 name small [];
    sound = record {
      key_there = subst (IsCounted 8) (sym from_it) (counted_there 8 key short (with_count 0 name));
      name_there = subst (IsCounted 0) (sym behind_key) (counted_there 0 name small []);
      begins = prefix ∙ ap prefix_of (sym key_got);
    };
  }

pub shortened : (bytes more new : List ℕ) (n : ℕ) → new ≡ bytes ++ more → n ≡ length bytes → take n new ≡ bytes
shortened bytes more new n is e = ap (λ m. take m new) e ∙ (ap (take (length bytes)) is ∙ take-append_seam bytes more)
