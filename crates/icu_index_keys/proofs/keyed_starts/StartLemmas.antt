-- Starts whose keys ascend.
use Rattle.std.proofs.Common.{◌≡◌, ℕ, zero, suc, ◌+◌, ◌||◌, drop, ◌<◌, ◌≤◌, Bool, true, false, List, [], ◌∷◌, filter, get_or, if◌then◌else◌, length, map, refl, sym, ap, ◌∙◌, subst, arith}
use Rattle.std.proofs.lemmas.Cmp.{nat_list_cmp_total}
use Rattle.std.proofs.lemmas.List.{length-map, length-take-le}
use Rattle.std.specs.List.{AllByRecursion, insert}
use Rattle.std.specs.List.Sorted.{IsPartitionPoint}
use Rattle.std.specs.Ordering.{is_eq, is_le, is_lt, ordering_reverse}
use Rattle.std.specs.declared.cmp.Ordering.{Ordering}
use Rattle.std.specs.declared.cmp.Ordering.TheVariants.{Less, Equal, Greater}
use Rattle.icu_table_data.proofs.ListLemmas.{weaker}
use Rattle.icu_index_keys.proofs.KeyedLemmas.{filter_along}
use Rattle.icu_index_keys.proofs.LeafPlaceLemmas.{point_is}
use Rattle.icu_index_keys.specs.inner.Leaves.{IsParted}
use Rattle.icu_order_levels.specs.ListOrder.{list_order}
use Rattle.icu_order_levels.proofs.Order.{tied_lists}
use Rattle.icu_index_keys.specs.keyed_starts.KeyOrders.{Ascend, key_order, keys_of, ties_at}
use Rattle.icu_index_keys.specs.keyed_starts.Starts.{KeyedStart, has_label, placed_by, placed_start, start_of, starts_up_to}
use Rattle.icu_index_keys.specs.declared.keyed_starts.starts.Start.{Start}

-- ---- of keys that ascend, those below another come first

lt_stays : (k l key : List ℕ) (o : Ordering) → list_order l key ≡ o → list_order k l ≡ Less → is_lt (list_order k key) ≡ false → is_lt o ≡ false
lt_stays k l key Less e less h = let t = nat_list_cmp_total.trans k l key less e in absurd (no (list_order k key) t h)
  where
    no : (o : Ordering) → o ≡ Less → is_lt o ≡ false → ⊥
    no o e h = cc
lt_stays k l key Equal e less h = refl
lt_stays k l key Greater e less h = refl

not_le : (o : Ordering) → o ≡ Less → is_le o ≡ false → ⊥
not_le o e h = cc

le_stays : (k l key : List ℕ) (o : Ordering) → list_order l key ≡ o → list_order k l ≡ Less → is_le (list_order k key) ≡ false → is_le o ≡ false
le_stays k l key Less e less h = absurd (not_le (list_order k key) (nat_list_cmp_total.trans k l key less e) h)
le_stays k l key Equal e less h = absurd (not_le (list_order k key) (subst (λ m. list_order k m ≡ Less) (tied_lists l key e) less) h)
le_stays k l key Greater e less h = refl

module _ (test : Ordering → Bool) (key : List ℕ)
    (stays : (k l : List ℕ) (o : Ordering) → list_order l key ≡ o → list_order k l ≡ Less → test (list_order k key) ≡ false → test o ≡ false) where
  abbrev passes : Start → Bool
  passes s = test (key_order key s)

  later_fail : (s : Start) (ss : List Start) → passes s ≡ false → AllByRecursion (λ l. list_order s.key.items l ≡ Less) (keys_of ss)
      → AllByRecursion (λ t. passes t ≡ false) ss
  later_fail s [] e h = tt
  later_fail s (t ∷ ss) e h = (stays s.key.items t.key.items (key_order key t) refl h.0 e, later_fail s ss e h.1)

  pub starts_parted : (ss : List Start) → Ascend (keys_of ss) → IsParted passes ss
  starts_parted [] h = tt
  starts_parted (s ∷ ss) h = (λ e. later_fail s ss e h.0, starts_parted ss h.1)

pub lt_parted : (key : List ℕ) (ss : List Start) → Ascend (keys_of ss) → IsParted (λ s. is_lt (key_order key s)) ss
lt_parted key ss h = starts_parted is_lt key (λ k l o e less f. lt_stays k l key o e less f) ss h

pub le_parted : (key : List ℕ) (ss : List Start) → Ascend (keys_of ss) → IsParted (λ s. is_le (key_order key s)) ss
le_parted key ss h = starts_parted is_le key (λ k l o e less f. le_stays k l key o e less f) ss h

-- ---- how many there are

agree : (key : List ℕ) (ss : List Start) → AllByRecursion (λ s. is_le (key_order key s) ≡ is_le (list_order (start_of s).0 key)) ss
agree key [] = tt
agree key (s ∷ ss) = (refl, agree key ss)

pub counted : (key : List ℕ) (ss : List Start) (i : ℕ) → i ≤ length ss
    → IsPartitionPoint (λ s. is_le (key_order key s) ≡ true) (λ s. is_le (key_order key s) ≡ false) ss i → i ≡ starts_up_to key (map start_of ss)
counted key ss i low point =
    sym (length-take-le i ss low)
    ∙ (ap length (point_is (λ s. is_le (key_order key s)) ss i low point).0
    ∙ (sym (length-map (filter (λ s. is_le (key_order key s)) ss) start_of)
    ∙ ap length (filter_along start_of (λ s. is_le (key_order key s)) (λ (x : KeyedStart). is_le (list_order x.0 key)) ss (agree key ss))))

-- ---- one more

abbrev pub IsPlace : List ℕ → List Start → ℕ → Type 0
IsPlace key ss i = IsPartitionPoint (λ s. is_lt (key_order key s) ≡ true) (λ s. is_lt (key_order key s) ≡ false) ss i

one_later : (key : List ℕ) (s : Start) (ss : List Start) (i : ℕ) → IsPlace key (s ∷ ss) (suc i) → IsPlace key ss i
one_later key s ss i h = (λ k d at below. h.0 (suc k) d (omega arith) (omega arith), λ k d at below. h.1 (suc k) d (omega arith) (omega arith))

is_less : (o : Ordering) → is_lt o ≡ true → o ≡ Less
is_less Less e = refl
is_less Equal e = absurd (cc)
is_less Greater e = absurd (cc)

is_greater : (o : Ordering) → is_lt o ≡ false → is_eq o ≡ false → o ≡ Greater
is_greater Less e f = absurd (cc)
is_greater Equal e f = absurd (cc)
is_greater Greater e f = refl

is_equal : (o : Ordering) → is_eq o ≡ true → o ≡ Equal
is_equal Less e = absurd (cc)
is_equal Equal e = refl
is_equal Greater e = absurd (cc)

module _ (s : KeyedStart) where
  pub stays_out : (ss : List Start) (i : ℕ) → IsPlace s.0 ss i → i ≤ length ss → ties_at s.0 ss i ≡ true → placed_start s (map start_of ss) ≡ map start_of ss
  stays_out [] i h low e = absurd (cc)
  stays_out (x ∷ ss) zero h low e =
      ap (λ o. placed_by o s (start_of x) (map start_of ss) (placed_start s (map start_of ss))) (is_equal (key_order s.0 x) e)
  stays_out (x ∷ ss) (suc i) h low e =
      ap (λ o. placed_by o s (start_of x) (map start_of ss) (placed_start s (map start_of ss))) (is_less (key_order s.0 x) (h.0 0 x (omega arith) (omega arith)))
      ∙ ap (λ xs. start_of x ∷ xs) (stays_out ss i (one_later s.0 x ss i h) (omega arith) e)

  pub put_in : (new : Start) → start_of new ≡ s → (ss : List Start) (i : ℕ) → IsPlace s.0 ss i → i ≤ length ss → ties_at s.0 ss i ≡ false
      → placed_start s (map start_of ss) ≡ map start_of (insert ss i new)
  put_in new is [] zero h low free = ap (λ x. x ∷ []) (sym is)
  put_in new is [] (suc i) h low free = absurd (omega arith)
  put_in new is (x ∷ ss) zero h low free =
      ap (λ o. placed_by o s (start_of x) (map start_of ss) (placed_start s (map start_of ss)))
      (is_greater (key_order s.0 x) (h.1 0 x (omega arith) (omega arith)) free)
      ∙ ap (λ y. y ∷ start_of x ∷ map start_of ss) (sym is)
  put_in new is (x ∷ ss) (suc i) h low free =
      ap (λ o. placed_by o s (start_of x) (map start_of ss) (placed_start s (map start_of ss))) (is_less (key_order s.0 x) (h.0 0 x (omega arith) (omega arith)))
      ∙ ap (λ xs. start_of x ∷ xs) (put_in new is ss i (one_later s.0 x ss i h) (omega arith) free)

-- the start at an index ties, or there is none
pub ties_got : (key : List ℕ) (ss : List Start) (i : ℕ) (t : Start) → i < length ss → t ≡ get_or ss i t → ties_at key ss i ≡ is_eq (key_order key t)
ties_got key [] i t low is = absurd (omega arith)
ties_got key (s ∷ ss) zero t low is = ap (λ x. is_eq (key_order key x)) (sym is)
ties_got key (s ∷ ss) (suc i) t low is = ties_got key ss i t (omega arith) is

pub ties_none : (key : List ℕ) (ss : List Start) (i : ℕ) → length ss ≤ i → ties_at key ss i ≡ false
ties_none key [] i past = refl
ties_none key (s ∷ ss) zero past = absurd (omega arith)
ties_none key (s ∷ ss) (suc i) past = ties_none key ss i (omega arith)

-- ---- keys still ascend

less_turned : (k l : List ℕ) → list_order l k ≡ Greater → list_order k l ≡ Less
less_turned k l e = nat_list_cmp_total.antisymm k l ∙ ap ordering_reverse e

above_all : (new : Start) (P : List ℕ → Type 0) → P new.key.items → (ss : List Start) (i : ℕ) → AllByRecursion P (keys_of ss) → AllByRecursion P (keys_of (insert ss i new))
above_all new P p [] zero h = (p, tt)
above_all new P p [] (suc i) h = (p, tt)
above_all new P p (x ∷ ss) zero h = (p, h)
above_all new P p (x ∷ ss) (suc i) h = (h.0, above_all new P p ss i h.1)

pub ascend_put : (s : KeyedStart) (new : Start) → start_of new ≡ s → (ss : List Start) (i : ℕ) → IsPlace s.0 ss i → i ≤ length ss → ties_at s.0 ss i ≡ false
    → Ascend (keys_of ss) → Ascend (keys_of (insert ss i new))
ascend_put s new is [] zero h low free a = (tt, tt)
ascend_put s new is [] (suc i) h low free a = absurd (omega arith)
ascend_put s new is (x ∷ ss) zero h low free a =
    let key = ap (λ (y : KeyedStart). y.0) is in
    let less = less_turned new.key.items x.key.items
    (ap (list_order x.key.items) key ∙ is_greater (key_order s.0 x) (h.1 0 x (omega arith) (omega arith)) free) in (
      (
        less,
        weaker (λ l. list_order x.key.items l ≡ Less) (λ l. list_order new.key.items l ≡ Less)
            (λ l e. nat_list_cmp_total.trans new.key.items x.key.items l less e) (keys_of ss) a.0,
      ),
      a,
    )
ascend_put s new is (x ∷ ss) (suc i) h low free a =
    let key = ap (λ (y : KeyedStart). y.0) is in
    let less = ap (list_order x.key.items) key ∙ is_less (key_order s.0 x) (h.0 0 x (omega arith) (omega arith)) in (
      above_all new (λ l. list_order x.key.items l ≡ Less) less ss i a.0,
      ascend_put s new is ss i (one_later s.0 x ss i h) (omega arith) free a.1,
    )

-- whether or not the start was put in
pub ascend_after : (b : Bool) (new : Start) (ss after : List Start) (i : ℕ) → after ≡ (if b then insert ss i new else ss) → IsPlace new.key.items ss i → i ≤ length ss
    → ties_at new.key.items ss i ≡ false → Ascend (keys_of ss) → Ascend (keys_of after)
ascend_after true new ss after i is h low free a = subst (λ xs. Ascend (keys_of xs)) (sym is) (ascend_put (start_of new) new refl ss i h low free a)
ascend_after false new ss after i is h low free a = subst (λ xs. Ascend (keys_of xs)) (sym is) a

-- ---- labels

pub label_here : (ss : List Start) (i : ℕ) (t : Start) → i < length ss → t ≡ get_or ss i t
    → has_label (drop i (map start_of ss)) ≡ (t.is_label || has_label (drop (i + 1) (map start_of ss)))
label_here [] i t low is = absurd (omega arith)
label_here (s ∷ ss) zero t low is = ap (λ (x : Start). x.is_label || has_label (map start_of ss)) (sym is)
label_here (s ∷ ss) (suc i) t low is =
    label_here ss i t (omega arith) is ∙ ap (λ n. t.is_label || has_label (drop n (start_of s ∷ map start_of ss))) (next i)
  where
    next : (n : ℕ) → suc (n + 1) ≡ suc n + 1
    next n = omega arith

pub no_label : (ss : List Start) (i : ℕ) → length ss ≤ i → has_label (drop i (map start_of ss)) ≡ false
no_label [] zero past = refl
no_label [] (suc i) past = refl
no_label (s ∷ ss) zero past = absurd (omega arith)
no_label (s ∷ ss) (suc i) past = no_label ss i (omega arith)
