-- Of keys that begin with the same number the lengths decide up to eight bytes, and then the bytes behind these.
use Rattle.std.proofs.Common.{◌≡◌, ℕ, zero, suc, ◌-◌, ◌<◌, ◌≤◌, ◌⊎◌, List, [], ◌∷◌, ◌++◌, drop, get_or, length, min, slice_index, take, inl, inr, refl, sym, ap, ◌∙◌, arith}
use Rattle.std.proofs.lemmas.Bool.{cases_lt}
use Rattle.std.proofs.lemmas.Nat.{be_bytes_8}
use Rattle.std.proofs.Math.Seq.{take-nil}
use Rattle.std.specs.Int.{to_be_bytes, w64}
use Rattle.std.specs.Ordering.{nat_cmp, ordering_then}
use Rattle.std.specs.declared.cmp.Ordering.TheVariants.{Less, Greater}
use Rattle.icu_order_levels.specs.beginnings.KeyBeginnings.{AreBytes}
use Rattle.icu_order_levels.specs.ListOrder.{list_order}
use Rattle.icu_index_keys.proofs.KeyPrefixLemmas.{prefix_is}
use Rattle.icu_index_keys.specs.declared.name_entries.Entry.{Entry}
use Rattle.icu_index_keys.specs.inner.NameEntries.{behind_count, count_of, first_counted, key_in, prefix_of}

-- ---- the first eight bytes of a key

abbrev first_eight : List ℕ → List ℕ
first_eight key = slice_index key 0 ∷ slice_index key 1 ∷ slice_index key 2 ∷ slice_index key 3 ∷ slice_index key 4 ∷ slice_index key 5 ∷ slice_index key 6 ∷ slice_index key 7 ∷ []

byte_small : (key : List ℕ) (i : ℕ) → AreBytes key → slice_index key i < 256
byte_small [] i h = omega arith
byte_small (k ∷ ks) zero h = h.0
byte_small (k ∷ ks) (suc i) h = byte_small ks i h.1

eight_small : (key : List ℕ) → AreBytes key → (i : ℕ) → get_or (first_eight key) i 0 < 256
eight_small key h zero = byte_small key 0 h
eight_small key h (suc zero) = byte_small key 1 h
eight_small key h (suc (suc zero)) = byte_small key 2 h
eight_small key h (suc (suc (suc zero))) = byte_small key 3 h
eight_small key h (suc (suc (suc (suc zero)))) = byte_small key 4 h
eight_small key h (suc (suc (suc (suc (suc zero))))) = byte_small key 5 h
eight_small key h (suc (suc (suc (suc (suc (suc zero)))))) = byte_small key 6 h
eight_small key h (suc (suc (suc (suc (suc (suc (suc zero))))))) = byte_small key 7 h
eight_small key h (suc (suc (suc (suc (suc (suc (suc (suc i)))))))) = omega arith

digits_are : (key : List ℕ) → AreBytes key → to_be_bytes w64 (prefix_of key) ≡ first_eight key
digits_are key h = be_bytes_8 (first_eight key) (prefix_of key) refl (eight_small key h) (sym (prefix_is key))

joined : (key : List ℕ) → take (length key) (first_eight key) ++ drop 8 key ≡ key
joined [] = refl
joined (a ∷ []) = refl
joined (a ∷ b ∷ []) = refl
joined (a ∷ b ∷ c ∷ []) = refl
joined (a ∷ b ∷ c ∷ d ∷ []) = refl
joined (a ∷ b ∷ c ∷ d ∷ e ∷ []) = refl
joined (a ∷ b ∷ c ∷ d ∷ e ∷ f ∷ []) = refl
joined (a ∷ b ∷ c ∷ d ∷ e ∷ f ∷ g ∷ []) = refl
joined (a ∷ b ∷ c ∷ d ∷ e ∷ f ∷ g ∷ h ∷ rest) = ap (λ ks. a ∷ b ∷ c ∷ d ∷ e ∷ f ∷ g ∷ h ∷ (ks ++ rest)) (take-nil (length rest))

pub key_joined : (key : List ℕ) → AreBytes key → take (length key) (to_be_bytes w64 (prefix_of key)) ++ drop 8 key ≡ key
key_joined key h = ap (λ ds. take (length key) ds ++ drop 8 key) (digits_are key h) ∙ joined key

-- ---- what decides

same : (x : ℕ) → nat_cmp x x ≡ nat_cmp 0 0
same x = grind arith

both_more : (x y : ℕ) → (x < y) ⊎ (y ≤ x) → nat_cmp (suc x) (suc y) ≡ nat_cmp x y
both_more x y (inl h) = grind arith
both_more x y (inr h) = grind arith

min_more : (x n : ℕ) → min (suc x) (suc n) ≡ suc (min x n)
min_more x n = omega arith

zero_first : (x : ℕ) → nat_cmp 0 (suc x) ≡ Less
zero_first x = grind arith

zero_last : (x : ℕ) → nat_cmp (suc x) 0 ≡ Greater
zero_last x = grind arith

min_none : (n : ℕ) → min 0 (suc n) ≡ 0
min_none n = omega arith

by_lengths : (n c m : ℕ) (ds r s : List ℕ) → length ds ≡ n → (c < n → r ≡ []) → (m < n → s ≡ [])
    → list_order (take c ds ++ r) (take m ds ++ s) ≡ ordering_then (nat_cmp (min c n) (min m n)) (list_order r s)
by_lengths zero c m [] r s e hr hs =
    let none : min c 0 ≡ 0 = omega arith in
    let nothing : min m 0 ≡ 0 = omega arith in
    ap (λ ks. list_order (ks ++ r) (take m [] ++ s)) (take-nil c)
    ∙ (ap (λ ks. list_order r (ks ++ s)) (take-nil m)
    ∙ ap (λ o. ordering_then o (list_order r s)) (sym (ap (λ a. nat_cmp a (min m 0)) none ∙ ap (nat_cmp 0) nothing)))
by_lengths zero c m (d ∷ ds) r s e hr hs = absurd (omega arith)
by_lengths (suc n) c m [] r s e hr hs = absurd (omega arith)
by_lengths (suc n) zero zero (d ∷ ds) r s e hr hs = rw (min_none n) refl
by_lengths (suc n) zero (suc m) (d ∷ ds) r s e hr hs = rw (hr (omega arith), min_none n, min_more m n) (ap (λ o. ordering_then o (list_order [] s)) (sym (zero_first (min m n))))
by_lengths (suc n) (suc c) zero (d ∷ ds) r s e hr hs = rw (hs (omega arith), min_none n, min_more c n) (ap (λ o. ordering_then o (list_order r [])) (sym (zero_last (min c n))))
by_lengths (suc n) (suc c) (suc m) (d ∷ ds) r s e hr hs =
    ap (λ o. ordering_then o (list_order (take c ds ++ r) (take m ds ++ s))) (same d)
    ∙ (by_lengths n c m ds r s (omega arith) (λ h. hr (omega arith)) (λ h. hs (omega arith))
    ∙ ap (λ o. ordering_then o (list_order r s))
    (sym (both_more (min c n) (min m n) (cases_lt (min c n) (min m n)))
    ∙ (ap (λ a. nat_cmp a (suc (min m n))) (sym (min_more c n)) ∙ ap (nat_cmp (min (suc c) (suc n))) (sym (min_more m n)))))

short_rest : (xs : List ℕ) → count_of xs < 8 → first_counted 8 xs ≡ []
short_rest xs h = let e : count_of xs - 8 ≡ 0 = omega arith in ap (λ n. take n (behind_count xs)) e

pub short_drop : (n : ℕ) (xs : List ℕ) → length xs < n → drop n xs ≡ []
short_drop zero xs h = absurd (omega arith)
short_drop (suc n) [] h = refl
short_drop (suc n) (x ∷ xs) h = short_drop n xs (omega arith)

pub tied : (bytes : List ℕ) (e : Entry) (key : List ℕ) → AreBytes key → e.prefix ≡ prefix_of key
    → ordering_then (nat_cmp (min (count_of (drop e.start bytes)) 8) (min (length key) 8)) (list_order (first_counted 8 (drop e.start bytes)) (drop 8 key))
    ≡ list_order (key_in bytes e) key
tied bytes e key h is =
    let from = drop e.start bytes in
    sym (ap (list_order (key_in bytes e)) (sym (ap (λ p. take (length key) (to_be_bytes w64 p) ++ drop 8 key) is ∙ key_joined key h))
    ∙ by_lengths 8 (count_of from) (length key) (to_be_bytes w64 e.prefix) (first_counted 8 from) (drop 8 key) refl (short_rest from) (short_drop 8 key))
