-- Of keys whose first eight bytes are alike the second eight tell the order where they differ.
use Rattle.std.proofs.Common.{◌≡◌, ℕ, zero, suc, ◌<◌, ◌≤◌, ◌⊎◌, List, [], ◌∷◌, ◌++◌, drop, length, take, inl, inr, refl, sym, ap, ◌∙◌, arith, subst}
use Rattle.std.proofs.lemmas.Bool.{cases_lt}
use Rattle.std.proofs.Math.Seq.{take-nil}
use Rattle.icu_index_keys.proofs.PlacedLemmas.{bytes_drop}
use Rattle.std.specs.Int.{to_be_bytes, w64}
use Rattle.std.specs.Ordering.{ordering_then}
use Rattle.std.specs.declared.cmp.Ordering.TheVariants.{Less}
use Rattle.icu_order_levels.specs.beginnings.KeyBeginnings.{AreBytes}
use Rattle.icu_index_keys.proofs.KeyPrefixLemmas.{prefix_tells}
use Rattle.icu_index_keys.proofs.TiedLemmas.{key_joined, short_drop}
use Rattle.icu_index_keys.specs.inner.NameEntries.{prefix_of}
use Rattle.icu_order_levels.proofs.Order.{same_number}
use Rattle.icu_order_levels.specs.ListOrder.{list_order}

no_prefix : prefix_of [] ≡ 0
unfolding prefix_of
no_prefix = refl

-- lists that begin alike stand as what follows, where one that is shorter has nothing more
behind_alike : (ds : List ℕ) (c m : ℕ) (r s : List ℕ) → length ds ≤ m → (c < length ds → r ≡ []) → list_order r s ≡ Less
    → list_order (take c ds ++ r) (take m ds ++ s) ≡ Less
behind_alike [] c m r s long short h =
    ap (λ ks. list_order (ks ++ r) (take m [] ++ s)) (take-nil c) ∙ (ap (λ ks. list_order r (ks ++ s)) (take-nil m) ∙ h)
behind_alike (d ∷ ds) c zero r s long short h = absurd (omega (arith, long))
behind_alike (d ∷ ds) zero (suc m) r s long short h = ap (λ ks. list_order ks (d ∷ (take m ds ++ s))) (short (omega arith))
behind_alike (d ∷ ds) (suc c) (suc m) r s long short h =
    ap (λ o. ordering_then o (list_order (take c ds ++ r) (take m ds ++ s))) (same_number d)
    ∙ behind_alike ds c m r s (omega (arith, long)) (λ low. short (omega (arith, low))) h

reaches : (ys : List ℕ) (n : ℕ) → n < prefix_of (drop 8 ys) → (length ys < 8) ⊎ (8 ≤ length ys) → 8 ≤ length ys
reaches ys n h (inr long) = long
reaches ys n h (inl short) =
    let none : n < prefix_of [] = subst (λ (zs : List ℕ). n < prefix_of zs) (short_drop 8 ys short) h in
    let nothing : n < 0 = subst (λ m. n < m) no_prefix none in
    absurd (omega (arith, nothing))

pub second_tells : (xs ys : List ℕ) → prefix_of xs ≡ prefix_of ys → AreBytes xs → AreBytes ys
    → prefix_of (drop 8 xs) < prefix_of (drop 8 ys) → list_order xs ys ≡ Less
second_tells xs ys e hx hy h =
    let ds = to_be_bytes w64 (prefix_of ys) in
    let first : take (length xs) ds ++ drop 8 xs ≡ xs =
    ap (λ p. take (length xs) (to_be_bytes w64 p) ++ drop 8 xs) (sym e) ∙ key_joined xs hx in
    let behind : list_order (drop 8 xs) (drop 8 ys) ≡ Less =
    prefix_tells (drop 8 xs) (drop 8 ys) (bytes_drop 8 xs hx) (bytes_drop 8 ys hy) h in
    let whole : list_order (take (length xs) ds ++ drop 8 xs) (take (length ys) ds ++ drop 8 ys) ≡ Less =
    behind_alike ds (length xs) (length ys) (drop 8 xs) (drop 8 ys) (reaches ys (prefix_of (drop 8 xs)) h (cases_lt (length ys) 8)) (short_drop 8 xs) behind in
    subst (λ (zs : List ℕ). list_order zs ys ≡ Less) first
    (subst (λ (zs : List ℕ). list_order (take (length xs) ds ++ drop 8 xs) zs ≡ Less) (key_joined ys hy) whole)
