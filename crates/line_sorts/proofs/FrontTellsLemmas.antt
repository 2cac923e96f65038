-- The first eight bytes of two keys tell their order where they differ.
use Rattle.std.proofs.Common.{◌≡◌, ℕ, zero, suc, ◌*◌, ◌+◌, ◌<◌, List, [], ◌∷◌, take, refl, sym, subst}
use Rattle.std.specs.Ordering.{nat_cmp, ordering_then}
use Rattle.std.specs.declared.cmp.Ordering.{Ordering}
use Rattle.std.specs.declared.cmp.Ordering.TheVariants.{Less, Equal, Greater}
use Rattle.icu_order_levels.specs.beginnings.KeyBeginnings.{AreBytes}
use Rattle.icu_index_keys.proofs.KeyPrefixLemmas.{prefix_tells}
use Rattle.icu_index_keys.specs.inner.NameEntries.{gathered, prefix_of}
use Rattle.icu_order_levels.specs.ListOrder.{list_order}

-- no more than the first eight count
gathered_front : (n value : ℕ) (xs : List ℕ) → gathered n value (take n xs) ≡ gathered n value xs
gathered_front zero value xs = refl
gathered_front (suc n) value [] = refl
gathered_front (suc n) value (x ∷ xs) = gathered_front n (value * 256 + x) xs

-- the first eight bytes make the number
pub prefix_front : (key : List ℕ) → prefix_of (take 8 key) ≡ prefix_of key
unfolding prefix_of
prefix_front key = gathered_front 8 0 key

less_first : (o p q : Ordering) → ordering_then o p ≡ Less → (p ≡ Less → q ≡ Less) → ordering_then o q ≡ Less
less_first Less p q h more = refl
less_first Equal p q h more = more h
less_first Greater p q h more = absurd (cc)

-- what the first few tell holds of the whole
whole_less : (n : ℕ) (xs ys : List ℕ) → list_order (take n xs) (take n ys) ≡ Less → list_order xs ys ≡ Less
whole_less zero xs ys h = absurd (cc)
whole_less (suc n) [] [] h = h
whole_less (suc n) [] (y ∷ ys) h = refl
whole_less (suc n) (x ∷ xs) [] h = absurd (cc)
whole_less (suc n) (x ∷ xs) (y ∷ ys) h =
    less_first (nat_cmp x y) (list_order (take n xs) (take n ys)) (list_order xs ys) h (whole_less n xs ys)

pub front_tells : (a b : List ℕ) → AreBytes (take 8 a) → AreBytes (take 8 b) → prefix_of a < prefix_of b → list_order a b ≡ Less
front_tells a b ha hb h =
    whole_less 8 a b (prefix_tells (take 8 a) (take 8 b) ha hb
    (subst (λ n. n < prefix_of (take 8 b)) (sym (prefix_front a)) (subst (λ n. prefix_of a < n) (sym (prefix_front b)) h)))
