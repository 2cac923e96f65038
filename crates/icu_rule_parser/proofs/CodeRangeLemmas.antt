-- Ranges of numbers, one after another.
use Rattle.std.proofs.Common.{rules, ℕ, Bool, true, false, not, ◌||◌, ◌&&◌, ◌+◌, ◌≤◌, ◌<◌, ◌≡◌, List, [], ◌∷◌, ◌++◌, max, nat_le, nat_lt, ap, ◌∙◌, refl, arith}
use Rattle.std.proofs.lemmas.Bool.Decides.{nat_tests}
use Rattle.std.specs.Char.{IsScalar}
use Rattle.ucd_table.specs.Rows.{in_ranges}

or_false : (b : Bool) → (b || false) ≡ b
or_false true = refl
or_false false = refl

or_same : (a b c : Bool) → (a || (b || c)) ≡ ((a || b) || c)
or_same true b c = refl
or_same false b c = refl

-- the characters that aren't in the ranges so far, with one range more
pub right_step : (o t : Bool) (n f l x : ℕ) → (x < n → o ≡ not t) → (n ≤ x → t ≡ false) → (o ≡ true → x < f) → x < max n (l + 1) → (o || (nat_le n x && nat_lt x f)) ≡ not (t || (nat_le f x && nat_le x l))
right_step true true n f l x a b c h = grind (arith, nat_tests)
right_step true false n f l x a b c h = let below : x < f = c refl in grind (arith, nat_tests)
right_step false true n f l x a b c h = grind (arith, nat_tests)
right_step false false n f l x a b c h = grind (arith, nat_tests)

pub none_step : (t : Bool) (n f l x : ℕ) → (n ≤ x → t ≡ false) → max n (l + 1) ≤ x → (t || (nat_le f x && nat_le x l)) ≡ false
none_step true n f l x b h = grind (arith, nat_tests)
none_step false n f l x b h = grind (arith, nat_tests)

pub below_step : (o : Bool) (n f g x : ℕ) → (o ≡ true → x < g) → f ≤ g → (o || (nat_le n x && nat_lt x f)) ≡ true → x < g
below_step true n f g x a h e = a refl
below_step false n f g x a h e = grind (arith, nat_tests)

pub right_end : (o t : Bool) (n x : ℕ) → (x < n → o ≡ not t) → (n ≤ x → t ≡ false) → x < 0x110000 → (o || (nat_le n x && nat_lt x 0x110000)) ≡ not t
right_end true true n x a b h = grind (arith, nat_tests)
right_end true false n x a b h = refl
right_end false true n x a b h = grind (arith, nat_tests)
right_end false false n x a b h = grind (arith, nat_tests)

pub in_ranges_push : (rs : List (ℕ × ℕ)) (r : ℕ × ℕ) (x : ℕ) → in_ranges (rs ++ r ∷ []) x ≡ (in_ranges rs x || (nat_le r.0 x && nat_le x r.1))
unfolding in_ranges
in_ranges_push [] r x = or_false (nat_le r.0 x && nat_le x r.1)
in_ranges_push (q ∷ rs) r x =
    ap (λ b. (nat_le q.0 x && nat_le x q.1) || b) (in_ranges_push rs r x) ∙ or_same (nat_le q.0 x && nat_le x q.1) (in_ranges rs x) (nat_le r.0 x && nat_le x r.1)

pub in_ranges_none : (x : ℕ) → in_ranges [] x ≡ false
unfolding in_ranges
in_ranges_none x = refl

pub scalar_small : (x : ℕ) → IsScalar x → x < 0x110000
scalar_small x k = search rules
