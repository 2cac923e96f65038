-- Numbers and bytes as SQL compares them, and how a statement that isn't refused went.
use Rattle.std.proofs.Common.{◌≡◌, ◌⊎◌, inl, inr, ℕ, ℤ, pos, cond, int_lt, ◌<◌, ◌==◌, Bool, true, false, List, Some, Ok, Err, Result, refl, ap, ◌∙◌, arith, Ordering, Less, Equal, Greater, bytes_eq}
use Rattle.std.proofs.lemmas.Bool.Decides.{nat_tests}
use Rattle.std.proofs.lemmas.Cmp.{int_cmp_total}
use Rattle.std.proofs.lemmas.Map.Text.{is_eq-slice_cmp}
use Rattle.std.specs.Cmp.Lexicographic.{slice_cmp}
use Rattle.std.specs.Ordering.{int_cmp, is_eq, is_gt, is_lt, nat_cmp, ordering_reverse}
use Rattle.sqlite_sql.specs.Ops.{binary, from_truth, is_true, test}
use Rattle.sqlite_sql.specs.declared.ops.BinaryOp.TheVariants.{Compare}
use Rattle.sqlite_sql.specs.declared.ops.CompareOp.{CompareOp}
use Rattle.sqlite_sql.specs.declared.ops.CompareOp.TheVariants.{Eq, Gt}
use Rattle.sqlite_value.proofs.OrderLemmas.{value_cmp-Blob, value_cmp-Int}
use Rattle.sqlite_value.specs.Order.{value_cmp}
use Rattle.sqlite_value.specs.declared.keys.Collation.TheVariants.{Binary}
use Rattle.sqlite_value.specs.declared.value.Value.TheVariants.{Blob, Int}

pub pos_cmp : (m n : ℕ) → int_cmp (pos m) (pos n) ≡ nat_cmp m n
pos_cmp m n = grind (arith, nat_tests)

nat_below : (m n : ℕ) → m < n → nat_cmp m n ≡ Less
nat_below m n h = grind (arith, nat_tests)

nat_equal : (m n : ℕ) → is_eq (nat_cmp m n) ≡ (m == n)
nat_equal m n = grind (arith, nat_tests)

pub number_below : (m n : ℕ) → m < n → value_cmp (Int (pos m)) (Int (pos n)) ≡ Less
number_below m n h = value_cmp-Int (pos m) (pos n) ∙ (pos_cmp m n ∙ nat_below m n h)

nat_above : (m n : ℕ) → m < n → nat_cmp n m ≡ Greater
nat_above m n h = grind (arith, nat_tests)

pub number_above : (m n : ℕ) → m < n → value_cmp (Int (pos n)) (Int (pos m)) ≡ Greater
number_above m n h = value_cmp-Int (pos n) (pos m) ∙ (pos_cmp n m ∙ nat_above m n h)

pub same_number : (m n : ℕ) → is_eq (value_cmp (Int (pos m)) (Int (pos n))) ≡ (m == n)
same_number m n = ap is_eq (value_cmp-Int (pos m) (pos n) ∙ pos_cmp m n) ∙ nat_equal m n

truth_of : (b : Bool) → is_true (from_truth (Some b)) ≡ b
truth_of true = refl
truth_of false = refl

-- a comparison of two BLOBs holds where that of their bytes does
pub blobs_compared : (op : CompareOp) (a b : List ℕ) → is_true (binary (Compare op Binary) (Blob a) (Blob b)) ≡ test op (slice_cmp nat_cmp a b)
unfolding binary
blobs_compared op a b = truth_of (test op (value_cmp (Blob a) (Blob b))) ∙ ap (test op) (value_cmp-Blob a b)

pub same_blobs : (a b : List ℕ) → is_true (binary (Compare Eq Binary) (Blob a) (Blob b)) ≡ bytes_eq a b
same_blobs a b = blobs_compared Eq a b ∙ is_eq-slice_cmp a b

-- a comparison of two numbers for equality holds where they are one
pub same_ints : (m n : ℕ) → is_true (binary (Compare Eq Binary) (Int (pos m)) (Int (pos n))) ≡ (m == n)
unfolding binary
same_ints m n = truth_of (is_eq (value_cmp (Int (pos m)) (Int (pos n)))) ∙ same_number m n

is_less_back : (m n : ℤ) → is_gt (int_cmp m n) ≡ int_lt n m
is_less_back m n = ap is_gt (int_cmp_total.antisymm m n) ∙ turned_is (int_cmp n m) ∙ tested (int_lt n m) (int_lt m n)
  where
    turned_is : (o : Ordering) → is_gt (ordering_reverse o) ≡ is_lt o
    turned_is Less = refl
    turned_is Equal = refl
    turned_is Greater = refl

    tested : (a b : Bool) → is_lt (cond a Less (cond b Greater Equal)) ≡ a
    tested true b = refl
    tested false true = refl
    tested false false = refl

-- a number is above another one as SQL has it
pub ints_above : (m : ℕ) (n : ℤ) → is_true (binary (Compare Gt Binary) (Int (pos m)) (Int n)) ≡ int_lt n (pos m)
unfolding binary
ints_above m n = truth_of (is_gt (value_cmp (Int (pos m)) (Int n))) ∙ (ap is_gt (value_cmp-Int (pos m) n) ∙ is_less_back (pos m) n)

-- a part that gave a value did not stop on the way
pub went : {B E R : Type 0} {b : B} {Stops : E → Type 0} → ((stop : E) × Stops stop × (Ok b ≡ Err stop)) ⊎ R → R
went (inl stopped) = absurd (let e = stopped.2 in cc)
went (inr on) = on

pub same_value : {B E : Type 0} {a b : B} → ◌≡◌ {A = Result B E} (Ok a) (Ok b) → a ≡ b
same_value e = cc
