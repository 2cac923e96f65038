-- Characters with one more: their order beside a mapping, and whether they begin it.
use Rattle.std.proofs.Common.{◌≡◌, ℕ, ◌+◌, ◌&&◌, Bool, true, false, List, [], ◌∷◌, ◌++◌, length, take, drop, Some, None, refl, sym, ap, ap₂, ◌∙◌, arith, inl, inr, bytes_eq, Ordering, Less, Equal, Greater}
use Rattle.std.specs.Prelude.{slice_get, nat_eq}
use Rattle.std.specs.List.{starts_with}
use Rattle.std.specs.Ordering.{ordering_then, nat_cmp}
use Rattle.std.specs.Cmp.{nat_eq_equiv}
use Rattle.std.specs.Cmp.Lexicographic.{slice_cmp}
use Rattle.std.proofs.lemmas.Bool.{cases_Bool}
use Rattle.std.proofs.lemmas.List.{length_push}
use Rattle.icu_element_matches.proofs.CharacterOrderLemmas.{same_lists}

-- ---- the order

then_assoc : (a b c : Ordering) → ordering_then a (ordering_then b c) ≡ ordering_then (ordering_then a b) c
then_assoc Less b c = refl
then_assoc Equal b c = refl
then_assoc Greater b c = refl

-- the order of two lists, of which the first is cut: that of what stands before the cut, and then of what follows
pub cut_order : (front rest mapping : List ℕ) → slice_cmp nat_cmp (front ++ rest) mapping ≡ ordering_then (slice_cmp nat_cmp front (take (length front) mapping)) (slice_cmp nat_cmp rest (drop (length front) mapping))
cut_order [] rest mapping = refl
cut_order (x ∷ xs) rest [] = refl
cut_order (x ∷ xs) rest (y ∷ ys) =
    ap (ordering_then (nat_cmp x y)) (cut_order xs rest ys)
    ∙ then_assoc (nat_cmp x y) (slice_cmp nat_cmp xs (take (length xs) ys)) (slice_cmp nat_cmp rest (drop (length xs) ys))

-- ---- whether they begin a mapping

pub and_assoc : (a b c : Bool) → (a && (b && c)) ≡ (b && (a && c))
and_assoc true true c = refl
and_assoc true false c = refl
and_assoc false true c = refl
and_assoc false false c = refl

pub some_same : (a b : ℕ) → Some a ≡ Some b → a ≡ b
some_same a b e = cc

-- a mapping that ends where the one more stands doesn't begin with them
pub ends_before : (mapping front : List ℕ) (last : ℕ) → slice_get mapping (length front) ≡ None → starts_with nat_eq mapping (front ++ last ∷ []) ≡ false
ends_before [] [] last h = refl
ends_before (y ∷ ys) [] last h = cc
ends_before [] (x ∷ xs) last h = refl
ends_before (y ∷ ys) (x ∷ xs) last h = elim (cases_Bool (nat_eq x y)) [
  | inl same ↦ rw same (ends_before ys xs last h)
  | inr differs ↦ rw differs refl
]

-- a mapping begins with them exactly if the one more stands after those that it begins with
pub begins_there : (mapping front : List ℕ) (last c : ℕ) → slice_get mapping (length front) ≡ Some c → starts_with nat_eq mapping (front ++ last ∷ []) ≡ (nat_eq last c && starts_with nat_eq mapping front)
begins_there [] [] last c h = cc
begins_there (y ∷ ys) [] last c h = ap (λ x. nat_eq last x && true) (some_same y c h)
begins_there [] (x ∷ xs) last c h = cc
begins_there (y ∷ ys) (x ∷ xs) last c h =
    ap (λ b. nat_eq x y && b) (begins_there ys xs last c h) ∙ and_assoc (nat_eq x y) (nat_eq last c) (starts_with nat_eq ys xs)

-- a mapping as long as other characters begins with them exactly if it is these
pub begun_is : (mapping wanted : List ℕ) → length mapping ≡ length wanted → starts_with nat_eq mapping wanted ≡ bytes_eq mapping wanted
begun_is [] [] h = refl
begun_is (y ∷ ys) [] h = absurd (omega arith)
begun_is [] (x ∷ xs) h = absurd (omega arith)
begun_is (y ∷ ys) (x ∷ xs) h = ap₂ (λ a b. a && b) (nat_eq_equiv.symm x y) (begun_is ys xs (omega arith))

-- the characters that a mapping begins with are the first of its own
pub begun_take : (mapping front : List ℕ) (last : ℕ) → starts_with nat_eq mapping (front ++ last ∷ []) ≡ true → take (length front + 1) mapping ≡ front ++ last ∷ []
begun_take mapping front last h =
    ap (λ n. take n mapping) (sym (length_push front last)) ∙ sym (same_lists (front ++ last ∷ []) (take (length (front ++ last ∷ [])) mapping) h)
