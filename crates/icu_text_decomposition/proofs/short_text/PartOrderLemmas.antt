-- Characters are put in canonical order: each run of marks class by class.
use Rattle.std.proofs.Common.{◌≡◌, ◌≢◌, ◌⊎◌, inl, inr, ℕ, zero, suc, ◌<◌, ◌≤◌, ◌+◌, ◌-◌, min, true, false, List, [], ◌∷◌, ◌++◌, Option, None, Some, length, drop, take, get_or, refl, sym, ap, subst, ◌∙◌, arith, append-nil, append_assoc}
use Rattle.std.proofs.lemmas.List.{drop_more, drop_all, drop-drop, take_more}
use Rattle.std.proofs.lemmas.Bool.{cases_eq}
use Rattle.ucd_normal.specs.CanonicalCombiningClass.{canonical_combining_class as class_of}
use Rattle.unicode_normalization.specs.Order.{is_reorderable, is_ordered, canonical_order}
use Rattle.unicode_normalization.proofs.OrderLemmas.{is_ordered-cons, is_ordered-nil, is_ordered-one, canonical_order-nil}
use Rattle.icu_text_decomposition.specs.inner.FrontMarks.{front_marks}
use Rattle.icu_text_decomposition.specs.inner.MarksLeft.{class_limit, IsPass, left_of_pass}
use Rattle.icu_text_decomposition.proofs.FrontMarkLemmas.{front-nil, front-starter, front-mark, order-starter}
use Rattle.icu_text_decomposition.proofs.PassLemmas.{pass_same, pass_lower, given_first, given_other, given_of_class, run_begins, next_class, no_class}

at_most : (a b : ℕ) → (a ≤ b) ⊎ (b < a)
at_most a b = grind arith

at_index : (cs : List ℕ) (i d m : ℕ) → i < length cs → m ≡ get_or cs i d → drop i cs ≡ m ∷ drop (i + 1) cs
at_index cs i d m lt is = drop_more cs i d lt ∙ ap (λ c. c ∷ drop (i + 1) cs) (sym is)

-- ---- a pass over a run

-- it begins
pub pass_begins : (cs : List ℕ) (class : ℕ) → class < 256 → IsPass cs (drop 0 cs) class None
pass_begins cs class small = record { ends = refl; above = small; passed = λ k low high. refl }

-- it goes on past a mark
pub pass_goes_on : (cs : List ℕ) (i d m class : ℕ) (next later : Option ℕ) → i < length cs → m ≡ get_or cs i d → IsPass cs (drop i cs) class next → 0 < class_of m
    → (class_of m ≤ class → later ≡ next) → (class < class_of m → class_limit later ≡ min (class_limit next) (class_of m)) → IsPass cs (drop (i + 1) cs) class later
pass_goes_on cs i d m class next later lt is pass mark low high =
    let at = at_index cs i d m lt is in
    elim (at_most (class_of m) class) [
      | inl le ↦ subst (λ n. IsPass cs (drop (i + 1) cs) class n) (sym (low le)) (pass_same cs (drop i cs) (drop (i + 1) cs) m class next at pass mark le)
      | inr gt ↦ pass_lower cs (drop i cs) (drop (i + 1) cs) m class next later at pass mark gt (high gt)
    ]

-- it appends the marks of the class
pub pass_appends : (cs old all new : List ℕ) (i d m class : ℕ) → i < length cs → m ≡ get_or cs i d → 0 < class_of m
    → (class_of m ≡ class → new ≡ old ++ m ∷ []) → (class_of m ≢ class → new ≡ old)
    → old ++ left_of_pass cs (drop i cs) class ≡ all → new ++ left_of_pass cs (drop (i + 1) cs) class ≡ all
pass_appends cs old all new i d m class lt is mark same other so_far =
    let at = at_index cs i d m lt is in
    let after = drop (i + 1) cs in
    let left = left_of_pass cs after class in
    elim (cases_eq (class_of m) class) [
      | inl e ↦
          ap (λ l. l ++ left) (same e) ∙ append_assoc old (m ∷ []) left
          ∙ ap (λ l. old ++ l) (sym (given_of_class (m ∷ []) cs (drop i cs) after class (given_first (drop i cs) after m class at mark e)))
          ∙ so_far
      | inr ne ↦
          ap (λ l. l ++ left) (other ne)
          ∙ ap (λ l. old ++ l) (sym (given_of_class [] cs (drop i cs) after class (given_other (drop i cs) after m class at mark ne)))
          ∙ so_far
    ]

-- it ends at a starter, or where no character is left
pub ends_at_starter : (cs : List ℕ) (i d m : ℕ) → i < length cs → m ≡ get_or cs i d → class_of m ≤ 0 → front_marks (drop i cs) ≡ []
ends_at_starter cs i d m lt is start = ap front_marks (at_index cs i d m lt is) ∙ front-starter m (drop (i + 1) cs) start

pub ends_at_end : (cs : List ℕ) (i : ℕ) → length cs ≤ i → front_marks (drop i cs) ≡ []
ends_at_end cs i le = ap front_marks (drop_all i cs le) ∙ front-nil

-- ---- the classes of a run

pub run_so_far : (old cs : List ℕ) → old ++ left_of_pass cs cs 0 ≡ old ++ canonical_order cs
run_so_far old cs = ap (λ l. old ++ l) (run_begins cs)

pub class_follows : (cs at old new all : List ℕ) (class n : ℕ) (next : Option ℕ) → IsPass cs at class next → front_marks at ≡ [] → next ≡ Some n → n < 256
    → new ++ left_of_pass cs at class ≡ old ++ left_of_pass cs cs class → old ++ left_of_pass cs cs class ≡ all → new ++ left_of_pass cs cs n ≡ all
class_follows cs at old new all class n next pass end is small appended so_far =
    ap (λ l. new ++ l) (sym (next_class cs at class n next pass end is small)) ∙ appended ∙ so_far

pub class_rises : (cs at : List ℕ) (class n : ℕ) (next : Option ℕ) → IsPass cs at class next → next ≡ Some n → class < n
class_rises cs at class n next pass is = subst (λ k. class < k) (ap class_limit is) pass.above

pub classes_end : (cs at old new all : List ℕ) (class : ℕ) (next : Option ℕ) → IsPass cs at class next → front_marks at ≡ [] → next ≡ None
    → new ++ left_of_pass cs at class ≡ old ++ left_of_pass cs cs class → old ++ left_of_pass cs cs class ≡ all → new ++ canonical_order at ≡ all
classes_end cs at old new all class next pass end is appended so_far =
    ap (λ l. new ++ l) (sym (no_class cs at class next pass end is)) ∙ appended ∙ so_far

-- ---- starters and runs, one after another

pub starter_appended : (cs old new : List ℕ) (d c : ℕ) → 0 < length cs → c ≡ get_or cs 0 d → class_of c ≤ 0 → new ≡ old ++ c ∷ [] → new ++ canonical_order (drop 1 cs) ≡ old ++ canonical_order cs
starter_appended cs old new d c lt is start appended =
    let at = at_index cs 0 d c lt is in
    ap (λ l. l ++ canonical_order (drop 1 cs)) appended ∙ append_assoc old (c ∷ []) (canonical_order (drop 1 cs))
    ∙ ap (λ l. old ++ l) (sym (order-starter c (drop 1 cs) start)) ∙ ap (λ l. old ++ canonical_order l) (sym at)

-- a run that begins with a mark has some
pub run_has_some : (cs : List ℕ) (d c n : ℕ) → 0 < length cs → c ≡ get_or cs 0 d → 0 < class_of c → front_marks (drop n cs) ≡ [] → 0 < n
run_has_some cs d c (suc n) lt is mark end = omega arith
run_has_some cs d c zero lt is mark end =
    let some : c ∷ front_marks (drop 1 cs) ≡ [] = sym (front-mark c (drop 1 cs) mark) ∙ ap front_marks (sym (at_index cs 0 d c lt is)) ∙ end in
    cc

pub part_follows : (cs part old new all : List ℕ) (i n : ℕ) → part ≡ drop i cs → new ++ canonical_order (drop n part) ≡ old ++ canonical_order part
    → old ++ canonical_order (drop i cs) ≡ all → new ++ canonical_order (drop (i + n) cs) ≡ all
part_follows cs part old new all i n is appended so_far =
    ap (λ l. new ++ canonical_order l) (sym (ap (drop n) is ∙ drop-drop n i cs)) ∙ appended ∙ ap (λ l. old ++ canonical_order l) is ∙ so_far

pub parts_end : (cs new all : List ℕ) (i : ℕ) → length cs ≤ i → new ++ canonical_order (drop i cs) ≡ all → new ≡ all
parts_end cs new all i le so_far =
    sym (append-nil new) ∙ ap (λ l. new ++ l) (sym (ap canonical_order (drop_all i cs le) ∙ canonical_order-nil)) ∙ so_far

-- ---- characters that stand in order

pub last_is_ordered : (cs : List ℕ) → is_ordered (drop (length cs - 1) cs) ≡ true
last_is_ordered [] = is_ordered-nil
last_is_ordered (a ∷ []) = is_ordered-one a
last_is_ordered (a ∷ b ∷ cs) =
    let e : length (a ∷ b ∷ cs) - 1 ≡ suc (length (b ∷ cs) - 1) = omega arith in
    ap (λ n. is_ordered (drop n (a ∷ b ∷ cs))) e ∙ last_is_ordered (b ∷ cs)

pub one_more_ordered : (cs : List ℕ) (i j d e a b : ℕ) → i + 1 ≡ j → j < length cs → a ≡ get_or cs i d → b ≡ get_or cs j e → is_reorderable a b ≡ false → is_ordered (drop j cs) ≡ true → is_ordered (drop i cs) ≡ true
one_more_ordered cs i j d e a b next lt is_a is_b stays ordered =
    let first = at_index cs i d a (omega arith) is_a in
    let second = at_index cs j e b lt is_b in
    ap is_ordered (first ∙ ap (λ n. a ∷ drop n cs) next ∙ ap (λ l. a ∷ l) second)
    ∙ is_ordered-cons a b (drop (j + 1) cs) stays (ap is_ordered (sym second) ∙ ordered)

-- ---- one character more

pub one_more_appended : (init old new xs : List ℕ) (i d : ℕ) → i < length xs → old ≡ init ++ take i xs → new ≡ old ++ get_or xs i d ∷ [] → new ≡ init ++ take (i + 1) xs
one_more_appended init old new xs i d lt so_far appended =
    appended ∙ ap (λ l. l ++ get_or xs i d ∷ []) so_far ∙ append_assoc init (take i xs) (get_or xs i d ∷ []) ∙ ap (λ l. init ++ l) (sym (take_more xs i d lt))
