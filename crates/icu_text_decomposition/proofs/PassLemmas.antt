-- Marks that are read class by class.
use Rattle.std.proofs.Common.{◌≡◌, ◌≢◌, ◌≤◌, ◌<◌, ◌==◌, ◌+◌, ◌-◌, min, ℕ, zero, suc, true, false, List, [], ◌∷◌, ◌++◌, Option, Some, None, refl, sym, ap, subst, ◌∙◌, arith, append-nil, append_assoc}
use Rattle.std.proofs.lemmas.Bool.{cond-true, cond-false}
use Rattle.std.proofs.lemmas.Bool.Decides.{nat_tests}
use Rattle.ucd_normal.specs.CanonicalCombiningClass.{canonical_combining_class as class_of}
use Rattle.unicode_normalization.specs.Order.{canonical_order}
use Rattle.icu_text_decomposition.specs.MarkClasses.{of_class, by_classes, AreMarks}
use Rattle.icu_text_decomposition.specs.inner.FrontMarks.{front_marks, past_marks}
use Rattle.icu_text_decomposition.specs.inner.MarksLeft.{lists_from, class_limit, IsPass, left_of_pass}
use Rattle.icu_text_decomposition.proofs.ClassOrderLemmas.{go_by_classes}
use Rattle.icu_text_decomposition.proofs.FrontMarkLemmas.{front-mark, past-mark, front_none, front_marks-are_marks, order_parts}

pub of_class-same : (k c : ℕ) (cs : List ℕ) → class_of c ≡ k → of_class k (c ∷ cs) ≡ c ∷ of_class k cs
of_class-same k c cs e = let same : class_of c == k ≡ true = grind (arith, nat_tests) in cond-true _ _ _ same

pub of_class-other : (k c : ℕ) (cs : List ℕ) → class_of c ≢ k → of_class k (c ∷ cs) ≡ of_class k cs
of_class-other k c cs ne = let other : class_of c == k ≡ false = grind (arith, nat_tests) in cond-false _ _ _ other

-- ---- a mark is passed

pub pass_mark : (text at rest : List ℕ) (m class : ℕ) (next later : Option ℕ) → at ≡ m ∷ rest → IsPass text at class next → 0 < class_of m
    → class < class_limit later → (class < class_of m → class_limit later ≤ class_of m) → class_limit later ≤ class_limit next → IsPass text rest class later
pass_mark text at rest m class next later e p mark above lower fewer =
    record {
      ends = sym (past-mark m rest mark) ∙ ap past_marks (sym e) ∙ p.ends;
      above = above;
      passed = λ k lt limit.
          let inside : k < class_limit next = omega arith in
          let other : class_of m ≢ k = λ same. absurd (omega arith) in
          p.passed k lt inside ∙ ap (λ l. of_class k (front_marks l)) e ∙ ap (of_class k) (front-mark m rest mark) ∙ of_class-other k m (front_marks rest) other;
    }

pub pass_same : (text at rest : List ℕ) (m class : ℕ) (next : Option ℕ) → at ≡ m ∷ rest → IsPass text at class next → 0 < class_of m → class_of m ≤ class → IsPass text rest class next
pass_same text at rest m class next e p mark low = pass_mark text at rest m class next next e p mark p.above (λ lt. absurd (omega arith)) (omega arith)

pub pass_lower : (text at rest : List ℕ) (m class : ℕ) (next later : Option ℕ) → at ≡ m ∷ rest → IsPass text at class next → 0 < class_of m → class < class_of m
    → class_limit later ≡ min (class_limit next) (class_of m) → IsPass text rest class later
pass_lower text at rest m class next later e p mark high least =
    let above = p.above in pass_mark text at rest m class next later e p mark (omega arith) (λ lt. omega arith) (omega arith)

-- what is left of the class after a mark
pub given_first : (at rest : List ℕ) (m class : ℕ) → at ≡ m ∷ rest → 0 < class_of m → class_of m ≡ class → of_class class (front_marks at) ≡ m ∷ of_class class (front_marks rest)
given_first at rest m class e mark same = ap (λ l. of_class class (front_marks l)) e ∙ ap (of_class class) (front-mark m rest mark) ∙ of_class-same class m (front_marks rest) same

pub given_other : (at rest : List ℕ) (m class : ℕ) → at ≡ m ∷ rest → 0 < class_of m → class_of m ≢ class → of_class class (front_marks at) ≡ of_class class (front_marks rest)
given_other at rest m class e mark other = ap (λ l. of_class class (front_marks l)) e ∙ ap (of_class class) (front-mark m rest mark) ∙ of_class-other class m (front_marks rest) other

-- ---- a pass ends

-- classes of which there are no marks
gap : (left : ℕ → List ℕ) (d j k : ℕ) → ((i : ℕ) → k ≤ i → i < k + d → left i ≡ []) → lists_from left (d + j) k ≡ lists_from left j (k + d)
unfolding lists_from
gap left zero j k none =
    let a : zero + j ≡ j = omega arith in
    let b : k ≡ k + zero = omega arith in
    ap (λ n. lists_from left n k) a ∙ ap (λ n. lists_from left j n) b
gap left (suc d) j k none =
    let a : suc d + j ≡ suc (d + j) = omega arith in
    let b : suc k + d ≡ k + suc d = omega arith in
    let first : left k ≡ [] = none k (omega arith) (omega arith) in
    ap (λ n. lists_from left n k) a
    ∙ ap (λ l. l ++ lists_from left (d + j) (suc k)) first
    ∙ gap left d j (suc k) (λ i low high. none i (omega arith) (omega arith))
    ∙ ap (λ n. lists_from left j n) b

-- from one class to another between which there are no marks
pub skip_classes : (left : ℕ → List ℕ) (k n : ℕ) → k ≤ n → n ≤ 256 → ((i : ℕ) → k ≤ i → i < n → left i ≡ []) → lists_from left (256 - k) k ≡ lists_from left (256 - n) n
skip_classes left k n le limit none =
    let a : 256 - k ≡ (n - k) + (256 - n) = omega arith in
    let b : k + (n - k) ≡ n = omega arith in
    ap (λ j. lists_from left j k) a ∙ gap left (n - k) (256 - n) k (λ i low high. none i low (omega arith)) ∙ ap (λ j. lists_from left (256 - n) j) b

none_between : (text at : List ℕ) (class k : ℕ) (next : Option ℕ) → IsPass text at class next → front_marks at ≡ [] → class < k → k < class_limit next → of_class k (front_marks text) ≡ []
none_between text at class k next p none low high = p.passed k low high ∙ ap (of_class k) none

-- the next class comes
pub next_class : (text at : List ℕ) (class n : ℕ) (next : Option ℕ) → IsPass text at class next → front_marks at ≡ [] → next ≡ Some n → n < 256
    → left_of_pass text at class ≡ left_of_pass text text n
unfolding left_of_pass lists_from
next_class text at class n next p none is small =
    let left : ℕ → List ℕ = λ k. of_class k (front_marks text) in
    let limit = ap class_limit is in
    let above = p.above in
    let over : class < n = subst (λ k. class < k) limit above in
    let a : 255 - class ≡ 256 - suc class = omega arith in
    let b : 256 - n ≡ suc (255 - n) = omega arith in
    ap (λ l. of_class class l ++ (lists_from left (255 - class) (suc class) ++ canonical_order (past_marks text))) none
    ∙ ap (λ l. l ++ canonical_order (past_marks text))
    (ap (λ j. lists_from left j (suc class)) a
    ∙ skip_classes left (suc class) n over (omega arith)
    (λ i low high. none_between text at class i next p none low (subst (λ k. i < k) (sym limit) high))
    ∙ ap (λ j. lists_from left j n) b)
    ∙ append_assoc (of_class n (front_marks text)) (lists_from left (255 - n) (suc n)) (canonical_order (past_marks text))

pub pass_anew : (text at : List ℕ) (class n : ℕ) (next : Option ℕ) → IsPass text at class next → n < 256 → IsPass text text n None
pass_anew text at class n next p small = record { ends = refl; above = small; passed = λ k low high. refl }

-- no class comes
pub no_class : (text at : List ℕ) (class : ℕ) (next : Option ℕ) → IsPass text at class next → front_marks at ≡ [] → next ≡ None → left_of_pass text at class ≡ canonical_order at
unfolding left_of_pass lists_from
no_class text at class next p none is =
    let left : ℕ → List ℕ = λ k. of_class k (front_marks text) in
    let limit = ap class_limit is in
    let above = p.above in
    let over : class < 256 = subst (λ k. class < k) limit above in
    let a : 255 - class ≡ 256 - suc class = omega arith in
    ap (λ l. of_class class l ++ (lists_from left (255 - class) (suc class) ++ canonical_order (past_marks text))) none
    ∙ ap (λ l. l ++ canonical_order (past_marks text))
    (ap (λ j. lists_from left j (suc class)) a
    ∙ skip_classes left (suc class) 256 over (omega arith)
    (λ i low high. none_between text at class i next p none low (subst (λ k. i < k) (sym limit) high)))
    ∙ ap canonical_order (sym p.ends ∙ front_none at none)

pub run_past : (text at : List ℕ) (class : ℕ) (next : Option ℕ) → IsPass text at class next → front_marks at ≡ [] → past_marks text ≡ at
run_past text at class next p none = sym p.ends ∙ front_none at none

-- ---- a run begins

bridge : (j k : ℕ) (ms : List ℕ) → by_classes k ms ++ lists_from (λ i. of_class i ms) j k ≡ by_classes (k + j) ms
unfolding lists_from
bridge zero k ms = append-nil _ ∙ ap (λ n. by_classes n ms) (let e : k ≡ k + zero = omega arith in e)
bridge (suc j) k ms =
    let e : suc k + j ≡ k + suc j = omega arith in
    sym (append_assoc (by_classes k ms) (of_class k ms) (lists_from (λ i. of_class i ms) j (suc k))) ∙ bridge j (suc k) ms ∙ ap (λ n. by_classes n ms) e

marks_left : (ms : List ℕ) → AreMarks 256 ms → canonical_order ms ≡ lists_from (λ i. of_class i ms) 256 0
marks_left ms marks = go_by_classes 256 ms marks ∙ sym (bridge 256 0 ms)

pub run_begins : (text : List ℕ) → left_of_pass text text 0 ≡ canonical_order text
unfolding left_of_pass lists_from
run_begins text =
    let left : ℕ → List ℕ = λ k. of_class k (front_marks text) in
    sym (append_assoc (of_class 0 (front_marks text)) (lists_from left 255 1) (canonical_order (past_marks text)))
    ∙ ap (λ l. l ++ canonical_order (past_marks text)) (sym (marks_left (front_marks text) (front_marks-are_marks text)))
    ∙ sym (order_parts text)

-- ---- marks are given

pub given_of_class : (given text at rest : List ℕ) (class : ℕ) → of_class class (front_marks at) ≡ given ++ of_class class (front_marks rest) → left_of_pass text at class ≡ given ++ left_of_pass text rest class
unfolding left_of_pass
given_of_class given text at rest class e =
    let above = lists_from (λ k. of_class k (front_marks text)) (255 - class) (suc class) ++ canonical_order (past_marks text) in
    ap (λ l. l ++ above) e ∙ append_assoc given (of_class class (front_marks rest)) above
