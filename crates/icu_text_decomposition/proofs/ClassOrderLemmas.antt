-- Marks in canonical order, class by class.
use Rattle.std.proofs.Common.{◌≡◌, ◌≤◌, ◌<◌, ◌==◌, ℕ, zero, suc, true, false, List, [], ◌∷◌, ◌++◌, refl, sym, ap, subst, ◌∙◌, arith, inl, inr, append-nil}
use Rattle.std.proofs.lemmas.Bool.{cases_Bool, cond-true, cond-false}
use Rattle.std.proofs.lemmas.Bool.Decides.{nat_tests}
use Rattle.ucd_normal.specs.CanonicalCombiningClass.{canonical_combining_class as class_of}
use Rattle.unicode_normalization.specs.Order.{is_reorderable, sink}
use Rattle.unicode_normalization.proofs.OrderLemmas.{is_reorderable_from, not_reorderable_rising, sink-past, sink-stays, sink-nil, canonical_order-cons, canonical_order-nil}
use Rattle.icu_text_decomposition.specs.MarkClasses.{of_class, by_classes, AreMarks, MarksGoByClasses}

-- c goes past each
abbrev PassedBy : ℕ → List ℕ → Type 0
PassedBy c [] = Unit {0}
PassedBy c (x ∷ xs) = (is_reorderable c x ≡ true) × PassedBy c xs

-- c stays before each
abbrev StaysBefore : ℕ → List ℕ → Type 0
StaysBefore c [] = Unit {0}
StaysBefore c (x ∷ xs) = (is_reorderable c x ≡ false) × StaysBefore c xs

passed-append : (c : ℕ) (xs ys : List ℕ) → PassedBy c xs → PassedBy c ys → PassedBy c (xs ++ ys)
passed-append c [] ys p q = q
passed-append c (x ∷ xs) ys p q = (p.0, passed-append c xs ys p.1 q)

stays : (c : ℕ) (ys : List ℕ) → StaysBefore c ys → sink c ys ≡ c ∷ ys
stays c [] h = sink-nil c
stays c (y ∷ ys) h = sink-stays c y ys h.0

sink_front : (c : ℕ) (xs ys : List ℕ) → StaysBefore c ys → sink c (xs ++ ys) ≡ sink c xs ++ ys
sink_front c [] ys h = stays c ys h ∙ ap (λ l. l ++ ys) (sym (sink-nil c))
sink_front c (x ∷ xs) ys h =
    elim (cases_Bool (is_reorderable c x)) [
      | inl past ↦ sink-past c x (xs ++ ys) past ∙ ap (λ l. x ∷ l) (sink_front c xs ys h) ∙ ap (λ l. l ++ ys) (sym (sink-past c x xs past))
      | inr before ↦ sink-stays c x (xs ++ ys) before ∙ ap (λ l. l ++ ys) (sym (sink-stays c x xs before))
    ]

sink_all : (c : ℕ) (xs ys : List ℕ) → PassedBy c xs → sink c (xs ++ ys) ≡ xs ++ sink c ys
sink_all c [] ys h = refl
sink_all c (x ∷ xs) ys h = sink-past c x (xs ++ ys) h.0 ∙ ap (λ l. x ∷ l) (sink_all c xs ys h.1)

class_stays : (c k : ℕ) (cs : List ℕ) → class_of c ≤ k → StaysBefore c (of_class k cs)
class_stays c k [] le = tt
class_stays c k (x ∷ xs) le =
    elim (cases_Bool (class_of x == k)) [
      | inl with ↦
          let rises : class_of c ≤ class_of x = grind (arith, nat_tests) in
          subst (StaysBefore c) (sym (cond-true _ _ _ with)) (not_reorderable_rising c x rises, class_stays c k xs le)
      | inr without ↦ subst (StaysBefore c) (sym (cond-false _ _ _ without)) (class_stays c k xs le)
    ]

class_passed : (c k n : ℕ) (cs : List ℕ) → k < class_of c → AreMarks n cs → PassedBy c (of_class k cs)
class_passed c k n [] lt marks = tt
class_passed c k n (x ∷ xs) lt marks =
    elim (cases_Bool (class_of x == k)) [
      | inl with ↦
          let falls : class_of x < class_of c = grind (arith, nat_tests) in
          subst (PassedBy c) (sym (cond-true _ _ _ with)) (is_reorderable_from c x marks.0 falls, class_passed c k n xs lt marks.2)
      | inr without ↦ subst (PassedBy c) (sym (cond-false _ _ _ without)) (class_passed c k n xs lt marks.2)
    ]

classes_passed : (c j n : ℕ) (cs : List ℕ) → j ≤ class_of c → AreMarks n cs → PassedBy c (by_classes j cs)
classes_passed c zero n cs le marks = tt
classes_passed c (suc j) n cs le marks = passed-append c (by_classes j cs) (of_class j cs) (classes_passed c j n cs (omega arith) marks) (class_passed c j n cs (omega arith) marks)

not_below : (c j : ℕ) (cs : List ℕ) → j ≤ class_of c → by_classes j (c ∷ cs) ≡ by_classes j cs
not_below c zero cs le = refl
not_below c (suc j) cs le =
    let other : class_of c == j ≡ false = grind (arith, nat_tests) in
    ap (λ l. l ++ of_class j (c ∷ cs)) (not_below c j cs (omega arith)) ∙ ap (λ l. by_classes j cs ++ l) (cond-false _ _ _ other)

one_more : (n m c : ℕ) (cs : List ℕ) → class_of c < n → AreMarks m cs → by_classes n (c ∷ cs) ≡ sink c (by_classes n cs)
one_more zero m c cs lt marks = absurd (omega arith)
one_more (suc j) m c cs lt marks =
    elim (cases_Bool (class_of c == j)) [
      | inl same ↦
          let le : j ≤ class_of c = grind (arith, nat_tests) in
          let ge : class_of c ≤ j = grind (arith, nat_tests) in
          ap (λ l. l ++ of_class j (c ∷ cs)) (not_below c j cs le) ∙ ap (λ l. by_classes j cs ++ l) (cond-true _ _ _ same)
          ∙ ap (λ l. by_classes j cs ++ l) (sym (stays c (of_class j cs) (class_stays c j cs ge)))
          ∙ sym (sink_all c (by_classes j cs) (of_class j cs) (classes_passed c j m cs le marks))
      | inr other ↦
          let less : class_of c < j = grind (arith, nat_tests) in
          ap (λ l. by_classes j (c ∷ cs) ++ l) (cond-false _ _ _ other) ∙ ap (λ l. l ++ of_class j cs) (one_more j m c cs less marks)
          ∙ sym (sink_front c (by_classes j cs) (of_class j cs) (class_stays c j cs (omega arith)))
    ]

no_marks : (n : ℕ) → by_classes n [] ≡ []
no_marks zero = refl
no_marks (suc n) = append-nil (by_classes n []) ∙ no_marks n

pub go_by_classes : MarksGoByClasses
go_by_classes n [] marks = canonical_order-nil ∙ sym (no_marks n)
go_by_classes n (c ∷ cs) marks = canonical_order-cons c cs ∙ ap (sink c) (go_by_classes n cs marks.2) ∙ sym (one_more n n c cs marks.1 marks.2)
