-- The marks that a text begins with.
use Rattle.std.proofs.Common.{◌≡◌, ◌≢◌, ◌≤◌, ◌<◌, length, length-append, ◌⊎◌, ℕ, true, false, List, [], ◌∷◌, ◌++◌, refl, sym, ap, subst, ◌∙◌, arith, inl, inr, append-nil}
use Rattle.std.proofs.lemmas.Bool.{cond-true, cond-false}
use Rattle.std.proofs.lemmas.Bool.Decides.{nat_tests}
use Rattle.ucd_normal.specs.CanonicalCombiningClass.{canonical_combining_class as class_of}
use Rattle.ucd_normal.proofs.BoundLemmas.{canonical_combining_class-le}
use Rattle.unicode_normalization.specs.Order.{is_starter, is_ordered, canonical_order}
use Rattle.unicode_normalization.proofs.OrderLemmas.{canonical_order-at_starter, canonical_order-nil, canonical_order-ordered, length-canonical_order, is_ordered-tail, is_ordered-one, is_ordered-cons, not_reorderable_rising}
use Rattle.icu_text_decomposition.specs.MarkClasses.{AreMarks}
use Rattle.unicode_normalization.specs.Forms.{nfd, normalize, decomposed}
use Rattle.icu_text_decomposition.specs.inner.CharParts.{parts_of}
use Rattle.icu_text_decomposition.specs.inner.FrontMarks.{front_marks, past_marks}

pub no_starter : (c : ℕ) → 0 < class_of c → is_starter c ≡ false
no_starter c lt = grind (arith, nat_tests)

pub front-nil : front_marks [] ≡ []
unfolding front_marks
front-nil = refl

pub past-nil : past_marks [] ≡ []
unfolding past_marks
past-nil = refl

pub front-mark : (c : ℕ) (cs : List ℕ) → 0 < class_of c → front_marks (c ∷ cs) ≡ c ∷ front_marks cs
unfolding front_marks
front-mark c cs lt = cond-false _ _ _ (no_starter c lt)

pub past-mark : (c : ℕ) (cs : List ℕ) → 0 < class_of c → past_marks (c ∷ cs) ≡ past_marks cs
unfolding past_marks
past-mark c cs lt = cond-false _ _ _ (no_starter c lt)

pub starter : (c : ℕ) → class_of c ≤ 0 → is_starter c ≡ true
starter c le = grind (arith, nat_tests)

pub front-starter : (c : ℕ) (cs : List ℕ) → class_of c ≤ 0 → front_marks (c ∷ cs) ≡ []
unfolding front_marks
front-starter c cs le = cond-true _ _ _ (starter c le)

pub past-starter : (c : ℕ) (cs : List ℕ) → class_of c ≤ 0 → past_marks (c ∷ cs) ≡ c ∷ cs
unfolding past_marks
past-starter c cs le = cond-true _ _ _ (starter c le)

pub cases_class : (c : ℕ) → (class_of c ≤ 0) ⊎ (0 < class_of c)
cases_class c = grind arith

-- where a text begins with no mark, all of it stands past its marks
pub front_none : (cs : List ℕ) → front_marks cs ≡ [] → past_marks cs ≡ cs
front_none [] none = past-nil
front_none (c ∷ cs) none =
    elim (cases_class c) [
      | inl start ↦ past-starter c cs start
      | inr mark ↦ let some = sym (front-mark c cs mark) ∙ none in cc
    ]

pub front_marks-are_marks : (cs : List ℕ) → AreMarks 256 (front_marks cs)
front_marks-are_marks [] = subst (AreMarks 256) (sym front-nil) tt
front_marks-are_marks (c ∷ cs) =
    elim (cases_class c) [
      | inl start ↦ subst (AreMarks 256) (sym (front-starter c cs start)) tt
      | inr mark ↦
          let less = canonical_combining_class-le c in
          subst (AreMarks 256) (sym (front-mark c cs mark)) (mark, omega arith, front_marks-are_marks cs)
    ]

pub front-past : (cs : List ℕ) → front_marks cs ++ past_marks cs ≡ cs
front-past [] = ap (λ l. l ++ past_marks []) front-nil ∙ past-nil
front-past (c ∷ cs) =
    elim (cases_class c) [
      | inl start ↦ ap (λ l. l ++ past_marks (c ∷ cs)) (front-starter c cs start) ∙ past-starter c cs start
      | inr mark ↦ ap (λ l. l ++ past_marks (c ∷ cs)) (front-mark c cs mark) ∙ ap (λ l. c ∷ (front_marks cs ++ l)) (past-mark c cs mark) ∙ ap (λ l. c ∷ l) (front-past cs)
    ]

-- what stands past the marks is nothing, or begins with a starter
joined : (ms cs : List ℕ) → canonical_order (ms ++ past_marks cs) ≡ canonical_order ms ++ canonical_order (past_marks cs)
joined ms [] =
    let none = past-nil in
    ap (λ l. canonical_order (ms ++ l)) none ∙ ap canonical_order (append-nil ms) ∙ sym (append-nil _)
    ∙ ap (λ l. canonical_order ms ++ l) (sym canonical_order-nil) ∙ ap (λ l. canonical_order ms ++ canonical_order l) (sym none)
joined ms (c ∷ cs) =
    elim (cases_class c) [
      | inl start ↦
          let all = past-starter c cs start in
          ap (λ l. canonical_order (ms ++ l)) all ∙ canonical_order-at_starter ms c cs start
          ∙ ap (λ l. canonical_order ms ++ l) (sym (canonical_order-at_starter [] c cs start ∙ ap (λ l. l ++ c ∷ canonical_order cs) canonical_order-nil))
          ∙ ap (λ l. canonical_order ms ++ canonical_order l) (sym all)
      | inr mark ↦
          ap (λ l. canonical_order (ms ++ l)) (past-mark c cs mark) ∙ joined ms cs ∙ ap (λ l. canonical_order ms ++ canonical_order l) (sym (past-mark c cs mark))
    ]

-- the marks that a text begins with are put in order by themselves
pub order_parts : (cs : List ℕ) → canonical_order cs ≡ canonical_order (front_marks cs) ++ canonical_order (past_marks cs)
order_parts cs = ap canonical_order (sym (front-past cs)) ∙ joined (front_marks cs) cs

-- a starter stays first
pub order-starter : (c : ℕ) (cs : List ℕ) → class_of c ≤ 0 → canonical_order (c ∷ cs) ≡ c ∷ canonical_order cs
order-starter c cs start = canonical_order-at_starter [] c cs start ∙ ap (λ l. l ++ c ∷ canonical_order cs) canonical_order-nil

-- and so does a mark where the marks are in order
pub order-ordered : (c : ℕ) (cs : List ℕ) → 0 < class_of c → is_ordered (front_marks (c ∷ cs)) ≡ true → canonical_order (c ∷ cs) ≡ c ∷ canonical_order cs
order-ordered c cs mark ordered =
    let whole : is_ordered (c ∷ front_marks cs) ≡ true = ap is_ordered (sym (front-mark c cs mark)) ∙ ordered in
    let rest = is_ordered-tail c (front_marks cs) whole in
    order_parts (c ∷ cs)
    ∙ ap (λ l. canonical_order l ++ canonical_order (past_marks (c ∷ cs))) (front-mark c cs mark)
    ∙ ap (λ l. l ++ canonical_order (past_marks (c ∷ cs))) (canonical_order-ordered (c ∷ front_marks cs) whole)
    ∙ ap (λ l. c ∷ (front_marks cs ++ canonical_order l)) (past-mark c cs mark)
    ∙ ap (λ l. c ∷ (l ++ canonical_order (past_marks cs))) (sym (canonical_order-ordered (front_marks cs) rest))
    ∙ ap (λ l. c ∷ l) (sym (order_parts cs))

pub ordered_rest : (c : ℕ) (cs : List ℕ) → 0 < class_of c → is_ordered (front_marks (c ∷ cs)) ≡ true → is_ordered (front_marks cs) ≡ true
ordered_rest c cs mark ordered = is_ordered-tail c (front_marks cs) (ap is_ordered (sym (front-mark c cs mark)) ∙ ordered)

-- a mark behind which the run ends
pub ordered_last : (last : ℕ) (rest : List ℕ) → front_marks rest ≡ [] → is_ordered (last ∷ front_marks rest) ≡ true
ordered_last last rest none = ap (λ l. is_ordered (last ∷ l)) none ∙ is_ordered-one last

-- a mark behind which a mark of no lower class stands
pub ordered_more : (last c class next : ℕ) (rest after : List ℕ) → rest ≡ c ∷ after → next ≡ class_of c → next ≢ 0 → class ≤ next → class_of last ≡ class
    → is_ordered (c ∷ front_marks after) ≡ true → is_ordered (last ∷ front_marks rest) ≡ true
ordered_more last c class next rest after e is some rises same ordered =
    let mark : 0 < class_of c = omega arith in
    let stays = not_reorderable_rising last c (omega arith) in
    ap (λ l. is_ordered (last ∷ front_marks l)) e ∙ ap (λ l. is_ordered (last ∷ l)) (front-mark c after mark)
    ∙ is_ordered-cons last c (front_marks after) stays ordered

length-past : (cs : List ℕ) → length (past_marks cs) ≤ length cs
length-past cs = omega (arith, ap length (front-past cs), length-append (front_marks cs) (past_marks cs))

-- a mark isn't past itself
pub not_past : (c : ℕ) (cs : List ℕ) → 0 < class_of c → canonical_order (c ∷ cs) ≡ canonical_order (past_marks (c ∷ cs)) → ⊥
not_past c cs mark e =
    let lengths = sym (length-canonical_order (c ∷ cs)) ∙ ap length (e ∙ ap canonical_order (past-mark c cs mark)) ∙ length-canonical_order (past_marks cs) in
    absurd (omega (arith, lengths, length-past cs))

-- so a text that begins with a mark isn't what stands past its marks
pub never_past : (text at : List ℕ) (c : ℕ) (cs : List ℕ) → text ≡ c ∷ cs → 0 < class_of c → canonical_order text ≡ canonical_order at → at ≡ past_marks text → ⊥
never_past text at c cs e mark same past =
    not_past c cs mark (ap canonical_order (sym e) ∙ same ∙ ap canonical_order past ∙ ap (λ l. canonical_order (past_marks l)) e)

-- ---- whole texts

pub nfd_is : (cs : List ℕ) → canonical_order (parts_of cs) ≡ nfd cs
unfolding normalize decomposed
nfd_is cs = refl
