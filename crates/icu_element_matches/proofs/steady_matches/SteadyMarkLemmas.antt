-- Marks that join a match one by one, while a text is looked at.
use Rattle.std.proofs.Common.{◌≡◌, ℕ, zero, suc, ◌+◌, ◌-◌, ◌<◌, ◌≤◌, true, false, List, [], ◌∷◌, ◌++◌, length, take, drop, Some, None, refl, sym, ap, ap₂, subst, ◌∙◌, arith, inl, inr, leb-true, length-append, length-drop}
use Rattle.std.specs.Prelude.{slice_get, nat_le, max}
use Rattle.std.proofs.lemmas.Bool.{cases_Bool, cond-true, cond-false, eq-eqb, ne_eqb, lt-leb, le-leb}
use Rattle.std.proofs.lemmas.Bool.Decides.{nat_tests}
use Rattle.std.proofs.lemmas.List.{take-append-drop, take_all, length-take-le}
use Rattle.std.proofs.lemmas.Option.{slice_get_within}
use Rattle.ucd_normal.specs.CanonicalCombiningClass.{canonical_combining_class as class_of}
use Rattle.unicode_normalization.specs.Order.{is_starter}
use Rattle.icu_table_data.specs.Data.{Mapping, mapping_entry}
use Rattle.icu_text_decomposition.specs.MarkClasses.{AreMarks}
use Rattle.icu_text_decomposition.specs.UnreadTexts.{IsUnblocked, without_last, marks_up_to}
use Rattle.icu_element_matches.specs.Matches.{Match, with_marks, is_blocked}
use Rattle.icu_element_matches.specs.inner.Joining.{greatest_class}
use Rattle.icu_element_matches.proofs.MarkLemmas.{one_more, blocked_by_greatest, greatest_more, at_starter, at_blocked, at_joining, at_other, at_end, removed_after, removed_before, nothing_there}

-- Of a text so many characters were passed over, which are marks of classes up to the greatest, and going on from there
-- comes to this match.
pub record IsJoining (mappings : List Mapping) (entry : ℕ) (suffix : List ℕ) (greatest passed : ℕ) (text : List ℕ) (all : Match) : Type 0 where
  pub inside : passed ≤ length text
  pub is_greatest : greatest ≡ greatest_class (take passed text)
  pub marks : AreMarks (greatest + 1) (take passed text)
  pub whole : with_marks mappings entry suffix (take passed text) (drop passed text) ≡ all

-- the same numbers and the same text in other words
pub in_other_words : (mappings : List Mapping) (entry : ℕ) (suffix : List ℕ) (greatest passed : ℕ) (text : List ℕ) (all : Match) (other more : ℕ) (new : List ℕ) → IsJoining mappings entry suffix greatest passed text all → other ≡ greatest → more ≡ passed → new ≡ text → IsJoining mappings entry suffix other more new all
in_other_words mappings entry suffix greatest passed text all other more new is e f h =
    subst (λ g. IsJoining mappings entry suffix g more new all) (sym e)
    (subst (λ p. IsJoining mappings entry suffix greatest p new all) (sym f) (subst (λ (t : List ℕ). IsJoining mappings entry suffix greatest passed t all) (sym h) is))

-- ---- marks

AreMarks-push : (k : ℕ) (ms : List ℕ) (m : ℕ) → AreMarks k ms → 0 < class_of m → class_of m < k → AreMarks k (ms ++ m ∷ [])
AreMarks-push k [] m all mark below = (mark, below, tt)
AreMarks-push k (x ∷ xs) m all mark below = (all.0, all.1, AreMarks-push k xs m all.2 mark below)

AreMarks-weaker : (k n : ℕ) (ms : List ℕ) → k ≤ n → AreMarks k ms → AreMarks n ms
AreMarks-weaker k n [] le all = tt
AreMarks-weaker k n (x ∷ xs) le all = (all.0, omega (arith, all.1), AreMarks-weaker k n xs le all.2)

-- ---- where it begins

pub begins : (mappings : List Mapping) (entry : ℕ) (suffix : List ℕ) (passed : ℕ) (old new : List ℕ) → passed ≡ 0 → new ≡ old → IsJoining mappings entry suffix 0 passed new (with_marks mappings entry suffix [] old)
unfolding greatest_class
begins mappings entry suffix passed old new none same =
    let at : ℕ → List ℕ → Type 0 = λ n t. IsJoining mappings entry suffix 0 n t (with_marks mappings entry suffix [] old) in
    let here : at 0 old = record { inside = omega arith; is_greatest = refl; marks = tt; whole = refl } in
    subst (λ n. at n new) (sym none) (subst (λ (t : List ℕ). at 0 t) (sym same) here)

-- ---- where it ends

ended : ℕ → List ℕ → List ℕ → Match
ended entry suffix rest = record { entry = entry; suffix = suffix; rest = rest }

module _ (mappings : List Mapping) (entry : ℕ) (suffix : List ℕ) (greatest passed : ℕ) (text : List ℕ) (all : Match) (is : IsJoining mappings entry suffix greatest passed text all) where
  pub ends_text : slice_get text passed ≡ None → record { entry = entry; suffix = suffix; rest = text } ≡ all
  unfolding ended
  ends_text none =
      let past : length text ≤ passed = nothing_there text passed none in
      ap (ended entry suffix) (sym (take_all passed text past))
      ∙ (sym (at_end mappings entry suffix (take passed text) text passed past) ∙ is.whole)

  module _ (m : ℕ) (at : slice_get text passed ≡ Some m) where
    within : passed < length text
    within = slice_get_within text passed m at

    pub ends_at_starter : class_of m ≡ 0 → record { entry = entry; suffix = suffix; rest = text } ≡ all
    unfolding ended
    ends_at_starter starter =
        ap (ended entry suffix) (sym (take-append-drop passed text))
        ∙ (sym (at_starter mappings entry suffix (take passed text) text passed m at (eq-eqb (class_of m) 0 starter)) ∙ is.whole)

    -- ---- where it goes on

    -- a mark that is passed over
    passed_over : (now : ℕ) → now ≡ max greatest (class_of m) → 0 < class_of m
        → with_marks mappings entry suffix (take passed text) (drop passed text) ≡ with_marks mappings entry suffix (take passed text ++ m ∷ []) (drop (passed + 1) text)
        → IsJoining mappings entry suffix now (passed + 1) text all
    passed_over now greater mark turn =
        let more : take (passed + 1) text ≡ take passed text ++ m ∷ [] = one_more text passed m at in
        record {
          inside = omega (arith, within);
          is_greatest = greater ∙ (ap (λ k. max k (class_of m)) is.is_greatest ∙ (sym (greatest_more (take passed text) m) ∙ ap greatest_class (sym more)));
          marks = subst (AreMarks (now + 1)) (sym more) (AreMarks-push (now + 1) (take passed text) m (AreMarks-weaker (greatest + 1) (now + 1) (take passed text) (omega (arith, greater)) is.marks) mark (omega (arith, greater)));
          whole = ap (λ (p : List ℕ). with_marks mappings entry suffix p (drop (passed + 1) text)) more ∙ (sym turn ∙ is.whole);
        }

    blocks : 0 < class_of m → is_blocked (take passed text) m ≡ nat_le (class_of m) greatest
    blocks mark = blocked_by_greatest (take passed text) m mark ∙ ap (nat_le (class_of m)) (sym is.is_greatest)

    pub passes_blocked : 0 < class_of m → class_of m ≤ greatest → IsJoining mappings entry suffix greatest (passed + 1) text all
    passes_blocked mark low =
        passed_over greatest (omega arith) mark
        (at_blocked mappings entry suffix (take passed text) text passed m at (ne_eqb (class_of m) 0 (λ e. absurd (omega arith))) (blocks mark ∙ le-leb (class_of m) greatest low))

    module _ (above : greatest < class_of m) where
      mark : 0 < class_of m
      mark = omega (arith, above)

      free : is_blocked (take passed text) m ≡ false
      free = blocks mark ∙ lt-leb (class_of m) greatest above

      no_starter : is_starter m ≡ false
      no_starter = ne_eqb (class_of m) 0 (λ e. absurd (omega (arith, above)))

      pub passes_other : mapping_entry mappings (suffix ++ m ∷ []) ≡ None → IsJoining mappings entry suffix (class_of m) (passed + 1) text all
      passes_other none =
          passed_over (class_of m) (omega (arith, above)) mark
          (at_other mappings entry suffix (take passed text) text passed m at no_starter free none)

      module _ (new : List ℕ) (more : ℕ) (same : new ≡ text) (next : more ≡ passed + 1) where
        -- the mark that was passed over last isn't blocked
        pub unblocked : IsUnblocked new more m
        unblocked =
            let one_less : more - 1 ≡ passed = omega (arith, next) in
            record {
              some = omega (arith, next);
              last = ap₂ (λ (t : List ℕ) n. slice_get t n) same one_less ∙ at;
              is_mark = mark;
              before = subst (AreMarks (class_of m)) (sym (ap₂ take one_less same)) (AreMarks-weaker (greatest + 1) (class_of m) (take passed text) (omega (arith, above)) is.marks);
            }

        -- it joins, and leaves the text
        pub joins : (joined : ℕ) (chars left : List ℕ) (fewer : ℕ) → mapping_entry mappings (suffix ++ m ∷ []) ≡ Some joined → chars ≡ suffix ++ m ∷ [] → left ≡ without_last new more → fewer ≡ more - 1
            → IsJoining mappings joined chars greatest fewer left all
        joins joined chars left fewer entry_of are rest count =
            let one_less : more - 1 ≡ passed = omega (arith, next) in
            let removed : left ≡ take passed text ++ drop (passed + 1) text = rest ∙ ap₂ (λ (xs ys : List ℕ). xs ++ ys) (ap₂ take one_less same) (ap₂ drop next same) in
            let back : fewer ≡ passed = count ∙ one_less in
            let before : take passed left ≡ take passed text = removed_before text passed left within removed in
            let after : drop passed left ≡ drop (passed + 1) text = removed_after text passed left within removed in
            let long : length left ≡ length (take passed text) + length (drop (passed + 1) text) = ap length removed ∙ length-append (take passed text) (drop (passed + 1) text) in
            let front : length (take passed text) ≡ passed = length-take-le passed text (omega (arith, within)) in
            subst (λ n. IsJoining mappings joined chars greatest n left all) (sym back)
            (record {
              inside = omega (arith, long, front);
              is_greatest = is.is_greatest ∙ ap greatest_class (sym before);
              marks = subst (AreMarks (greatest + 1)) (sym before) is.marks;
              whole =
                  ap₂ (with_marks mappings joined chars) before after
                  ∙ (ap (λ (s : List ℕ). with_marks mappings joined s (take passed text) (drop (passed + 1) text)) are
                  ∙ (sym (at_joining mappings entry suffix (take passed text) text passed m at joined no_starter free entry_of) ∙ is.whole));
            })

        -- the text is shorter by then
        pub fewer_left : (left : List ℕ) (fewer : ℕ) → left ≡ without_last new more → fewer ≡ more - 1 → length left - fewer < length text - passed
        fewer_left left fewer rest count =
            let one_less : more - 1 ≡ passed = omega (arith, next) in
            let removed : left ≡ take passed text ++ drop (passed + 1) text = rest ∙ ap₂ (λ (xs ys : List ℕ). xs ++ ys) (ap₂ take one_less same) (ap₂ drop next same) in
            let long : length left ≡ length (take passed text) + length (drop (passed + 1) text) = ap length removed ∙ length-append (take passed text) (drop (passed + 1) text) in
            let front : length (take passed text) ≡ passed = length-take-le passed text (omega (arith, within)) in
            omega (arith, long, front, within, length-drop (passed + 1) text, count, one_less)

    -- fewer are left once one more was passed over
    pub fewer_ahead : (new : List ℕ) (more : ℕ) → new ≡ text → more ≡ passed + 1 → length new - more < length text - passed
    fewer_ahead new more same next = let long : length new ≡ length text = ap length same in omega (arith, long, within, next)

-- ---- the marks up to a class at once

-- a list of which a mark is among those up to a class begins with such a mark
kept : (k c : ℕ) (cs : List ℕ) → 0 < length (marks_up_to k (c ∷ cs)) → (0 < class_of c) × (class_of c ≤ k) × (marks_up_to k (c ∷ cs) ≡ c ∷ marks_up_to k cs)
unfolding marks_up_to
kept k c cs some = elim (cases_Bool (is_starter c)) [
  | inl start ↦ let none : marks_up_to k (c ∷ cs) ≡ [] = cond-true _ _ _ start in absurd (omega (arith, ap length none))
  | inr mark ↦ elim (cases_Bool (nat_le (class_of c) k)) [
    | inl low ↦ (grind (arith, nat_tests), leb-true (class_of c) k low, cond-false _ _ _ mark ∙ cond-true _ _ _ low)
    | inr high ↦ let none : marks_up_to k (c ∷ cs) ≡ [] = cond-false _ _ _ mark ∙ cond-false _ _ _ high in absurd (omega (arith, ap length none))
  ]
]

marks_up_to-nil : (k : ℕ) → marks_up_to k [] ≡ []
unfolding marks_up_to
marks_up_to-nil k = refl

up_to_within : (k : ℕ) (text : List ℕ) (i : ℕ) → i < length (marks_up_to k text) → (m : ℕ) × (slice_get text i ≡ Some m) × (0 < class_of m) × (class_of m ≤ k)
up_to_within k [] i lt = absurd (omega (arith, ap length (marks_up_to-nil k)))
up_to_within k (c ∷ cs) zero lt = let h = kept k c cs lt in (c, refl, h.0, h.1)
up_to_within k (c ∷ cs) (suc i) lt = let h = kept k c cs (omega arith) in let longer = ap length h.2 in up_to_within k cs i (omega arith)

-- marks up to the class that were passed over are among them
pub up_to_least : (k p : ℕ) (text : List ℕ) → p ≤ length text → AreMarks (k + 1) (take p text) → p ≤ length (marks_up_to k text)
unfolding marks_up_to
up_to_least k zero text le marks = omega arith
up_to_least k (suc p) [] le marks = absurd (omega arith)
up_to_least k (suc p) (c ∷ cs) le marks =
    let low = marks.1 in
    let mark : is_starter c ≡ false = ne_eqb (class_of c) 0 (λ e. absurd (omega (arith, marks.0))) in
    let under : nat_le (class_of c) k ≡ true = le-leb (class_of c) k (omega arith) in
    let e : marks_up_to k (c ∷ cs) ≡ c ∷ marks_up_to k cs = cond-false _ _ _ mark ∙ cond-true _ _ _ under in
    let rest = up_to_least k p cs (omega arith) marks.2 in
    omega (arith, ap length e)

passes_more : (mappings : List Mapping) (entry : ℕ) (suffix : List ℕ) (greatest passed n : ℕ) (text : List ℕ) (all : Match) → IsJoining mappings entry suffix greatest passed text all → passed + n ≤ length (marks_up_to greatest text)
    → IsJoining mappings entry suffix greatest (passed + n) text all
passes_more mappings entry suffix greatest passed zero text all is le = let e : passed ≡ passed + 0 = omega arith in subst (λ p. IsJoining mappings entry suffix greatest p text all) e is
passes_more mappings entry suffix greatest passed (suc n) text all is le =
    let e : (passed + n) + 1 ≡ passed + suc n = omega arith in
    let found = up_to_within greatest text (passed + n) (omega arith) in
    subst (λ p. IsJoining mappings entry suffix greatest p text all) e
    (passes_blocked mappings entry suffix greatest (passed + n) text all (passes_more mappings entry suffix greatest passed n text all is (omega arith)) found.0 found.1 found.2 found.3)

-- all marks up to the greatest class are passed over
pub passes_up_to : (mappings : List Mapping) (entry : ℕ) (suffix : List ℕ) (greatest passed : ℕ) (text : List ℕ) (all : Match) → IsJoining mappings entry suffix greatest passed text all
    → (new : List ℕ) (more : ℕ) → new ≡ text → more ≡ length (marks_up_to greatest text) → IsJoining mappings entry suffix greatest more new all
passes_up_to mappings entry suffix greatest passed text all is new more same count =
    let least = up_to_least greatest passed text is.inside is.marks in
    let n = length (marks_up_to greatest text) - passed in
    let sum : passed + n ≡ length (marks_up_to greatest text) = omega arith in
    let within : passed + n ≤ length (marks_up_to greatest text) = omega arith in
    in_other_words mappings entry suffix greatest (passed + n) text all greatest more new (passes_more mappings entry suffix greatest passed n text all is within) refl (count ∙ sym sum) same

-- fewer are left by then
pub fewer_past : (mappings : List Mapping) (entry : ℕ) (suffix : List ℕ) (greatest passed : ℕ) (text : List ℕ) (all : Match) → IsJoining mappings entry suffix greatest passed text all
    → (old new : List ℕ) (before more : ℕ) → before < passed → text ≡ old → new ≡ text → more ≡ length (marks_up_to greatest text) → length new - more < length old - before
fewer_past mappings entry suffix greatest passed text all is old new before more later was same count =
    let least = up_to_least greatest passed text is.inside is.marks in
    let inside = is.inside in
    let long = ap length same in
    let longer = ap length was in
    omega arith
