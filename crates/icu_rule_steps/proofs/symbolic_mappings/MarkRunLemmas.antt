-- Marks of a text that were passed over.
use Rattle.std.proofs.Common.{◌≡◌, ℕ, zero, suc, ◌+◌, ◌<◌, ◌≤◌, true, false, List, [], ◌∷◌, ◌++◌, length, get_or, take, drop, Some, refl, sym, ap, ◌∙◌, subst, arith, inl, inr}
use Rattle.std.specs.Prelude.{slice_get, max}
use Rattle.std.proofs.lemmas.Bool.{cases_lt, le-leb}
use Rattle.std.proofs.lemmas.Bool.Decides.{nat_tests}
use Rattle.std.proofs.lemmas.Option.{slice_get-get_or}
use Rattle.ucd_normal.specs.CanonicalCombiningClass.{canonical_combining_class as class_of}
use Rattle.unicode_normalization.specs.Order.{is_starter}
use Rattle.icu_element_matches.specs.inner.Joining.{greatest_class}
use Rattle.icu_element_matches.proofs.MarkLemmas.{blocked_by_greatest, greatest_more, one_more}
use Rattle.icu_rule_meaning.specs.TailoredMappings.{SymbolicMapping, is_blocked_by, joined_marks}
use Rattle.icu_rule_steps.specs.symbolic_mappings.inner.PassedMarks.{AreMarksTo, IsMarkRun, IsMarkTo}
use Rattle.icu_rule_steps.specs.declared.symbolic_mappings.mark_runs.MarkRun.{MarkRun}
use Rattle.icu_rule_steps.proofs.symbolic_mappings.JoinLemmas.{same_blocking, passes_blocked}

-- ---- a run stays one as characters before it are read

pub run_after_one : (run : MarkRun) (c : ℕ) (text : List ℕ) → IsMarkRun run (c ∷ text) → IsMarkRun run text
run_after_one run c text h = λ i m above below is. h (suc i) m (omega (arith, above)) (omega (arith, below)) is

pub run_dropped : (run : MarkRun) (count : ℕ) (text : List ℕ) → IsMarkRun run text → IsMarkRun run (drop count text)
run_dropped run zero text h = h
run_dropped run (suc n) [] h = h
run_dropped run (suc n) (c ∷ text) h = run_dropped run n text (run_after_one run c text h)

-- ---- marks up to an offset

no_marks : (class : ℕ) (text : List ℕ) (start : ℕ) → AreMarksTo class text start start
no_marks class text start = λ i m from before is. absurd (omega (arith, from, before))

pub weaker : (class greater m : ℕ) → class ≤ greater → IsMarkTo class m → IsMarkTo greater m
weaker class greater m less h = record { mark = h.mark; most = omega (arith, h.most, less) }

-- and from there on
pub marks_on : (class : ℕ) (text : List ℕ) (at stop : ℕ) → AreMarksTo class text 0 at → AreMarksTo class text at stop → AreMarksTo class text 0 stop
marks_on class text at stop front more = λ i m from before is. elim (cases_lt i at) as (λ _. IsMarkTo class m) [
  | inl first ↦ front i m from first is
  | inr later ↦ more i m later before is
]

-- and one more
pub marks_and_one : (class greater : ℕ) (text : List ℕ) (at m : ℕ) → AreMarksTo class text 0 at → slice_get text at ≡ Some m → 0 < class_of m → class_of m ≤ greater → class ≤ greater
    → AreMarksTo greater text 0 (at + 1)
marks_and_one class greater text at m front is mark most less = λ i n from before here. elim (cases_lt i at) as (λ _. IsMarkTo greater n) [
  | inl first ↦ weaker class greater n less (front i n from first here)
  | inr later ↦
      let same : i ≡ at = omega (arith, later, before) in
      let equal : Some n ≡ Some m = sym here ∙ (ap (slice_get text) same ∙ is) in
      let one : n ≡ m = cc in
      subst (IsMarkTo greater) (sym one) (record { mark = mark; most = most })
]

got_in_front : (count : ℕ) (text : List ℕ) (i : ℕ) → i < count → slice_get (take count text) i ≡ slice_get text i
got_in_front zero text i h = absurd (omega (arith, h))
got_in_front (suc n) [] i h = refl
got_in_front (suc n) (c ∷ text) zero h = refl
got_in_front (suc n) (c ∷ text) (suc i) h = got_in_front n text i (omega (arith, h))

-- so are those of a text that begins so
pub marks_before : (class : ℕ) (text other : List ℕ) (at : ℕ) → take at other ≡ take at text → AreMarksTo class text 0 at → AreMarksTo class other 0 at
marks_before class text other at same front = λ i m from before is.
    front i m from before (sym (got_in_front at text i before) ∙ (ap (λ l. slice_get l i) (sym same) ∙ (got_in_front at other i before ∙ is)))

-- ---- marks that are passed over together

-- none of them joins, since each is blocked
pub record PassesMarks (mappings : List SymbolicMapping) (found : SymbolicMapping) (text : List ℕ) (at stop : ℕ) : Type 0 where
  pub whole : joined_marks mappings found (take at text) (drop at text) ≡ joined_marks mappings found (take stop text) (drop stop text)
  pub greatest : greatest_class (take stop text) ≡ greatest_class (take at text)

pub passes_marks : (mappings : List SymbolicMapping) (found : SymbolicMapping) (text : List ℕ) (at count : ℕ) → at + count ≤ length text
    → AreMarksTo (greatest_class (take at text)) text at (at + count) → PassesMarks mappings found text at (at + count)
passes_marks mappings found text at zero inside marks =
    let same : at + zero ≡ at = omega arith in
    record {
      whole = ap (λ k. joined_marks mappings found (take k text) (drop k text)) (sym same);
      greatest = ap (λ k. greatest_class (take k text)) same;
    }
passes_marks mappings found text at (suc n) inside marks =
    let here = at + n in
    let next : at + suc n ≡ here + 1 = omega arith in
    let m = get_or text here 0 in
    let is : slice_get text here ≡ Some m = slice_get-get_or text here 0 (omega (arith, inside)) in
    let front = passes_marks mappings found text at n (omega (arith, inside)) (λ i k from before. marks i k from (omega (arith, before))) in
    let own : IsMarkTo (greatest_class (take at text)) m = marks here m (omega arith) (omega arith) is in
    let below : class_of m ≤ greatest_class (take here text) = omega (arith, own.most, front.greatest) in
    let starter : is_starter m ≡ false = grind (arith, nat_tests, own.mark) in
    let blocked : is_blocked_by (take here text) m ≡ true = same_blocking (take here text) m ∙ (blocked_by_greatest (take here text) m own.mark ∙ le-leb _ _ below) in
    let one : take (here + 1) text ≡ take here text ++ m ∷ [] = one_more text here m is in
    let turn = passes_blocked mappings found (take here text) text here m is starter blocked in
    let grown : greatest_class (take (here + 1) text) ≡ max (greatest_class (take here text)) (class_of m) = ap greatest_class one ∙ greatest_more (take here text) m in
    record {
      whole = front.whole ∙ (turn ∙ (ap (λ p. joined_marks mappings found p (drop (here + 1) text)) (sym one) ∙ ap (λ k. joined_marks mappings found (take k text) (drop k text)) (sym next)));
      greatest = ap (λ k. greatest_class (take k text)) next ∙ omega (arith, grown, below, front.greatest);
    }
