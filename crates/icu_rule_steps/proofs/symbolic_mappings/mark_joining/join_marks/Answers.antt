use Rattle.std.proofs.Common.{◌≡◌, ◌+◌, ◌<◌, ◌≤◌, ℕ, List, true, false, Some, None, [], ◌∷◌, ◌++◌, length, take, drop, refl, sym, ap, ap₂, ◌∙◌, subst, rules, arith, length-drop, length-append}
use Rattle.std.specs.Prelude.{slice_get, nat_le, max}
use Rattle.std.proofs.lemmas.Bool.{lt-leb, le-leb}
use Rattle.std.proofs.lemmas.List.{take-append-drop, length-take-le, append-nil}
use Rattle.std.proofs.lemmas.Option.{slice_get_within}
use Rattle.std.proofs.Math.ListN.{drop_of_length-le}
use Rattle.ucd_normal.specs.CanonicalCombiningClass.{canonical_combining_class as class_of}
use Rattle.unicode_normalization.specs.Order.{is_starter}
use Rattle.icu_element_matches.specs.Texts.{unread}
use Rattle.icu_element_matches.specs.inner.Joining.{greatest_class}
use Rattle.icu_element_matches.proofs.MarkLemmas.{one_more, blocked_by_greatest, greatest_more, removed_after, removed_before, nothing_there}
use Rattle.icu_rule_meaning.specs.TailoredMappings.{SymbolicMapping, SymbolicMatch, is_blocked_by, joined_marks, mapping_with}
use Rattle.icu_rule_steps.specs.symbolic_mappings.StoredMappings.{symbolic_mapping}
use Rattle.icu_rule_steps.specs.symbolic_mappings.inner.Tiers.{lent_mappings, maybe_lent}
use Rattle.icu_rule_steps.specs.symbolic_mappings.inner.PassedMarks.{AreMarksTo}
use Rattle.icu_rule_steps.proofs.symbolic_mappings.MarkRunLemmas.{marks_and_one, marks_before, marks_on, passes_marks}
use Rattle.icu_rule_steps.proofs.symbolic_mappings.JoinLemmas.{NoneJoins, as_found, same_blocking, ends_at_starter, passes_blocked, joins_longer, none_joins, passes_other, ends_with_text}
use Rattle.icu_rule_steps.proofs.symbolic_mappings.mark_joining.join_marks.Goals as goal
use Rattle.icu_rule_steps.proofs.symbolic_mappings.mark_joining.join_marks.Goals.{then-class-greatest+in_default-mapping_with_mark, else-class-greatest}

pub marks-init : goal.marks-init
unfolding greatest_class
marks-init c = record {
  inside = omega arith;
  greatest = refl;
  joining = λ m (above : c.greatest_joining-joining.result < class_of m).
      ap (λ (s : List ℕ). mapping_with (lent_mappings c.args.mappings.now) (s ++ m ∷ [])) (sym c.as_slice.ensures.value)
      ∙ c.greatest_joining-joining.ensures m above;
  run = c.requires.run;
  front = λ i m from before is. absurd (omega (arith, from, before));
  whole = refl;
}

pub overflow_add-passed : goal.overflow_add-passed
unfolding unread
overflow_add-passed c =
    let l = c.marks in
    let left : List ℕ = drop l.text.next l.text.chars.items in
    let size : c.len.result ≡ length left = c.len.ensures in
    let inside : l.passed ≤ length left = l.invariant.inside in
    omega (arith, c.marks_ahead-ahead.ensures.within, size, inside, length-drop l.text.next l.text.chars.items, l.text.chars.ok.0, l.text.chars.ok.1, l.text.chars.small)

pub marks-preserved-then-ahead-gt0 : goal.marks-preserved-then-ahead-gt0
marks-preserved-then-ahead-gt0 c =
    let mappings : List SymbolicMapping = lent_mappings c.args.mappings.now in
    let l = c.marks in
    let text : List ℕ = unread l.text in
    let found : SymbolicMapping = symbolic_mapping l.found.now in
    let ahead : ℕ = c.marks_ahead-ahead.result in
    let size : c.len.result ≡ length text = c.len.ensures in
    let inside : l.passed + ahead ≤ length text = omega (arith, c.marks_ahead-ahead.ensures.within, size, l.invariant.inside) in
    let marks : AreMarksTo l.greatest text l.passed (l.passed + ahead) = c.marks_ahead-ahead.ensures.marks text l.passed l.invariant.run (omega (arith, size, l.invariant.inside)) in
    let passes = passes_marks mappings found text l.passed ahead inside (subst (λ g. AreMarksTo g text l.passed (l.passed + ahead)) l.invariant.greatest marks) in
    record {
      inside = inside;
      greatest = l.invariant.greatest ∙ sym passes.greatest;
      joining = l.invariant.joining;
      run = l.invariant.run;
      front = marks_on l.greatest text l.passed (l.passed + ahead) l.invariant.front marks;
      whole = sym passes.whole ∙ l.invariant.whole;
    }

pub returns-then-class-eq0 : goal.returns-then-class-eq0
returns-then-class-eq0 c =
    let l = c.marks in
    let text : List ℕ = unread l.text in
    let m : ℕ = c.in-Some.mark in
    let is : slice_get text l.passed ≡ Some m = search rules in
    let starter : is_starter m ≡ true = search rules in
    let found : SymbolicMapping = symbolic_mapping l.found.now in
    let ended : List ℕ → SymbolicMatch = λ r. record { elements = found.elements; suffix = found.suffix; rest = r } in
    record {
      found =
          ap ended (sym (take-append-drop l.passed text))
          ∙ (sym (ends_at_starter (lent_mappings c.args.mappings.now) found (take l.passed text) text l.passed m is starter) ∙ l.invariant.whole);
      run = c.or_first-then-class-eq0.ensures text (search rules) l.invariant.run l.invariant.front;
    }

pub remove-requires : goal.remove-requires
remove-requires c =
    let is : slice_get (unread c.marks.text) c.marks.passed ≡ Some c.in-Some.mark = search rules in
    slice_get_within (unread c.marks.text) c.marks.passed c.in-Some.mark is

pub marks-smaller-in-Some-mapping_with_mark : goal.marks-smaller-in-Some-mapping_with_mark
marks-smaller-in-Some-mapping_with_mark c =
    let l = c.marks in
    let text : List ℕ = unread l.text in
    let new : List ℕ = unread c.remove.new.self in
    let is : slice_get text l.passed ≡ Some c.in-Some.mark = search rules in
    let within : l.passed < length text = slice_get_within text l.passed c.in-Some.mark is in
    let long : length new ≡ length (take l.passed text) + length (drop (l.passed + 1) text) =
    ap length c.remove.ensures.rest ∙ length-append (take l.passed text) (drop (l.passed + 1) text) in
    let shorter : length new < length text = omega (arith, within, long, length-take-le l.passed text (omega (arith, within)), length-drop (l.passed + 1) text) in
    omega (arith, shorter, within)

pub marks-preserved-in-Some-mapping_with_mark : goal.marks-preserved-in-Some-mapping_with_mark
marks-preserved-in-Some-mapping_with_mark c =
    let mappings : List SymbolicMapping = lent_mappings c.args.mappings.now in
    let l = c.marks in
    let text : List ℕ = unread l.text in
    let m : ℕ = c.in-Some.mark in
    let is : slice_get text l.passed ≡ Some m = search rules in
    let within : l.passed < length text = slice_get_within text l.passed m is in
    let starter : is_starter m ≡ false = search rules in
    let class : class_of m ≡ c.canonical_combining_class-class.result = sym c.canonical_combining_class-class.ensures in
    let above : l.greatest < class_of m = omega (arith, class, c.if-class-greatest.true) in
    let free : is_blocked_by (take l.passed text) m ≡ false =
    same_blocking (take l.passed text) m ∙ blocked_by_greatest (take l.passed text) m (omega (arith, above)) ∙ lt-leb _ _ (omega (arith, above, l.invariant.greatest)) in
    let found : SymbolicMapping = symbolic_mapping l.found.now in
    let longer : SymbolicMapping = symbolic_mapping c.in-Some-mapping_with_mark.longer.now in
    let joined : mapping_with mappings (found.suffix ++ m ∷ []) ≡ Some longer =
    sym (sym (ap maybe_lent c.in-Some-mapping_with_mark.is) ∙ c.mapping_with_mark.ensures ∙ ap (λ (s : List ℕ). mapping_with mappings (s ++ m ∷ [])) c.as_slice-then-class-greatest.ensures.value) in
    let new : List ℕ = unread c.remove.new.self in
    let before : take l.passed new ≡ take l.passed text = removed_before text l.passed new within c.remove.ensures.rest in
    let after : drop l.passed new ≡ drop (l.passed + 1) text = removed_after text l.passed new within c.remove.ensures.rest in
    let long : length new ≡ length (take l.passed text) + length (drop (l.passed + 1) text) =
    ap length c.remove.ensures.rest ∙ length-append (take l.passed text) (drop (l.passed + 1) text) in
    record {
      inside = omega (arith, long, length-take-le l.passed text (omega (arith, within)));
      greatest = l.invariant.greatest ∙ ap greatest_class (sym before);
      joining = λ n (over : c.greatest_joining-joining-in-Some-mapping_with_mark.result < class_of n).
          ap (λ (s : List ℕ). mapping_with mappings (s ++ n ∷ [])) (sym c.as_slice-in-Some-mapping_with_mark.ensures.value)
          ∙ c.greatest_joining-joining-in-Some-mapping_with_mark.ensures n over;
      run = c.none-known.ensures new;
      front = marks_before l.greatest text new l.passed before l.invariant.front;
      whole =
          ap₂ (joined_marks mappings longer) before after
          ∙ sym (joins_longer mappings found (take l.passed text) text l.passed m is longer starter free joined)
          ∙ l.invariant.whole;
    }

pub overflow_add-passed-in-marks : goal.overflow_add-passed-in-marks
unfolding unread
overflow_add-passed-in-marks c =
    let l = c.marks in
    let is : slice_get (drop l.text.next l.text.chars.items) l.passed ≡ Some c.in-Some.mark = search rules in
    let within : l.passed < length (drop l.text.next l.text.chars.items) = slice_get_within (drop l.text.next l.text.chars.items) l.passed c.in-Some.mark is in
    omega (arith, within, length-drop l.text.next l.text.chars.items, l.text.chars.ok.0, l.text.chars.ok.1, l.text.chars.small)

pub marks-smaller : goal.marks-smaller
marks-smaller c =
    let text : List ℕ = unread c.marks.text in
    let is : slice_get text c.marks.passed ≡ Some c.in-Some.mark = search rules in
    let within : c.marks.passed < length text = slice_get_within text c.marks.passed c.in-Some.mark is in
    omega (arith, within)

pub marks-preserved : goal.marks-preserved
marks-preserved c =
    let mappings : List SymbolicMapping = lent_mappings c.args.mappings.now in
    let l = c.marks in
    let text : List ℕ = unread l.text in
    let passed : List ℕ = take l.passed text in
    let rest : List ℕ = drop (l.passed + 1) text in
    let found : SymbolicMapping = symbolic_mapping l.found.now in
    let m : ℕ = c.in-Some.mark in
    let is : slice_get text l.passed ≡ Some m = search rules in
    let within : l.passed < length text = slice_get_within text l.passed m is in
    let starter : is_starter m ≡ false = search rules in
    let class : class_of m ≡ c.canonical_combining_class-class.result = sym c.canonical_combining_class-class.ensures in
    let mark : 0 < class_of m = grind (arith, class, c.if-class-eq0.false) in
    let more : take (l.passed + 1) text ≡ passed ++ m ∷ [] = one_more text l.passed m is in
    let blocking : is_blocked_by passed m ≡ nat_le (class_of m) (greatest_class passed) = same_blocking passed m ∙ blocked_by_greatest passed m mark in
    let greatest : c.if-class-greatest.greatest ≡ max (greatest_class passed) (class_of m) = elim c.if-class-greatest.branch [
      | then-class-greatest+in_default-mapping_with_mark w ↦ omega (arith, w.greatest-is, w.if-class-greatest.true, class, l.invariant.greatest)
      | else-class-greatest w ↦ omega (arith, w.greatest-is, w.if-class-greatest.false, class, l.invariant.greatest)
    ] in
    let turn : joined_marks mappings found passed (drop l.passed text) ≡ joined_marks mappings found (passed ++ m ∷ []) rest = elim c.if-class-greatest.branch [
      | then-class-greatest+in_default-mapping_with_mark w ↦
          let free : is_blocked_by passed m ≡ false = blocking ∙ lt-leb _ _ (omega (arith, w.if-class-greatest.true, class, l.invariant.greatest)) in
          let none : mapping_with mappings (found.suffix ++ m ∷ []) ≡ None =
          sym (sym (ap maybe_lent w.in_default-mapping_with_mark.is) ∙ w.mapping_with_mark.ensures ∙ ap (λ (s : List ℕ). mapping_with mappings (s ++ m ∷ [])) w.as_slice-then-class-greatest.ensures.value) in
          passes_other mappings found passed text l.passed m is starter free none
      | else-class-greatest w ↦
          let blocked : is_blocked_by passed m ≡ true = blocking ∙ le-leb _ _ (omega (arith, w.if-class-greatest.false, class, l.invariant.greatest)) in
          passes_blocked mappings found passed text l.passed m is starter blocked
    ] in
    record {
      inside = omega (arith, within);
      greatest = greatest ∙ sym (ap greatest_class more ∙ greatest_more passed m);
      joining = l.invariant.joining;
      run = c.or_first_before-known.ensures text (search rules) l.invariant.run l.invariant.front;
      front = marks_and_one l.greatest c.if-class-greatest.greatest text l.passed m l.invariant.front is mark (omega (arith, greatest)) (omega (arith, greatest, l.invariant.greatest));
      whole = ap (λ (p : List ℕ). joined_marks mappings found p rest) more ∙ sym turn ∙ l.invariant.whole;
    }

pub returns-in_default : goal.returns-in_default
returns-in_default c =
    let l = c.marks in
    let text : List ℕ = unread l.text in
    let none : slice_get text l.passed ≡ None = search rules in
    let past : length text ≤ l.passed = nothing_there text l.passed none in
    let found : SymbolicMapping = symbolic_mapping l.found.now in
    let ended : List ℕ → SymbolicMatch = λ r. record { elements = found.elements; suffix = found.suffix; rest = r } in
    let whole : take l.passed text ≡ text =
    sym (append-nil (take l.passed text)) ∙ (ap (λ (r : List ℕ). take l.passed text ++ r) (sym (drop_of_length-le text past)) ∙ take-append-drop l.passed text) in
    record {
      found = ap ended (sym whole) ∙ (sym (ends_with_text (lent_mappings c.args.mappings.now) found (take l.passed text) text l.passed past) ∙ l.invariant.whole);
      run = c.or_first.ensures text (search rules) l.invariant.run l.invariant.front;
    }

pub returns : goal.returns
returns c =
    let mappings : List SymbolicMapping = lent_mappings c.args.mappings.now in
    let l = c.marks in
    let text : List ℕ = unread l.text in
    let passed : List ℕ = take l.passed text in
    let found : SymbolicMapping = symbolic_mapping l.found.now in
    let none : NoneJoins mappings found passed =
    λ m (above : greatest_class passed < class_of m). l.invariant.joining m (omega (arith, above, l.invariant.greatest, c.marks-test.false)) in
    record {
      found =
          ap (as_found found) (sym (take-append-drop l.passed text))
          ∙ sym (none_joins mappings found passed (drop l.passed text) none) ∙ l.invariant.whole;
      run = c.or_first-2.ensures text (search rules) l.invariant.run l.invariant.front;
    }
