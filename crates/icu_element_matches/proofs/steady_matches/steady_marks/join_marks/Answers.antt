use Rattle.std.proofs.Common.{◌≡◌, ◌+◌, ◌<◌, ◌≤◌, ℕ, List, Option, Some, None, [], ◌∷◌, ◌++◌, length, refl, sym, ap, ◌∙◌, rules, arith}
use Rattle.std.specs.Prelude.{slice_get, option_to_list}
use Rattle.ucd_normal.specs.CanonicalCombiningClass.{canonical_combining_class as class_of}
use Rattle.icu_table_data.specs.StoredData.{found_context}
use Rattle.icu_table_data.specs.Data.{Mapping, mapping_entry}
use Rattle.icu_element_matches.specs.Matches.{Match}
use Rattle.icu_element_matches.proofs.steady_matches.SteadyMarkLemmas.{begins, ends_text, ends_at_starter, passes_blocked, passes_other, passes_up_to, in_other_words, unblocked, joins, fewer_left, fewer_ahead, fewer_past}
use Rattle.icu_element_matches.proofs.steady_matches.steady_marks.join_marks.Goals as goal

pub marks-init : goal.marks-init
marks-init g c =
    begins (found_context c.args.context).mappings c.args.matched.now.ce32 c.args.matched.now.suffix.now _ _ _ c.look_back.ensures.passed c.look_back.ensures.unread

pub returns-then-class-eq0 : goal.returns-then-class-eq0
returns-then-class-eq0 g c =
    let l = c.marks in
    let at : slice_get (g.X.TextForMatches.unread l.text) (g.X.TextForMatches.passed l.text) ≡ Some c.in-Some.mark = search rules in
    let starter : class_of c.in-Some.mark ≡ 0 = search rules in
    ap (λ (t : List ℕ). let m : Match = record { entry = l.matched.ce32; suffix = l.matched.suffix.now; rest = t } in m) c.pass.ensures.unread
    ∙ ends_at_starter _ _ _ _ _ _ _ l.invariant c.in-Some.mark at starter

pub take-requires : goal.take-requires
take-requires g c =
    let l = c.marks in
    let at : slice_get (g.X.TextForMatches.unread l.text) (g.X.TextForMatches.passed l.text) ≡ Some c.in-Some.mark = search rules in
    let class : class_of c.in-Some.mark ≡ c.canonical_combining_class-class.result = search rules in
    let above : l.greatest < class_of c.in-Some.mark = omega (arith, class, c.if-class-greatest.true) in
    unblocked _ _ _ _ _ _ _ l.invariant c.in-Some.mark at above _ _ c.pass.ensures.unread (c.pass.ensures.passed ∙ ap (λ (o : Option ℕ). g.X.TextForMatches.passed l.text + length (option_to_list o)) c.in-Some.is)

pub marks-smaller-in-Some-find_joined : goal.marks-smaller-in-Some-find_joined
marks-smaller-in-Some-find_joined g c =
    let l = c.marks in
    let at : slice_get (g.X.TextForMatches.unread l.text) (g.X.TextForMatches.passed l.text) ≡ Some c.in-Some.mark = search rules in
    let class : class_of c.in-Some.mark ≡ c.canonical_combining_class-class.result = search rules in
    let above : l.greatest < class_of c.in-Some.mark = omega (arith, class, c.if-class-greatest.true) in
    fewer_left _ _ _ _ _ _ _ l.invariant c.in-Some.mark at above _ _ c.pass.ensures.unread (c.pass.ensures.passed ∙ ap (λ (o : Option ℕ). g.X.TextForMatches.passed l.text + length (option_to_list o)) c.in-Some.is) _ _ c.take.ensures.unread c.take.ensures.passed

pub marks-preserved-in-Some-find_joined : goal.marks-preserved-in-Some-find_joined
marks-preserved-in-Some-find_joined g c =
    let l = c.marks in
    let mappings : List Mapping = (found_context c.args.context).mappings in
    let at : slice_get (g.X.TextForMatches.unread l.text) (g.X.TextForMatches.passed l.text) ≡ Some c.in-Some.mark = search rules in
    let class : class_of c.in-Some.mark ≡ c.canonical_combining_class-class.result = search rules in
    let above : l.greatest < class_of c.in-Some.mark = omega (arith, class, c.if-class-greatest.true) in
    let entry : mapping_entry mappings (l.matched.suffix.now ++ c.in-Some.mark ∷ []) ≡ Some c.in-Some-find_joined.joined.entry = c.in-Some-find_joined.ensures.entry in
    let chars : c.in-Some-find_joined.joined.chars.now ≡ l.matched.suffix.now ++ c.in-Some.mark ∷ [] = c.in-Some-find_joined.ensures.chars in
    joins _ _ _ _ _ _ _ l.invariant c.in-Some.mark at above _ _ c.pass.ensures.unread (c.pass.ensures.passed ∙ ap (λ (o : Option ℕ). g.X.TextForMatches.passed l.text + length (option_to_list o)) c.in-Some.is) _ _ _ _ entry chars c.take.ensures.unread c.take.ensures.passed

pub pass_up_to-requires : goal.pass_up_to-requires
pass_up_to-requires g c =
    let l = c.marks in
    let mappings : List Mapping = (found_context c.args.context).mappings in
    let at : slice_get (g.X.TextForMatches.unread l.text) (g.X.TextForMatches.passed l.text) ≡ Some c.in-Some.mark = search rules in
    let class : class_of c.in-Some.mark ≡ c.canonical_combining_class-class.result = search rules in
    let above : l.greatest < class_of c.in-Some.mark = omega (arith, class, c.if-class-greatest.true) in
    let none : mapping_entry mappings (l.matched.suffix.now ++ c.in-Some.mark ∷ []) ≡ None = search rules in
    let count = c.pass.ensures.passed ∙ ap (λ (o : Option ℕ). g.X.TextForMatches.passed l.text + length (option_to_list o)) c.in-Some.is in
    let over = in_other_words _ _ _ _ _ _ _ _ _ _ (passes_other _ _ _ _ _ _ _ l.invariant c.in-Some.mark at above none) (sym class) count c.pass.ensures.unread in
    over.marks

pub marks-smaller-then-class-greatest : goal.marks-smaller-then-class-greatest
marks-smaller-then-class-greatest g c =
    let l = c.marks in
    let mappings : List Mapping = (found_context c.args.context).mappings in
    let at : slice_get (g.X.TextForMatches.unread l.text) (g.X.TextForMatches.passed l.text) ≡ Some c.in-Some.mark = search rules in
    let class : class_of c.in-Some.mark ≡ c.canonical_combining_class-class.result = search rules in
    let above : l.greatest < class_of c.in-Some.mark = omega (arith, class, c.if-class-greatest.true) in
    let none : mapping_entry mappings (l.matched.suffix.now ++ c.in-Some.mark ∷ []) ≡ None = search rules in
    let count = c.pass.ensures.passed ∙ ap (λ (o : Option ℕ). g.X.TextForMatches.passed l.text + length (option_to_list o)) c.in-Some.is in
    let over = in_other_words _ _ _ _ _ _ _ _ _ _ (passes_other _ _ _ _ _ _ _ l.invariant c.in-Some.mark at above none) (sym class) count c.pass.ensures.unread in
    let later : g.X.TextForMatches.passed l.text < g.X.TextForMatches.passed c.pass.new.self = omega (arith, count) in
    fewer_past _ _ _ _ _ _ _ over _ _ _ _ later c.pass.ensures.unread c.pass_up_to.ensures.unread c.pass_up_to.ensures.passed

pub marks-preserved-then-class-greatest : goal.marks-preserved-then-class-greatest
marks-preserved-then-class-greatest g c =
    let l = c.marks in
    let mappings : List Mapping = (found_context c.args.context).mappings in
    let at : slice_get (g.X.TextForMatches.unread l.text) (g.X.TextForMatches.passed l.text) ≡ Some c.in-Some.mark = search rules in
    let class : class_of c.in-Some.mark ≡ c.canonical_combining_class-class.result = search rules in
    let above : l.greatest < class_of c.in-Some.mark = omega (arith, class, c.if-class-greatest.true) in
    let none : mapping_entry mappings (l.matched.suffix.now ++ c.in-Some.mark ∷ []) ≡ None = search rules in
    let count = c.pass.ensures.passed ∙ ap (λ (o : Option ℕ). g.X.TextForMatches.passed l.text + length (option_to_list o)) c.in-Some.is in
    let over = in_other_words _ _ _ _ _ _ _ _ _ _ (passes_other _ _ _ _ _ _ _ l.invariant c.in-Some.mark at above none) (sym class) count c.pass.ensures.unread in
    passes_up_to _ _ _ _ _ _ _ over _ _ c.pass_up_to.ensures.unread c.pass_up_to.ensures.passed

pub marks-smaller : goal.marks-smaller
marks-smaller g c =
    let l = c.marks in
    let at : slice_get (g.X.TextForMatches.unread l.text) (g.X.TextForMatches.passed l.text) ≡ Some c.in-Some.mark = search rules in
    fewer_ahead _ _ _ _ _ _ _ l.invariant c.in-Some.mark at _ _ c.pass.ensures.unread (c.pass.ensures.passed ∙ ap (λ (o : Option ℕ). g.X.TextForMatches.passed l.text + length (option_to_list o)) c.in-Some.is)

pub marks-preserved : goal.marks-preserved
marks-preserved g c =
    let l = c.marks in
    let at : slice_get (g.X.TextForMatches.unread l.text) (g.X.TextForMatches.passed l.text) ≡ Some c.in-Some.mark = search rules in
    let class : class_of c.in-Some.mark ≡ c.canonical_combining_class-class.result = search rules in
    let mark : 0 < class_of c.in-Some.mark = grind (arith, class, c.if-class-eq0.false) in
    let low : class_of c.in-Some.mark ≤ l.greatest = omega (arith, class, c.if-class-greatest.false) in
    in_other_words _ _ _ _ _ _ _ _ _ _ (passes_blocked _ _ _ _ _ _ _ l.invariant c.in-Some.mark at mark low) refl (c.pass.ensures.passed ∙ ap (λ (o : Option ℕ). g.X.TextForMatches.passed l.text + length (option_to_list o)) c.in-Some.is) c.pass.ensures.unread

pub returns : goal.returns
returns g c =
    let l = c.marks in
    let none : slice_get (g.X.TextForMatches.unread l.text) (g.X.TextForMatches.passed l.text) ≡ None = search rules in
    ap (λ (t : List ℕ). let m : Match = record { entry = l.matched.ce32; suffix = l.matched.suffix.now; rest = t } in m) c.pass.ensures.unread
    ∙ ends_text _ _ _ _ _ _ _ l.invariant none
