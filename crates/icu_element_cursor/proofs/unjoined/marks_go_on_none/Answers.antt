use Rattle.std.proofs.Common.{◌≡◌, ◌≤◌, ◌∷◌, List, ℕ, sym, subst, arith, rules}
use Rattle.icu_element_facts.specs.Followers.{HasNoBit}
use Rattle.icu_element_facts.specs.declared.char_facts.FactsKind.TheVariants.{Mark}
use Rattle.icu_element_cursor.specs.Cursors.{cursor_reading}
use Rattle.icu_element_cursor.specs.inner.Standing.{Serves}
use Rattle.icu_element_cursor.specs.inner.Unjoined.{IsUnjoinedBefore}
use Rattle.icu_element_cursor.proofs.KeptServesLemmas.{starter_next, mark_next}
use Rattle.icu_element_cursor.proofs.UnjoinedLemmas.{ended_before, cut_before}
use Rattle.icu_element_cursor.proofs.unjoined.marks_go_on_none.Goals as goal

pub returns-in_default : goal.returns-in_default
returns-in_default g c =
    let reading = cursor_reading c.args.tables.now in
    let none = HasNoBit c.args.bits in
    λ _. c.marks.invariant (subst (IsUnjoinedBefore reading none c.marks.last) (sym c.in_default.ensures) (ended_before reading none c.marks.last))

pub returns-in_default-facts : goal.returns-in_default-facts
returns-in_default-facts g c =
    let reading = cursor_reading c.args.tables.now in
    let none = HasNoBit c.args.bits in
    λ yes. c.marks.invariant (subst (IsUnjoinedBefore reading none c.marks.last) (sym c.in-Some.ensures)
    (cut_before reading none c.marks.last c.in-Some.c (g.T.EncodedText.text c.in-Some.after) (c.has_boundary_before.ensures yes)))

pub returns-then-next : goal.returns-then-next
returns-then-next g c =
    let reading = cursor_reading c.args.tables.now in
    let none = HasNoBit c.args.bits in
    let serves : Serves reading c.in-Some.c c.in-Some-facts.next.now = search rules in
    λ _. c.marks.invariant (subst (IsUnjoinedBefore reading none c.marks.last) (sym c.in-Some.ensures)
    (cut_before reading none c.marks.last c.in-Some.c (g.T.EncodedText.text c.in-Some.after) (serves.boundary (search rules))))

pub returns-then-next-2 : goal.returns-then-next-2
returns-then-next-2 g c =
    let reading = cursor_reading c.args.tables.now in
    let bits = c.args.bits in
    let next = c.in-Some-facts.next.now in
    let serves : Serves reading c.in-Some.c next = search rules in
    λ _. c.marks.invariant (subst (IsUnjoinedBefore reading (HasNoBit bits) c.marks.last) (sym c.in-Some.ensures)
    (starter_next reading bits c.marks.last c.in-Some.c next serves c.if-next.false (search rules) (search rules) (g.T.EncodedText.text c.in-Some.after)))

pub marks-preserved : goal.marks-preserved
marks-preserved g c =
    let reading = cursor_reading c.args.tables.now in
    let bits = c.args.bits in
    let next = c.in-Some-facts.next.now in
    let serves : Serves reading c.in-Some.c next = search rules in
    let is : next.kind ≡ Mark = search rules in
    let fits : c.marks.last ≤ next.class = search (arith, rules) in
    let text = g.T.EncodedText.text c.marks.rest in
    let more : (rest : List ℕ) → IsUnjoinedBefore reading (HasNoBit bits) next.class rest → text ≡ c.in-Some.c ∷ rest → IsUnjoinedBefore reading (HasNoBit bits) c.marks.last text =
    λ rest left same.
    subst (IsUnjoinedBefore reading (HasNoBit bits) c.marks.last) (sym same)
    (mark_next reading bits c.marks.last c.in-Some.c next serves c.if-next.false (search rules) is c.if-next-eq0.false fits rest left) in
    λ left. c.marks.invariant (more _ left (search rules))
