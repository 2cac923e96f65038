use Rattle.std.proofs.Common.{◌≡◌, ℕ, List, ◌∷◌, ◌≤◌, sym, subst, arith, rules}
use Rattle.icu_table_data.specs.StoredData.{found_context}
use Rattle.icu_element_cursor.specs.Cursors.{cursor_reading}
use Rattle.icu_element_reading.specs.boundaries.Places.{MayBeCut}
use Rattle.icu_element_cursor.specs.inner.Unjoined.{BeginsNone, IsHead, IsUnjoinedBefore}
use Rattle.icu_element_cursor.proofs.UnjoinedLemmas.{ended_before, cut_before, starter_before, mark_before}
use Rattle.icu_element_cursor.proofs.unjoined.joins_none.Goals as goal

pub returns-in_default : goal.returns-in_default
returns-in_default g c =
    let reading = cursor_reading c.args.tables.now in
    let none_begins = BeginsNone (found_context c.args.context) in
    λ _. c.marks.invariant (subst (IsUnjoinedBefore reading none_begins c.marks.last) (sym c.in_default.ensures) (ended_before reading none_begins c.marks.last))

pub returns-in-Boundary : goal.returns-in-Boundary
returns-in-Boundary g c =
    let reading = cursor_reading c.args.tables.now in
    let none_begins = BeginsNone (found_context c.args.context) in
    let cut : MayBeCut reading c.in-Some.c = search rules in
    λ _. c.marks.invariant (subst (IsUnjoinedBefore reading none_begins c.marks.last) (sym c.in-Some.ensures)
    (cut_before reading none_begins c.marks.last c.in-Some.c (g.T.EncodedText.text c.in-Some.after) cut))

pub returns-then-class-eq0 : goal.returns-then-class-eq0
returns-then-class-eq0 g c =
    let reading = cursor_reading c.args.tables.now in
    let none_begins = BeginsNone (found_context c.args.context) in
    let d = c.in-Head.d in
    let none : none_begins d = search rules in
    let head : IsHead c.in-Some.c d c.in-Head.class = search rules in
    λ _. c.marks.invariant (subst (IsUnjoinedBefore reading none_begins c.marks.last) (sym c.in-Some.ensures)
    (starter_before reading none_begins c.marks.last c.in-Some.c d c.in-Head.class (g.T.EncodedText.text c.in-Some.after) head c.if-class-eq0.true none))

pub marks-preserved : goal.marks-preserved
marks-preserved g c =
    let reading = cursor_reading c.args.tables.now in
    let none_begins = BeginsNone (found_context c.args.context) in
    let d = c.in-Head.d in
    let none : none_begins d = search rules in
    let head : IsHead c.in-Some.c d c.in-Head.class = search rules in
    let fits : c.marks.last ≤ c.in-Head.class = omega (arith, c.if-class-last.false) in
    let text = g.T.EncodedText.text c.marks.rest in
    let more : (rest : List ℕ) → IsUnjoinedBefore reading none_begins c.in-Head.class rest → text ≡ c.in-Some.c ∷ rest → IsUnjoinedBefore reading none_begins c.marks.last text =
    λ rest left is.
    subst (IsUnjoinedBefore reading none_begins c.marks.last) (sym is)
    (mark_before reading none_begins c.marks.last c.in-Some.c d c.in-Head.class rest head c.if-class-eq0.false fits none left) in
    λ left. c.marks.invariant (more _ left (search rules))
