use Rattle.std.proofs.Common.{◌≡◌, ℕ, List, ◌∷◌, ◌≤◌, ◌<◌, sym, subst, arith, rules}
use Rattle.icu_table_data.specs.StoredData.{found_context}
use Rattle.icu_element_cursor.specs.Cursors.{cursor_reading}
use Rattle.icu_element_reading.specs.boundaries.Places.{MayBeCut}
use Rattle.icu_element_cursor.specs.inner.Unjoined.{BeginsNone, IsHead}
use Rattle.icu_element_cursor.specs.inner.Composed.{AreLowerMarksBefore}
use Rattle.icu_element_cursor.proofs.ComposedLemmas.{below_ended, below_cut, below_more}
use Rattle.icu_element_cursor.proofs.composed.are_below.Goals as goal

pub returns-in_default : goal.returns-in_default
returns-in_default g c =
    let reading = cursor_reading c.args.tables.now in
    let context = found_context c.args.context in
    λ _. c.marks.invariant (subst (AreLowerMarksBefore reading context c.args.class c.marks.last) (sym c.in_default.ensures) (below_ended reading context c.args.class c.marks.last))

pub returns-in-Boundary : goal.returns-in-Boundary
returns-in-Boundary g c =
    let reading = cursor_reading c.args.tables.now in
    let context = found_context c.args.context in
    let cut : MayBeCut reading c.in-Some.c = search rules in
    λ _. c.marks.invariant (subst (AreLowerMarksBefore reading context c.args.class c.marks.last) (sym c.in-Some.ensures)
    (below_cut reading context c.args.class c.marks.last c.in-Some.c (g.T.EncodedText.text c.in-Some.after) cut))

pub marks-preserved : goal.marks-preserved
marks-preserved g c =
    let reading = cursor_reading c.args.tables.now in
    let context = found_context c.args.context in
    let d = c.in-Head.d in
    let k = c.in-Head.k in
    let none : BeginsNone context d = search rules in
    let head : IsHead c.in-Some.c d k = search rules in
    let fits : c.marks.last ≤ k = search (arith, rules) in
    let below : k < c.args.class = search (arith, rules) in
    let text = g.T.EncodedText.text c.marks.rest in
    let more : (rest : List ℕ) → AreLowerMarksBefore reading context c.args.class k rest → text ≡ c.in-Some.c ∷ rest → AreLowerMarksBefore reading context c.args.class c.marks.last text =
    λ rest left is.
    subst (AreLowerMarksBefore reading context c.args.class c.marks.last) (sym is)
    (below_more reading context c.args.class c.marks.last c.in-Some.c d k rest head (search rules) fits below none left) in
    λ left. c.marks.invariant (more _ left (search rules))
