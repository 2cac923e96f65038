use Rattle.std.proofs.Common.{sym, subst, rules}
use Rattle.icu_element_facts.specs.Followers.{HasNoBit}
use Rattle.icu_element_reading.specs.boundaries.Places.{MayBeCut}
use Rattle.icu_element_cursor.specs.Cursors.{cursor_reading}
use Rattle.icu_element_cursor.specs.inner.Standing.{Serves}
use Rattle.icu_element_cursor.specs.inner.Unjoined.{IsUnjoinedBefore}
use Rattle.icu_element_cursor.proofs.KeptServesLemmas.{starter_next}
use Rattle.icu_element_cursor.proofs.UnjoinedLemmas.{ended_before, cut_before}
use Rattle.icu_element_cursor.proofs.unjoined.go_on_none.Goals as goal

pub returns-in_default : goal.returns-in_default
returns-in_default g c =
    let reading = cursor_reading c.args.tables.now in
    λ _. subst (IsUnjoinedBefore reading (HasNoBit c.args.bits) c.args.class) (sym c.in_default.ensures) (ended_before reading (HasNoBit c.args.bits) c.args.class)

pub returns-in-Own : goal.returns-in-Own
returns-in-Own g c =
    let reading = cursor_reading c.args.tables.now in
    let x = c.in-Some.x in
    let cut : MayBeCut reading x = search rules in
    λ _. subst (IsUnjoinedBefore reading (HasNoBit c.args.bits) c.args.class) (sym c.in-Some.ensures)
    (cut_before reading (HasNoBit c.args.bits) c.args.class x (g.T.EncodedText.text c.in-Some.field-0-1) cut)

pub returns-then-next : goal.returns-then-next
returns-then-next g c =
    let reading = cursor_reading c.args.tables.now in
    let x = c.in-Some.x in
    let serves : Serves reading x c.in-Facts.next.now = search rules in
    λ yes. subst (IsUnjoinedBefore reading (HasNoBit c.args.bits) c.args.class) (sym c.in-Some.ensures)
    (cut_before reading (HasNoBit c.args.bits) c.args.class x (g.T.EncodedText.text c.in-Some.field-0-1) (serves.boundary yes))

pub returns-then-next-2 : goal.returns-then-next-2
returns-then-next-2 g c =
    let reading = cursor_reading c.args.tables.now in
    let x = c.in-Some.x in
    let serves : Serves reading x c.in-Facts.next.now = search rules in
    λ yes. subst (IsUnjoinedBefore reading (HasNoBit c.args.bits) c.args.class) (sym c.in-Some.ensures)
    (starter_next reading c.args.bits c.args.class x c.in-Facts.next.now serves c.if-next.false (search rules) yes (g.T.EncodedText.text c.in-Some.field-0-1))

pub returns-in-Nothing : goal.returns-in-Nothing
returns-in-Nothing g c =
    let reading = cursor_reading c.args.tables.now in
    let x = c.in-Some.x in
    λ yes. subst (IsUnjoinedBefore reading (HasNoBit c.args.bits) c.args.class) (sym c.in-Some.ensures)
    (cut_before reading (HasNoBit c.args.bits) c.args.class x (g.T.EncodedText.text c.in-Some.field-0-1) (c.has_boundary_before.ensures yes))
