use Rattle.std.proofs.Common.{◌≡◌, map, drop, fold}
use Rattle.icu_table_entries.specs.Elements.{element_of}
use Rattle.icu_table_data.proofs.element_walk.visit_listed.Given as goal

-- what is after the rest of the elements is after all of them
abbrev pub invariant-loop-bits : goal.invariant-loop-bits
invariant-loop-bits g l =
    let from = fold g.V.VisitElement.after in
    from (g.V.VisitElement.seen l.visitor) (map element_of (drop l.bits-index l.elements)) ≡ from (g.V.VisitElement.seen l.fn.visitor) (map element_of l.elements)
