use Rattle.std.proofs.Common.{◌≡◌, flat_map, drop, fold}
use Rattle.icu_table_entries.specs.Entries.{self_contained}
use Rattle.icu_table_data.proofs.element_walk.visit_entries.Given as goal

-- what is after the rest of the elements is after all of them
abbrev pub invariant-loop-entry : goal.invariant-loop-entry
invariant-loop-entry g l =
    let from = fold g.V.VisitElement.after in
    from (g.V.VisitElement.seen l.visitor) (flat_map self_contained (drop l.entry-index l.entries)) ≡ from (g.V.VisitElement.seen l.fn.visitor) (flat_map self_contained l.entries)
