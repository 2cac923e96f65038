-- A starter that no mapping names and that decomposes to itself, by its entry.
use Rattle.std.proofs.Common.{sym, ◌∙◌}
use Rattle.std.proofs.lemmas.Bool.{not-true}
use Rattle.icu_element_reading.specs.boundaries.BoundaryTables.{boundary_reading}
use Rattle.icu_element_facts.proofs.OwnLemmas.{own_starter}
use Rattle.icu_element_facts.proofs.own.is_own.Goals as goal
use Rattle.icu_element_facts.proofs.own.is_own.Goals.{then-is_unnamed_starter, else-is_unnamed_starter, then-not-is_dot, else-not-is_dot}

pub returns-then-has_lone_entry : goal.returns-then-has_lone_entry
returns-then-has_lone_entry c = λ itself.
    elim c.if-not-is_dot.branch [
      | then-not-is_dot w ↦
          elim c.if-is_unnamed_starter.branch [
            | then-is_unnamed_starter v ↦
                own_starter (boundary_reading c.args.places.now) c.args.c (c.is_unnamed_starter.ensures v.if-is_unnamed_starter.true)
                (sym v.is_dot.ensures ∙ not-true _ (sym v.value-is ∙ w.if-not-is_dot.true))
                (w.has_lone_entry.ensures (sym w.value-is ∙ c.if-has_lone_entry.true))
                (c.decomposes_to_itself.ensures itself)
            | else-is_unnamed_starter v ↦ let clash = sym v.value-is ∙ w.if-not-is_dot.true in cc
          ]
      | else-not-is_dot w ↦ let clash = sym w.value-is ∙ c.if-has_lone_entry.true in cc
    ]
