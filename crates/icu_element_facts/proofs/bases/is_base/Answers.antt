use Rattle.std.proofs.Common.{ap, sym, ◌∙◌, ◌∷◌, []}
use Rattle.icu_element_reading.proofs.boundaries.CutLemmas.{boundary_start}
use Rattle.icu_element_reading.specs.boundaries.BoundaryTables.{boundary_reading}
use Rattle.icu_element_facts.proofs.KeptBaseLemmas.{forgets_before, one_item}
use Rattle.icu_element_facts.proofs.bases.is_base.Goals as goal

pub returns-in-len1 : goal.returns-in-len1
returns-in-len1 c = λ yes.
    let split = sym c.decomposition.ensures.value ∙ one_item _ c.itself-item.result _ c.in-len1.len_at_least c.in-len1.len_below c.itself-item.is ∙ ap (λ x. x ∷ []) c.if-itself-c.true in
    forgets_before (boundary_reading c.args.places.now) c.args.c split (c.begins_contractions.ensures yes)

pub returns-then-facts : goal.returns-then-facts
returns-then-facts c = λ _ before.
    let s = c.requires.boundary c.if-facts.true in
    boundary_start (boundary_reading c.args.places.now) c.args.c s.first s.more [] s.decomposes s.boundary before []
