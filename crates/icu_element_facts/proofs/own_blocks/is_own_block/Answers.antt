-- A plain block that no mapping names, by its entries.
use Rattle.std.proofs.Common.{sym, ◌∙◌}
use Rattle.std.proofs.lemmas.Bool.{not-true}
use Rattle.icu_element_reading.specs.boundaries.BoundaryTables.{boundary_reading}
use Rattle.icu_element_facts.proofs.OwnLemmas.{own_block}
use Rattle.icu_element_facts.proofs.PlainLemmas.{plain_block}
use Rattle.icu_element_facts.proofs.own_blocks.is_own_block.Goals as goal
use Rattle.icu_element_facts.proofs.own_blocks.is_own_block.Goals.{then-is_plain_block, else-is_plain_block}

pub returns-then-has : goal.returns-then-has
returns-then-has c = λ unnamed.
    let reading = boundary_reading c.args.places.now in
    elim c.if-is_plain_block.branch [
      | then-is_plain_block w ↦
          own_block reading c.args.index (plain_block c.args.index (sym c.is_plain_block.ensures ∙ w.if-is_plain_block.true))
          (w.has.ensures reading c.requires.lone (sym w.value-is ∙ c.if-has.true))
          (c.may_name_in_block.ensures (not-true _ unnamed))
      | else-is_plain_block w ↦ let clash = sym w.value-is ∙ c.if-has.true in cc
    ]
