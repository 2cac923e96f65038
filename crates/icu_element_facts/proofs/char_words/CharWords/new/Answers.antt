-- No block is made yet.
use Rattle.icu_element_reading.specs.boundaries.BoundaryTables.{boundary_reading}
use Rattle.icu_element_facts.proofs.char_words.CharWords.new.Goals as goal

pub loop-index-init : goal.loop-index-init
loop-index-init c = (c.in_ok-made.ensures.count, c.in_ok-made.ensures.made (boundary_reading c.args.places.now))
