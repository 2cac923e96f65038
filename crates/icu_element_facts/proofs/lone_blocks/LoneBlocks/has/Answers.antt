-- Both tables have entries there that look at nothing.
use Rattle.std.proofs.Common.{◌+◌, ◌*◌}
use Rattle.icu_element_facts.proofs.LoneLemmas.{lone_entry}
use Rattle.icu_element_facts.proofs.lone_blocks.LoneBlocks.has.Goals as goal

pub returns-then-has : goal.returns-then-has
returns-then-has c = λ reading are yes k small late.
    lone_entry reading (64 * c.args.index + k) late (c.has.ensures reading.tables.root.value are.root c.if-has.true k small)
    (c.tailored_has.ensures reading.tables.tailoring are.tailoring yes k small)
