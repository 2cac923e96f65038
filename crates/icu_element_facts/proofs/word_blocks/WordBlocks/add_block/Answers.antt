-- The next block is one that many share, or its words are made.
use Rattle.std.proofs.Common.{ℕ, ◌+◌, ◌*◌, ◌<◌, subst}
use Rattle.icu_element_reading.specs.boundaries.BoundaryTables.{boundary_reading}
use Rattle.icu_element_facts.specs.KeptFacts.{IsOwn}
use Rattle.icu_element_facts.proofs.word_blocks.WordBlocks.add_block.Goals as goal

pub returns-then-says_nothing : goal.returns-then-says_nothing
returns-then-says_nothing c = c.in_ok-push_nothing.ensures (boundary_reading c.args.places.now)

pub returns-then-is_own_block : goal.returns-then-is_own_block
returns-then-is_own_block c =
    let reading = boundary_reading c.args.places.now in
    record {
      count = c.in_ok-push_own.ensures.count;
      made = λ made.
          c.in_ok-push_own.ensures.made reading made
          (subst (λ (n : ℕ). (k : ℕ) → k < 64 → IsOwn reading (64 * n + k)) c.requires.place (c.is_own_block.ensures c.if-is_own_block.true));
    }
