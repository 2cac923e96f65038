-- The block with the number is that of 64 characters more.
use Rattle.std.proofs.Common.{ℕ, List, sym, subst}
use Rattle.icu_element_facts.specs.inner.WordBlocks.{AreBlocks}
use Rattle.icu_element_facts.proofs.CharWordLemmas.{block_added}
use Rattle.icu_element_facts.proofs.word_blocks.WordBlocks.push_number.Goals as goal

pub returns-clause-made : goal.returns-clause-made
returns-clause-made c = λ reading made fits is.
    let s = c.args.self.now in
    subst (λ (bs : List ℕ). AreBlocks reading bs s.words.items s.facts.items) (sym c.in_ok-push.ensures.items)
    (block_added reading s.blocks.items s.words.items s.facts.items made c.args.number fits is)
