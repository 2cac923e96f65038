-- No character has a word yet.
use Rattle.std.proofs.Common.{◌≡◌, ◌++◌, List, ℕ, replicate, ap, ◌∙◌}
use Rattle.icu_element_facts.proofs.CharWordLemmas.{two_blocks}
use Rattle.icu_element_facts.proofs.word_blocks.WordBlocks.new.Goals as goal

pub returns-clause-made : goal.returns-clause-made
returns-clause-made c = λ reading.
    let first : c.extend_from_slice.new.self.items ≡ replicate 64 0 = c.in_ok-extend_from_slice.ensures.items ∙ ap (λ (l : List ℕ). l ++ replicate 64 0) c.new-words.ensures.items in
    let both : c.extend_from_slice-2.new.self.items ≡ replicate 64 0 ++ replicate 64 1 = c.in_ok-extend_from_slice-2.ensures.items ∙ ap (λ (l : List ℕ). l ++ replicate 64 1) first in
    two_blocks reading c.in_ok-blocks.blocks.items c.extend_from_slice-2.new.self.items c.new.result.items c.in_ok-blocks.ensures.items both
