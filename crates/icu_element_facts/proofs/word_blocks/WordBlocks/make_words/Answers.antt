-- Facts were added, and then the words of a block.
use Rattle.std.proofs.Common.{ℕ, List, ◌*◌, sym, subst}
use Rattle.icu_element_reading.specs.boundaries.BoundaryTables.{boundary_reading}
use Rattle.icu_element_facts.specs.inner.WordBlocks.{AreBlocks, AreWordsFrom}
use Rattle.icu_element_facts.specs.declared.char_facts.CharFacts.{CharFacts}
use Rattle.icu_element_facts.proofs.CharWordLemmas.{facts_added}
use Rattle.icu_element_facts.proofs.word_blocks.WordBlocks.make_words.Goals as goal

pub returns : goal.returns
returns c =
    let reading = boundary_reading c.args.places.now in
    let s = c.args.self.now in
    let w = c.in_ok-words.ensures.words in
    let new = c.words_from.new.facts.items in
    let grown : (made : AreBlocks reading s.blocks.items s.words.items s.facts.items) → AreBlocks reading s.blocks.items s.words.items new = λ made.
    subst (λ (fs : List CharFacts). AreBlocks reading s.blocks.items s.words.items fs) (sym w.added) (facts_added reading s.blocks.items s.words.items s.facts.items made w.more) in
    let are = subst (λ (ws : List ℕ). AreWordsFrom reading new (64 * c.args.index) ws) (sym c.as_slice.ensures.value) w.are in
    record {
      count = c.in_ok-push_words.ensures.count;
      made = λ made. c.in_ok-push_words.ensures.made reading (grown made) (subst (λ (n : ℕ). AreWordsFrom reading new (64 * n) c.as_slice.result.now) c.requires.place are);
    }
