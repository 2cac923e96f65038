-- The second block has words that say nothing.
use Rattle.std.proofs.Common.{ℕ, ◌+◌, ◌*◌, length, sym, subst, arith}
use Rattle.icu_element_facts.specs.CharWords.{IsWord}
use Rattle.icu_element_facts.proofs.CharWordLemmas.{no_word}
use Rattle.icu_element_facts.proofs.word_blocks.WordBlocks.push_nothing.Goals as goal

pub returns : goal.returns
returns c = λ reading.
    let s = c.args.self.now in
    record {
      count = c.in_ok-push_number.ensures.count;
      made = λ made.
          c.in_ok-push_number.ensures.made reading made (omega (arith, made.two))
          (λ k small. let x = 64 * length s.blocks.items + k in subst (λ (w : ℕ). IsWord reading s.facts.items x w) (sym (made.ones k small)) (no_word reading s.facts.items x));
    }
