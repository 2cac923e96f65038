-- The first block has words of own characters.
use Rattle.std.proofs.Common.{◌≡◌, ℕ, ◌+◌, ◌*◌, ◌∙◌, ap, length, slice_index, sym, subst, arith}
use Rattle.icu_element_facts.specs.CharWords.{IsWord}
use Rattle.icu_element_facts.proofs.CharWordLemmas.{own_word}
use Rattle.icu_element_facts.proofs.word_blocks.WordBlocks.push_own.Goals as goal

pub returns-clause-made : goal.returns-clause-made
returns-clause-made c = λ reading made own.
    let s = c.args.self.now in
    c.in_ok-push_number.ensures.made reading made (omega (arith, made.two))
    (λ k small.
    let x = 64 * length s.blocks.items + k in
    let at : 64 * 0 + k ≡ k = omega arith in
    subst (λ (w : ℕ). IsWord reading s.facts.items x w) (sym (ap (λ i. slice_index s.words.items i) at ∙ made.zeros k small)) (own_word reading s.facts.items x (own k small)))
