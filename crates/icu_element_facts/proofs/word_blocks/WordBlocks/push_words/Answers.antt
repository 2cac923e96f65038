-- Words of a block, whether they are stored already, are added, or have no room.
use Rattle.std.proofs.Common.{◌≡◌, ◌==◌, eqb-true, ℕ, List, ◌+◌, ◌*◌, ◌++◌, ◌/◌, ◌∙◌, rules, ap, length, length-append, slice_index, sym, subst, arith}
use Rattle.std.proofs.lemmas.List.{get_or-append-add}
use Rattle.icu_element_facts.specs.CharWords.{IsWord}
use Rattle.icu_element_facts.specs.inner.WordBlocks.{AreBlocks}
use Rattle.icu_element_facts.proofs.LoneLemmas.{all_at}
use Rattle.icu_element_facts.proofs.CharWordLemmas.{no_word, words_added}
use Rattle.icu_element_facts.proofs.word_blocks.WordBlocks.push_words.Goals as goal

pub returns-then-are_own-clause-made : goal.returns-then-are_own-clause-made
returns-then-are_own-clause-made c = λ reading made are.
    let s = c.args.self.now in
    c.in_ok-push_number.ensures.made reading made (omega (arith, made.two))
    (λ k small.
    let x = 64 * length s.blocks.items + k in
    let at : 64 * 0 + k ≡ k = omega arith in
    let zero : slice_index c.args.words.now k ≡ 0 = eqb-true _ 0 (all_at (λ (w : ℕ). w == 0) c.args.words.now k 0 (sym c.are_own.ensures ∙ c.if-are_own.true) (omega (arith, small, c.requires))) in
    subst (λ (w : ℕ). IsWord reading s.facts.items x w) (zero ∙ sym (ap (λ i. slice_index s.words.items i) at ∙ made.zeros k small)) (are k (omega (arith, small, c.requires))))

pub returns-then-number-gt65535-clause-made : goal.returns-then-number-gt65535-clause-made
returns-then-number-gt65535-clause-made c = λ reading made are.
    let s = c.args.self.now in
    c.in_ok-push_number-2.ensures.made reading made (omega (arith, made.two))
    (λ k small. let x = 64 * length s.blocks.items + k in subst (λ (w : ℕ). IsWord reading s.facts.items x w) (sym (made.ones k small)) (no_word reading s.facts.items x))

pub returns-clause-made : goal.returns-clause-made
returns-clause-made c = λ reading made are.
    let s = c.args.self.now in
    let blocks = s.blocks.items in
    let words = s.words.items in
    let facts = s.facts.items in
    let more = c.args.words.now in
    let mid = c.extend_from_slice.new.self.items in
    let appended : mid ≡ words ++ more = c.in_ok-extend_from_slice.ensures.items in
    let at : c.len-number.result ≡ length words = search rules in
    let number = c.len-number.result / 64 in
    let whole : 64 * number ≡ length words = omega (arith, at, made.whole) in
    let count = ap length appended ∙ length-append words more in
    let longer : AreBlocks reading blocks mid facts = subst (λ (ws : List ℕ). AreBlocks reading blocks ws facts) (sym appended) (words_added reading blocks words facts made more c.requires) in
    c.in_ok-push_number-3.ensures.made reading longer (omega (arith, whole, count, c.requires))
    (λ k small.
    let x = 64 * length blocks + k in
    let place : 64 * number + k ≡ length words + k = omega (arith, whole) in
    let here : slice_index mid (64 * number + k) ≡ slice_index more k =
    ap (λ (ws : List ℕ). slice_index ws (64 * number + k)) appended ∙ ap (λ i. slice_index (words ++ more) i) place ∙ get_or-append-add words more k 0 in
    subst (λ (w : ℕ). IsWord reading facts x w) (sym here) (are k (omega (arith, small, c.requires))))
