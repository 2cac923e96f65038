-- The word says what is kept: two less wraps for the words that name no facts.
use Rattle.std.proofs.Common.{ℕ, ◌≡◌, ◌<◌, ◌≤◌, ◌+◌, ◌-◌, ◌%◌, ◌^◌, slice_index_or, rules, arith, sym, subst}
use Rattle.icu_element_facts.specs.CharWords.{IsWord}
use Rattle.icu_element_facts.specs.KeptChars.{KeptChar}
use Rattle.icu_element_facts.specs.declared.char_facts.CharFacts.{CharFacts}
use Rattle.icu_element_facts.proofs.KeptLemmas.{known_facts}
use Rattle.icu_element_facts.proofs.char_words.CharWords.get.Goals as goal

pub returns-then-index-len : goal.returns-then-index-len
returns-then-index-len c = λ reading are.
    let t = c.args.self.now in
    let word = c.word-word.result in
    let index : ℕ = (word + 18446744073709551614) % 18446744073709551616 in
    let below : c.args.c < 0x110000 = search rules in
    let h : IsWord reading t.facts.items c.args.c word = subst (λ (w : ℕ). IsWord reading t.facts.items c.args.c w) (sym c.word-word.ensures) (are c.args.c below) in
    let inside : index < c.len.result = c.if-index-len.true in
    let small : c.len.result < 2 ^ 63 = omega (arith, c.len.ensures, t.facts.ok.1, t.facts.small) in
    let two : 2 ≤ word = omega (arith, inside, small, c.word-word.type_inv) in
    let same : index ≡ word - 2 = omega (arith, two, c.word-word.type_inv) in
    let at : (other : CharFacts) → KeptChar reading c.args.c (slice_index_or t.facts.items index other) =
    λ other. subst (λ (i : ℕ). KeptChar reading c.args.c (slice_index_or t.facts.items i other)) (sym same) (h.kept other two) in
    known_facts reading c.args.c c.index.result.now (subst (KeptChar reading c.args.c) (sym c.index.ensures) (at _))
