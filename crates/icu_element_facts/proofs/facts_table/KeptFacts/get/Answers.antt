-- What is kept of a character is what is known of it.
use Rattle.std.proofs.Common.{◌≡◌, ◌+◌, ◌<◌, ℕ, length, slice_index_or, arith, sym, subst}
use Rattle.icu_element_facts.specs.KeptChars.{KeptChar}
use Rattle.icu_element_facts.specs.declared.char_facts.CharFacts.{CharFacts}
use Rattle.icu_element_facts.proofs.KeptLemmas.{known_facts}
use Rattle.icu_element_facts.proofs.facts_table.KeptFacts.get.Goals as goal

pub returns-then-code-lt896-clause-known : goal.returns-then-code-lt896-clause-known
returns-then-code-lt896-clause-known c = λ reading are.
    let facts = c.index.result.now in
    let latin = c.args.self.now.latin.items in
    let inside : c.args.c < length latin = omega (arith, c.if-code-lt896.true, c.args.self.now.latin_count) in
    let at : 0 + c.args.c ≡ c.args.c = omega arith in
    let kept = subst (λ (x : ℕ). KeptChar reading x (slice_index_or latin c.args.c facts)) at (are.latin c.args.c facts inside) in
    known_facts reading c.args.c facts (subst (λ (m : CharFacts). KeptChar reading c.args.c m) (sym c.index.ensures) kept)
