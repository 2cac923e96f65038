-- A pair that is found is one of them.
use Rattle.std.proofs.Common.{◌<◌, length, ℕ, sym, subst, arith}
use Rattle.icu_element_facts.specs.KeptPairs.{IsKeptOf, IsKeptPair}
use Rattle.icu_element_facts.proofs.kept_pairs.KeptPairs.get.Goals as goal

pub returns-then-pair-x : goal.returns-then-pair-x
returns-then-pair-x c = λ reading are.
    let p = c.index-pair.result.now in
    let pairs = c.args.self.now.pairs in
    let inside : c.of_slot.index < length pairs.items = omega (arith, c.if-index-len.false, c.len.ensures, pairs.ok.0) in
    let kept : IsKeptPair reading p = subst (IsKeptPair reading) (sym c.index-pair.ensures) (are c.of_slot.index p inside) in
    let second = subst (λ (d : ℕ). ∥ IsKeptOf reading p.first d p ∥₁) c.if-pair-x.true kept in
    subst (λ (d : ℕ). ∥ IsKeptOf reading d c.args.x p ∥₁) c.if-pair-c.true second
