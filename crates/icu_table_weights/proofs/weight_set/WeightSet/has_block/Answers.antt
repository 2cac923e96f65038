use Rattle.std.proofs.Common.{◌≡◌, ◌*◌, ◌/◌, ◌%◌, ℕ, List, get_or, sym, ap, ◌∙◌, arith}
use Rattle.icu_table_weights.specs.WeightSets.{page_of}
use Rattle.icu_table_weights.proofs.PageLemmas.{empty_block}
use Rattle.icu_table_weights.proofs.weight_set.WeightSet.has_block.Goals as goal

pub returns : goal.returns
returns c = λ h.
    let same : page_of c.args.self.now.pages.items (c.args.high / 256) ≡ c.page-words.result.now = ap (λ n. page_of c.args.self.now.pages.items (n / 256)) (sym c.from.ensures) ∙ sym c.page-words.ensures in
    empty_block c.args.self.now c.args.high (omega arith) (c.from-2.result % 256 * 4) (ap (λ n. n % 256 * 4) c.from-2.ensures)
    (λ k low high. ap (λ (ws : List ℕ). get_or ws k 0) same ∙ c.loop-place.invariant k low (omega (arith, high)))
