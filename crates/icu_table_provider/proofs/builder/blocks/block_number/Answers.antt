use Rattle.std.proofs.Common.{◌≡◌, ℕ, ◌≤◌, ◌+◌, ◌*◌, ◌/◌, List, length, sym, ◌∙◌, ap, subst}
use Rattle.icu_table_provider.specs.builder.Blocks.{block_at}
use Rattle.icu_table_provider.proofs.builder.BlockLemmas.{found_block, added_block}
use Rattle.icu_table_provider.proofs.builder.blocks.block_number.Goals as goal

pub returns-in-Some : goal.returns-in-Some
returns-in-Some c =
    let same = c.as_slice.ensures.value in
    let n = c.in-Some.found in
    found_block c.args.values.now.items c.args.block.now n c.requires.whole
    (subst (λ (vs : List ℕ). 64 * n + 64 ≤ length vs) same (c.in-Some.ensures.found).0)
    (ap (λ (vs : List ℕ). block_at vs n) (sym same) ∙ (c.in-Some.ensures.found).1)

pub returns : goal.returns
returns c =
    let same = c.as_slice.ensures.value in
    let is : c.len.result / 64 ≡ length c.args.values.now.items / 64 = ap (λ n. n / 64) (c.len.ensures ∙ c.args.values.now.ok.0) in
    rw c.in_ok-extend_from_slice.ensures.items
    (added_block c.args.values.now.items c.args.block.now (c.len.result / 64) c.requires.whole c.requires.block is
    (λ k inside equal. c.in_default.ensures.none k (subst (λ (vs : List ℕ). 64 * k + 64 ≤ length vs) (sym same) inside)
    (ap (λ (vs : List ℕ). block_at vs k) same ∙ equal)))
