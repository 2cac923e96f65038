-- The block of one more character is marked.
use Rattle.std.proofs.Common.{◌≡◌, ◌<◌, ◌/◌, ◌+◌, ◌∙◌, ℕ, true, length, get_or, set, sym, subst, arith, rules}
use Rattle.std.proofs.lemmas.List.{length-set, get_or_read}
use Rattle.icu_table_provider.specs.inner.NamedBlocks.{AreFirstInBlocks}
use Rattle.icu_table_provider.proofs.well_formed.NamedLemmas.{one_more_in_blocks}
use Rattle.icu_table_provider.proofs.well_formed.named_characters.blocks_of.Goals as goal

pub loop-c-preserved : goal.loop-c-preserved
loop-c-preserved c =
    let chars = c.args.chars.now in
    let blocks = c.loop-c.blocks.items in
    let at = c.loop-c.c-index in
    let item : c.c-item.result ≡ get_or chars at 0 = get_or_read chars at c.c-item.result (omega (arith, c.loop-c-test.true)) c.c-item.is 0 in
    let small : c.c-item.result / 64 < 17408 = search rules in (
      length-set blocks (c.c-item.result / 64) true ∙ c.loop-c.invariant.0,
      subst (λ (y : ℕ). AreFirstInBlocks (at + 1) chars (set blocks (y / 64) true)) (sym item)
          (one_more_in_blocks at chars blocks c.loop-c.invariant.1
          (subst (λ (y : ℕ). y / 64 < length blocks) item (subst (λ (n : ℕ). c.c-item.result / 64 < n) (sym c.loop-c.invariant.0) small))),
    )
