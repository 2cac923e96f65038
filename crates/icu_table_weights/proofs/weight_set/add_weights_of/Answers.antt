use Rattle.std.proofs.Common.{◌+◌, ◌*◌, refl, arith}
use Rattle.icu_table_weights.specs.inner.Pages.{IsOfSetBit, IsOfWord}
use Rattle.icu_table_weights.proofs.PageLemmas.{adds_none, below_none, below_step, below_all, none_of_zero}
use Rattle.icu_table_weights.proofs.weight_set.add_weights_of.Goals as goal

pub returns-then-word-eq0 : goal.returns-then-word-eq0
returns-then-word-eq0 c = adds_none (IsOfWord c.args.word c.args.first) _ (λ w is. none_of_zero c.args.word c.args.first w c.if-word-eq0.true is)

pub loop-bit-init : goal.loop-bit-init
loop-bit-init c = below_none _ _ 0 refl

pub loop-bit-preserved : goal.loop-bit-preserved
loop-bit-preserved c = below_step (λ bit. IsOfSetBit c.args.word bit (c.args.first + bit * 256)) _ _ _ c.loop-bit.bit c.loop-bit.invariant c.in_ok-add_weight_of.ensures

pub returns : goal.returns
returns c = below_all (λ bit. IsOfSetBit c.args.word bit (c.args.first + bit * 256)) _ _ c.loop-bit.bit 64 (omega arith) c.loop-bit.invariant
