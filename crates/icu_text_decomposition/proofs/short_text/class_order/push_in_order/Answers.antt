use Rattle.std.proofs.Common.{arith}
use Rattle.icu_text_decomposition.proofs.short_text.PartOrderLemmas.{parts_end}
use Rattle.icu_text_decomposition.proofs.short_text.class_order.push_in_order.Goals as goal

pub returns : goal.returns
returns g c = λ _. parts_end c.args.chars.now _ _ c.parts.at (omega (arith, c.parts-test.false)) c.parts.invariant.left
