use Rattle.std.proofs.Common.{◌≡◌, ◌+◌, ◌-◌, ◌∙◌, ap, length, suc, sym, arith}
use Rattle.std.proofs.lemmas.Bool.Decides.{nat_tests}
use Rattle.icu_order_levels.specs.beginnings.KeyBeginnings.{least_above}
use Rattle.icu_order_levels.proofs.beginnings.AboveLemmas.{drops_last, one_value, raises_last}
use Rattle.icu_order_levels.proofs.beginnings.bytes_above.raise.Goals as goal

pub returns-then-index-lt255 : goal.returns-then-index-lt255
returns-then-index-lt255 c =
    let h = c.raising-test.ensures in
    let n = c.len-last.ensures in
    let ok = c.raising.bytes.ok.0 in
    let long : length c.raising.bytes.items ≡ suc (c.len-last.result - 1) = grind (arith, nat_tests) in
    let one = one_value c.raising.bytes.items (c.len-last.result - 1) c.index_mut.result.now c.index.result.now long c.index_mut.ensures.value c.index.ensures in
    c.raising.invariant
    ∙ raises_last c.raising.bytes.items (c.len-last.result - 1) c.index.result.now (c.index_mut.result.now + 1) long c.index.ensures
    c.if-index-lt255.true (ap (λ x. x + 1) one)

pub raising-preserved : goal.raising-preserved
raising-preserved c =
    let h = c.raising-test.ensures in
    let n = c.len-last.ensures in
    let ok = c.raising.bytes.ok.0 in
    let long : length c.raising.bytes.items ≡ suc (c.len-last.result - 1) = grind (arith, nat_tests) in
    c.raising.invariant
    ∙ (drops_last c.raising.bytes.items (c.len-last.result - 1) c.index.result.now long c.index.ensures c.if-index-lt255.false
    ∙ ap least_above (sym c.truncate.ensures.items))
