use Rattle.std.proofs.Common.{sym, refl, rules, arith}
use Rattle.icu_cldr_files.proofs.xml.attributes.is_among.Goals as goal

pub returns-then-eq : goal.returns-then-eq
returns-then-eq c = ((λ _. (c.loop-other.other-index, c.other-item.result, omega arith, sym c.other-item.is, search rules)), (λ _. refl))
