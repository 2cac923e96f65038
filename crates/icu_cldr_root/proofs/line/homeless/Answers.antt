use Rattle.std.proofs.Common.{inr}
use Rattle.icu_cldr_root.proofs.line.homeless.Goals as goal

pub returns : goal.returns
returns c = λ text writes. inr (inr (c.args.mapping, writes, c.requires.first, c.requires.suffix, c.in-None.ensures))
