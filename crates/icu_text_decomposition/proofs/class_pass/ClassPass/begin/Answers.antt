use Rattle.std.proofs.Common.{◌<◌, arith}
use Rattle.icu_text_decomposition.proofs.PassLemmas.{next_class, pass_anew}
use Rattle.icu_text_decomposition.proofs.class_pass.ClassPass.begin.Goals as goal

pub returns-clause-pass : goal.returns-clause-pass
returns-clause-pass g c = let small : c.args.class < 256 = omega arith in pass_anew _ _ _ c.args.class _ c.requires.pass small

pub returns-clause-left : goal.returns-clause-left
returns-clause-left g c = let small : c.args.class < 256 = omega arith in next_class _ _ _ c.args.class _ c.requires.pass c.requires.end c.requires.next small
