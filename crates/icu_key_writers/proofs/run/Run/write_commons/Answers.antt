use Rattle.std.proofs.Common.{[], refl}
use Rattle.icu_key_writers.proofs.CommonSteps.{commons_counted}
use Rattle.icu_key_writers.proofs.run.Run.write_commons.Goals as goal

pub returns-then-more-from-clause-bytes : goal.returns-then-more-from-clause-bytes
returns-then-more-from-clause-bytes g c = λ spell. record {
  front = [];
  taken = g.met.S.CollationKeySink.took_nothing _ _ c.requires.sound;
  leaves = λ ws. commons_counted c.args.runs.now spell c.args.self.now.length c.args.more _ ws refl;
}
