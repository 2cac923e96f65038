use Rattle.std.proofs.Common.{[], sym}
use Rattle.icu_order_levels.specs.Tertiaries.{tertiary_runs, tertiary_bytes}
use Rattle.icu_key_writers.proofs.LevelWriting.{writes_runs}
use Rattle.icu_key_writers.proofs.tertiaries.TertiaryWriter.close.Goals as goal

pub returns-clause-bytes : goal.returns-clause-bytes
returns-clause-bytes g c =
    let form = c.args.self.form in
    writes_runs g.S.CollationKeySink.effects _ _ _ _ (tertiary_runs form) c.runs_of-runs.result (tertiary_bytes form) c.args.self.run.length [] _
    (sym c.runs_of-runs.ensures)
    (c.write_end.ensures.bytes (tertiary_bytes form))
