use Rattle.std.proofs.Common.{sym}
use Rattle.icu_order_levels.specs.Tertiaries.{tertiary_runs, tertiary_bytes}
use Rattle.icu_key_writers.proofs.LevelWriting.{feeds_commons}
use Rattle.icu_key_writers.proofs.tertiaries.TertiaryWriter.push_commons.Goals as goal

pub returns-clause-bytes : goal.returns-clause-bytes
returns-clause-bytes g c =
    let form = c.args.self.now.form in
    feeds_commons g.S.CollationKeySink.effects _ _ _ _ (tertiary_runs form) c.runs_of-runs.result (tertiary_bytes form) _ _ c.args.more _
    (sym c.runs_of-runs.ensures)
    (c.write_commons.ensures.bytes (tertiary_bytes form))
