use Rattle.std.proofs.Common.{◌∙◌, ap, sym}
use Rattle.icu_order_levels.specs.Tertiaries.{tertiary_runs, tertiary_bytes}
use Rattle.icu_order_levels.specs.WeightBytes.{weight_bytes}
use Rattle.icu_key_writers.proofs.LevelWriting.{feeds_runs}
use Rattle.icu_key_writers.proofs.tertiaries.TertiaryWriter.push.Goals as goal

pub returns-then-whole-runs-clause-bytes : goal.returns-then-whole-runs-clause-bytes
returns-then-whole-runs-clause-bytes g c =
    let form = c.args.self.now.form in
    feeds_runs g.S.CollationKeySink.effects _ _ _ _ (tertiary_runs form) c.runs_of-runs.result (tertiary_bytes form) _ _ c.args.weight c.runs_of-runs.result.common _
    (sym c.runs_of-runs.ensures)
    (sym c.from-whole.ensures ∙ c.if-whole-runs.true)
    (c.write_common.ensures.bytes (tertiary_bytes form))

pub returns-else-whole-runs-clause-bytes : goal.returns-else-whole-runs-clause-bytes
returns-else-whole-runs-clause-bytes g c =
    let form = c.args.self.now.form in
    let w = c.from-whole.result in
    feeds_runs g.S.CollationKeySink.effects _ _ _ _ (tertiary_runs form) c.runs_of-runs.result (tertiary_bytes form) _ _ c.args.weight w _
    (sym c.runs_of-runs.ensures)
    (sym c.from-whole.ensures)
    (c.write_short.ensures.bytes (tertiary_bytes form)
    (ap (tertiary_bytes form) c.from-whole.ensures ∙ ap (weight_bytes 2) (sym c.moved-spelled.ensures)))
