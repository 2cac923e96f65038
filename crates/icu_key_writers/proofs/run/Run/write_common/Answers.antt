use Rattle.std.proofs.Common.{◌∙◌, refl, option_to_list}
use Rattle.icu_order_levels.proofs.LevelOrder.{level_common}
use Rattle.icu_key_writers.proofs.Writing.{feeds_writes}
use Rattle.icu_key_writers.proofs.run.Run.write_common.Goals as goal

pub returns-clause-bytes : goal.returns-clause-bytes
returns-clause-bytes g c = λ spell.
    feeds_writes g.S.CollationKeySink.effects _ _ _ _ (option_to_list c.count-due.result) _ _ _
    (λ ws. level_common c.args.runs.now spell c.args.self.now.length c.args.runs.now.common ws refl ∙ c.count-due.ensures.bytes spell ws)
    c.write_optional.ensures.bytes
