use Rattle.std.proofs.Common.{◌++◌, ◌∙◌, sym, ap, append_assoc, option_to_list}
use Rattle.icu_order_levels.specs.Runs.{level_bytes}
use Rattle.icu_order_levels.specs.WeightBytes.{weight_bytes}
use Rattle.icu_key_writers.proofs.RunSteps.{other_level}
use Rattle.icu_key_writers.proofs.Writing.{feeds_writes}
use Rattle.icu_key_writers.proofs.run.Run.write_long.Goals as goal

pub returns-clause-bytes : goal.returns-clause-bytes
returns-clause-bytes g c = λ spell same.
    let last = option_to_list c.end-last.result in
    let first = option_to_list c.args.first in
    let bytes = weight_bytes 4 c.args.spelled in
    feeds_writes g.S.CollationKeySink.effects _ _ _ _ ((last ++ first) ++ bytes) _ _ _
    (λ ws. other_level c.args.runs.now spell c.args.self.now.length c.args.weight c.end-last.new.self.length ws last (first ++ bytes) c.requires.other c.end-last.ensures.bytes same c.end-last.ensures.empty
    ∙ ap (λ l. l ++ level_bytes c.args.runs.now spell c.end-last.new.self.length ws) (sym (append_assoc last first bytes)))
    c.write_long_after.ensures.bytes
