use Rattle.std.proofs.Common.{Option, Some, None, List, ℕ, option_map}
use Rattle.icu_index_keys.proofs.keyed_starts.StartBounds.{at_later_start, at_start, past_the_last}
use Rattle.icu_index_keys.proofs.keyed_starts.keyed_starts.KeyedStarts.bounds.Goals as goal

pub returns-then-number-eq0 : goal.returns-then-number-eq0
returns-then-number-eq0 c key =
    at_start key c.args.self.now.starts.items c.args.number _ c.if-number-eq0.true c.args.self.now.ascend c.key_at-upper.ensures

pub returns-in-Some : goal.returns-in-Some
returns-in-Some c key =
    at_later_start key c.args.self.now.starts.items c.args.number _ _ c.if-number-eq0.false c.args.self.now.ascend c.key_at-upper.ensures c.in-Some.ensures

pub returns-in-None : goal.returns-in-None
returns-in-None c key =
    past_the_last key c.args.self.now.starts.items c.args.number c.if-number-eq0.false c.args.self.now.ascend c.in-None.ensures
