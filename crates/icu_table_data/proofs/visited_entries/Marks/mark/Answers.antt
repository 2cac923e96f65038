use Rattle.std.proofs.Common.{rules, ◌<◌, ◌/◌, length}
use Rattle.icu_table_data.proofs.VisitedLemmas.{one_marked}
use Rattle.icu_table_data.proofs.visited_entries.Marks.mark.Goals as goal

pub returns : goal.returns
returns c =
    let inside : c.args.index / 64 < length c.args.self.now.words = search rules in
    one_marked c.args.self.now.words c.args.index inside
