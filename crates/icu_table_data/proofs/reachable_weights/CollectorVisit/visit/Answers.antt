use Rattle.std.proofs.Common.{rules, ◌≡◌, true, false, sym, ◌∙◌}
use Rattle.icu_table_entries.specs.Entries.{is_self_contained}
use Rattle.icu_table_data.specs.StoredData.{data_of}
use Rattle.icu_table_data.specs.inner.Visitors.{holds}
use Rattle.icu_table_data.proofs.SpelledLemmas.{passes_long_primary, spelled_collected}
use Rattle.icu_table_data.proofs.SpentLemmas.{where_walked}
use Rattle.icu_table_data.proofs.reachable_weights.CollectorVisit.visit.Goals as goal

pub returns-then-not-weighs_primaries : goal.returns-then-not-weighs_primaries
returns-then-not-weighs_primaries g c =
    let unweighed : c.weighs_primaries.result ≡ false = search rules in
    sym (passes_long_primary g.W.Weigh.weight c.args.self.now.weigh.now (c.weighs_primaries.ensures unweighed) (holds (g.H.HoldWeights.weights c.args.self.now.weights)) (data_of c.args.home) c.args.c c.args.entry
    (c.is_long_primary.ensures c.if-is_long_primary.true))

pub returns-then-is_self_contained : goal.returns-then-is_self_contained
returns-then-is_self_contained g c =
    let spelled : is_self_contained c.args.entry ≡ true = search rules in
    where_walked c.visit.result _ _
    (λ visited. visited ∙ sym (spelled_collected (data_of c.args.home) c.args.c c.args.entry spelled c.self_contained.result c.self_contained.ensures g.W.Weigh.weight (c.args.self.now.weigh.now, holds (g.H.HoldWeights.weights c.args.self.now.weights))))
    c.visit.ensures
