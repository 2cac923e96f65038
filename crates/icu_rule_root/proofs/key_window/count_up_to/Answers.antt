-- Keys ascend without the weights below a level too.
use Rattle.std.proofs.Common.{leb, leb-true, leb-false, rules, arith}
use Rattle.std.proofs.lemmas.List.Sorted.{IsPartitionPoint-from_clause, IsPartitionedBy-leb}
use Rattle.icu_rule_root.specs.inner.KeyWindows.{key_to}
use Rattle.icu_rule_root.proofs.KeyPlaceLemmas.{keys_rise}
use Rattle.icu_rule_root.proofs.key_window.count_up_to.Goals as goal

pub returns : goal.returns
returns c =
    let parted = IsPartitionedBy-leb (key_to c.args.level) _ c.args.most (keys_rise c.args.level c.args.keys.now c.requires) in
    let point = IsPartitionPoint-from_clause (λ k. leb (key_to c.args.level k) c.args.most) _ _ c.partition_point.ensures.partitioned parted (λ a r q k. search rules) in
    record {
      inside = c.partition_point.ensures.bound;
      before = λ i h. leb-true _ _ (point.0 i 0 (omega arith) h);
      behind = λ i from inside. leb-false _ _ (point.1 i 0 from inside);
    }
