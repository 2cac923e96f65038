use Rattle.std.proofs.Common.{ℕ, ◌^◌, ◌<◌, List, get_or, rules}
use Rattle.std.proofs.lemmas.List.Elements.{All-weaker, All-from_get_or}
use Rattle.icu_rule_weights.specs.inner.LeadUses.{IsUsedBy, IsWrittenBy}
use Rattle.icu_rule_weights.proofs.LeadUseLemmas.{used_kept, written_from_used}
use Rattle.icu_rule_weights.proofs.level_numbers.uses_with_room.Goals as goal

pub loop-gap-preserved : goal.loop-gap-preserved
loop-gap-preserved c = λ root.
    All-weaker (IsUsedBy c.loop-gap.uses) (IsUsedBy c.make_room.new.uses)
    (λ w. used_kept c.loop-gap.uses c.make_room.new.uses w c.make_room.ensures) c.args.root.now (c.loop-gap.invariant root)

pub returns : goal.returns
returns c = λ root. All-from_get_or (IsWrittenBy c.loop-gap.uses) c.args.root.now 0 (λ k l.
    let ws : List ℕ = c.args.root.now in
    let short : get_or ws k 0 < 2 ^ 16 = search rules in
    written_from_used c.loop-gap.uses (get_or ws k 0) short (c.loop-gap.invariant root k 0 l))
