use Rattle.std.proofs.Common.{rules, ◌≡◌, true, inl, inr, refl, IsTrue}
use Rattle.std.specs.Prelude.{slice_index_or, false}
use Rattle.icu_table_provider.specs.Reorderings.{lead_byte}
use Rattle.icu_table_provider.specs.well_formed.ElementConditions.{has_second_byte}
use Rattle.icu_table_check.proofs.check.entry_judge.TablesJudge.passes_primary.Goals as goal

pub returns-then-primary-eq0 : goal.returns-then-primary-eq0
returns-then-primary-eq0 c is = inl (search rules)

pub returns : goal.returns
returns c is =
    let second : IsTrue (has_second_byte c.args.primary) = search rules in
    let marked : slice_index_or c.args.self.now.leads (lead_byte c.args.primary) false ≡ true = search rules in
    inr (c.args.self.now.leads_pass (lead_byte c.args.primary) marked c.args.primary refl second)
