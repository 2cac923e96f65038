use Rattle.std.proofs.Common.{◌≡◌, OnOk, subst}
use Rattle.icu_table_data.specs.StoredData.{data_of}
use Rattle.icu_table_data.proofs.character_walk.visit_with.Goals as goal

pub returns-in-Some : goal.returns-in-Some
returns-in-Some g c =
    subst (λ k. OnOk c.visit.result (g.V.Visit.seen c.visit.new.self ≡ g.V.Visit.after (g.V.Visit.seen c.args.visitor.now) (data_of c.args.home) k c.args.entry)) c.in-Some.ensures.value.1 c.visit.ensures

pub returns-in-None : goal.returns-in-None
returns-in-None g c = absurd (c.in-None.ensures.value c.requires)
