use Rattle.std.proofs.Common.{◌+◌, subst}
use Rattle.icu_table_data.specs.StoredData.{data_of}
use Rattle.icu_table_data.specs.inner.BlockWalks.{WalkedTo}
use Rattle.icu_table_data.proofs.CharacterWalkLemmas.{walked_over}
use Rattle.icu_table_data.proofs.character_walk.visit_code.Goals as goal

pub returns-in_default-clause-visits : goal.returns-in_default-clause-visits
returns-in_default-clause-visits g c =
    walked_over g.V.Visit.after c.args.falls_back (data_of c.args.home) c.args.part _ c.args.code (λ is. absurd (c.in_default.ensures.value is))

pub returns-then-passes_over-clause-visits : goal.returns-then-passes_over-clause-visits
returns-then-passes_over-clause-visits g c =
    subst (λ n. WalkedTo g.V.Visit.after c.args.falls_back c.args.part (data_of c.args.home) (g.V.Visit.seen c.args.visitor.now) (g.V.Visit.seen c.args.visitor.now) n (n + 1))
    c.in-Some.ensures.value.1
    (walked_over g.V.Visit.after c.args.falls_back (data_of c.args.home) c.args.part _ c.in-Some.c (λ scalar. c.passes_over.ensures.none c.if-passes_over.true))
