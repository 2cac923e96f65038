use Rattle.std.proofs.Common.{◌≡◌, ◌∙◌, sym, subst, rules}
use Rattle.std.specs.Char.{IsScalar}
use Rattle.icu_table_entries.specs.declared.entry.EntryKind.TheVariants.{Prefix}
use Rattle.icu_table_entries.specs.Entries.{kind_of}
use Rattle.icu_table_data.specs.Reachable.{reachable_contraction, reachable_from}
use Rattle.icu_table_data.specs.StoredData.{data_of}
use Rattle.icu_table_data.proofs.ReachLemmas.{isnt_prefix, contraction_is, contraction_within}
use Rattle.icu_table_data.proofs.SpentLemmas.{known_itself, spent_none, spent_contraction, spent_same, spent_remembered}
use Rattle.icu_table_data.proofs.WalkLemmas.{on_ok}
use Rattle.icu_table_data.proofs.block_walk.visit_new_contraction.Goals as goal

pub returns-then-has : goal.returns-then-has
returns-then-has g c =
    spent_none g.V.Visit.after c.args.falls_back (data_of c.args.home) _ _ _
    (λ f has shared. known_itself (data_of c.args.home) c.args.seen.now c.args.bits f (c.has.ensures c.if-has.true) (contraction_within (data_of c.args.home) c.args.bits f has))

pub returns-then-is_prefix : goal.returns-then-is_prefix
returns-then-is_prefix g c =
    let scalar : IsScalar c.args.c = search rules in
    on_ok _ _ (spent_contraction g.V.Visit.after c.args.falls_back (data_of c.args.home) _ _ _ c.args.c c.args.bits _ c.new-entry.ensures scalar c.requires) _ c.visit_contraction.ensures

pub returns : goal.returns
returns g c =
    let scalar : IsScalar c.args.c = search rules in
    let kind : kind_of c.new-entry.result ≡ Prefix → ⊥ = isnt_prefix (kind_of c.new-entry.result) (sym c.is_prefix.ensures ∙ c.if-is_prefix.false) in
    let other : kind_of c.args.bits ≡ Prefix → ⊥ = subst (λ e. kind_of e ≡ Prefix → ⊥) c.new-entry.ensures kind in
    let same : reachable_contraction (data_of c.args.home) c.args.bits ≡ reachable_from (data_of c.args.home) c.args.bits = contraction_is (data_of c.args.home) c.args.bits other in
    spent_same g.V.Visit.after c.args.falls_back (data_of c.args.home) _ _ _ _ _ _ (sym same)
    (spent_remembered g.V.Visit.after c.args.falls_back (data_of c.args.home) _ _ _ _ _ c.args.bits c.remember.ensures
    (spent_same g.V.Visit.after c.args.falls_back (data_of c.args.home) _ _ _ _ _ _ same
    (spent_contraction g.V.Visit.after c.args.falls_back (data_of c.args.home) _ _ _ c.args.c c.args.bits _ c.new-entry.ensures scalar c.requires c.in_ok-visit_contraction.ensures)))
