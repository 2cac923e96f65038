use Rattle.std.proofs.Common.{OnOk, sym, subst}
use Rattle.icu_table_provider.specs.TableSets.{tables_in}
use Rattle.icu_table_check.specs.inner.ComparedWeights.{Adds, IsWeightBy}
use Rattle.icu_table_check.proofs.check.collecting.collect.Goals as goal

pub returns-in-Root : goal.returns-in-Root
returns-in-Root g c = subst (λ t. OnOk c.collect_root.result (Adds (IsWeightBy c.args.list t (tables_in c.args.tables).tables) (g.H.HoldWeights.weights c.args.weights.now) (g.H.HoldWeights.weights c.collect_root.new.weights))) (sym c.in-Root.is) c.collect_root.ensures

pub returns-in-Jamo : goal.returns-in-Jamo
returns-in-Jamo g c = subst (λ t. OnOk c.collect_jamo.result (Adds (IsWeightBy c.args.list t (tables_in c.args.tables).tables) (g.H.HoldWeights.weights c.args.weights.now) (g.H.HoldWeights.weights c.collect_jamo.new.weights))) (sym c.in-Jamo.is) c.collect_jamo.ensures

pub returns-in-Tailoring : goal.returns-in-Tailoring
returns-in-Tailoring g c = subst (λ t. OnOk c.collect_tailoring.result (Adds (IsWeightBy c.args.list t (tables_in c.args.tables).tables) (g.H.HoldWeights.weights c.args.weights.now) (g.H.HoldWeights.weights c.collect_tailoring.new.weights))) (sym c.in-Tailoring.is) c.collect_tailoring.ensures

pub returns-in-Diacritics : goal.returns-in-Diacritics
returns-in-Diacritics g c = subst (λ t. OnOk c.collect_diacritics.result (Adds (IsWeightBy c.args.list t (tables_in c.args.tables).tables) (g.H.HoldWeights.weights c.args.weights.now) (g.H.HoldWeights.weights c.collect_diacritics.new.weights))) (sym c.in-Diacritics.is) c.collect_diacritics.ensures
