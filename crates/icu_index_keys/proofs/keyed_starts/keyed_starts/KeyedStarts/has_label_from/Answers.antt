use Rattle.std.proofs.Common.{◌<◌, ◌||◌, ◌+◌, ◌∙◌, ap, arith, drop, length, sym}
use Rattle.icu_index_keys.proofs.keyed_starts.StartLemmas.{label_here}
use Rattle.icu_index_keys.specs.keyed_starts.Starts.{has_label, starts_in}
use Rattle.icu_index_keys.proofs.keyed_starts.keyed_starts.KeyedStarts.has_label_from.Goals as goal

pub returns-then-index : goal.returns-then-index
returns-then-index c =
    let low : c.looking.at < length c.args.self.now.starts.items = omega (arith, c.looking-test.true, c.len.ensures, c.args.self.now.starts.ok.0) in
    ap (λ b. b || has_label (drop (c.looking.at + 1) (starts_in c.args.self.now))) (sym c.if-index.true)
    ∙ (sym (label_here c.args.self.now.starts.items c.looking.at c.index.result.now low c.index.ensures) ∙ c.looking.invariant)

pub looking-preserved : goal.looking-preserved
looking-preserved c =
    let low : c.looking.at < length c.args.self.now.starts.items = omega (arith, c.looking-test.true, c.len.ensures, c.args.self.now.starts.ok.0) in
    ap (λ b. b || has_label (drop (c.looking.at + 1) (starts_in c.args.self.now))) (sym c.if-index.false)
    ∙ (sym (label_here c.args.self.now.starts.items c.looking.at c.index.result.now low c.index.ensures) ∙ c.looking.invariant)
