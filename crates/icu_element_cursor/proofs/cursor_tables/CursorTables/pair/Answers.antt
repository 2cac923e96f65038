-- What is kept of a pair serves.
use Rattle.std.proofs.Math.Logic.{∥∥₁_elim}
use Rattle.icu_element_facts.specs.KeptPairs.{IsKeptOf}
use Rattle.icu_element_cursor.specs.Cursors.{cursor_reading}
use Rattle.icu_element_cursor.specs.inner.Standing.{PairServes}
use Rattle.icu_element_cursor.proofs.ReadPairLemmas.{PairServes-prop, pair_serves}
use Rattle.icu_element_cursor.proofs.StandLemmas.{found}
use Rattle.icu_element_cursor.proofs.cursor_tables.CursorTables.pair.Goals as goal

pub returns : goal.returns
unfolding cursor_reading
returns c =
    let reading = cursor_reading c.args.self.now in
    let first = c.args.c in
    let second = c.args.x in
    found c.args.self.now.facts_by c.pair.result
    (λ p. ∥ IsKeptOf reading first second p.now ∥₁) (λ p. PairServes reading first second p.now)
    (λ p. PairServes-prop reading first second p.now)
    (λ p h. ∥∥₁_elim h (PairServes-prop reading first second p.now) (pair_serves reading first second p.now)) (c.pair.ensures reading)
