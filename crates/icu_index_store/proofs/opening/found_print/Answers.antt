use Rattle.std.proofs.Common.{[], ◌∙◌, arith}
use Rattle.icu_index_store.proofs.stored_rows.RenewalLemmas.{index_made, index_read, shown_inside}
use Rattle.icu_index_store.proofs.stored_rows.ShownPrints.{found_bears}
use Rattle.icu_index_store.specs.stored_names.StatementTexts.{fingerprint_text}
use Rattle.sqlite.specs.Held.{state}
use Rattle.sqlite.specs.State.{HasCleanDisk}
use Rattle.icu_index_store.proofs.opening.found_print.Goals as goal

pub returns-clause-stays : goal.returns-clause-stays
returns-clause-stays g c = λ clean inside.
    let old = c.args.transaction.now.conn.now in
    let mid = c.make_tables.new.transaction.conn.now in
    let new = c.kept_fingerprint.new.transaction.conn.now in
    let early : HasCleanDisk (state g.S.Store mid) = omega (arith, clean, c.in_ok-kept.ensures.survives.clean) in
    let made = index_made g.S.Store old mid (c.in_ok-make_tables.ensures.runs early) in
    let shown = c.in_ok-kept.ensures.shown clean in (
      shown_inside fingerprint_text [] (state g.S.Store mid) (state g.S.Store new) shown.0 shown.1 ∙ (c.in_ok-make_tables.ensures.inside early ∙ inside),
      index_read g.S.Store old mid new shown.0 made shown.1,
    )

pub returns-clause-print : goal.returns-clause-print
returns-clause-print g c = λ clean inside.
    let old = c.args.transaction.now.conn.now in
    let mid = c.make_tables.new.transaction.conn.now in
    let new = c.kept_fingerprint.new.transaction.conn.now in
    let early : HasCleanDisk (state g.S.Store mid) = omega (arith, clean, c.in_ok-kept.ensures.survives.clean) in
    let made = index_made g.S.Store old mid (c.in_ok-make_tables.ensures.runs early) in
    let shown = c.in_ok-kept.ensures.shown clean in
    found_bears g.S.Store old mid new shown.0 c.in_ok-kept.kept made shown.1 shown.2
