use Rattle.std.proofs.Common.{IfSome, arith, subst}
use Rattle.icu_index_store.proofs.stored_rows.RenewalLemmas.{index_printed}
use Rattle.icu_index_store.proofs.stored_rows.ShownPrints.{bears_then, stays_then}
use Rattle.icu_index_store.specs.stored_rows.StoredPrints.{BearsPrint}
use Rattle.sqlite.specs.Held.{state}
use Rattle.sqlite.specs.State.{HasCleanDisk}
use Rattle.icu_index_store.proofs.opening.fits.Goals as goal

pub returns-in-Some-2-clause-stays : goal.returns-in-Some-2-clause-stays
returns-in-Some-2-clause-stays g c = λ clean inside.
    let mid = c.keep_fingerprint.new.transaction.conn.now in
    let printed : HasCleanDisk (state g.S.Store mid) = omega (arith, clean, c.in_ok-kept-2.ensures.survives.clean) in
    let found : HasCleanDisk (state g.S.Store c.found_print.new.transaction.conn.now) = omega (arith, printed, c.in_ok-keep_fingerprint.ensures.survives.clean) in
    let stays = c.in_ok-kept.ensures.stays found inside in
    let ran = c.in_ok-keep_fingerprint.ensures.runs printed stays.0 in
    let old = c.args.transaction.now.conn.now in
    let kept = index_printed g.S.Store c.fingerprint.result.now c.args.wanted.now old c.found_print.new.transaction.conn.now mid c.in_ok-keep_fingerprint.field-0 stays.1 ran in
    let again = c.in_ok-kept-2.ensures.stays clean ran.1.mode in
    (again.0, stays_then g.S.Store old mid c.found_print-2.new.transaction.conn.now kept again.1)

pub returns-in-Some-2-clause-print : goal.returns-in-Some-2-clause-print
returns-in-Some-2-clause-print g c = λ clean inside same.
    let old = c.args.transaction.now.conn.now in
    let mid = c.keep_fingerprint.new.transaction.conn.now in
    let printed : HasCleanDisk (state g.S.Store mid) = omega (arith, clean, c.in_ok-kept-2.ensures.survives.clean) in
    let found : HasCleanDisk (state g.S.Store c.found_print.new.transaction.conn.now) = omega (arith, printed, c.in_ok-keep_fingerprint.ensures.survives.clean) in
    let stays = c.in_ok-kept.ensures.stays found inside in
    let ran = c.in_ok-keep_fingerprint.ensures.runs printed stays.0 in
    let new = c.found_print-2.new.transaction.conn.now in
    let kept = index_printed g.S.Store c.fingerprint.result.now c.args.wanted.now old c.found_print.new.transaction.conn.now mid c.in_ok-keep_fingerprint.field-0 stays.1 ran in
    let bears = subst (λ o. IfSome o (λ k. BearsPrint (state g.S.Store mid).now (state g.S.Store new).now k.fingerprint.items)) c.in-Some-2.is (c.in_ok-kept-2.ensures.print clean ran.1.mode) in
    subst (BearsPrint (state g.S.Store old).now (state g.S.Store new).now) (c.other_print-in-Some-2.ensures same)
    (bears_then g.S.Store old mid new c.in-Some-2.kept.fingerprint.items kept bears)
