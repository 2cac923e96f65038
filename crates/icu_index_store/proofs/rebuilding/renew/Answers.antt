use Rattle.std.proofs.Common.{◌≡◌, ◌∙◌, subst, arith}
use Rattle.icu_index_store.proofs.stored_rows.RenewalLemmas.{index_renewed}
use Rattle.icu_index_store.proofs.stored_rows.TransactionLemmas.{survives_both}
use Rattle.icu_index_store.specs.stored_rows.Renewals.{RenewsIndex}
use Rattle.sqlite.proofs.InsideLemmas.{keeps_then}
use Rattle.sqlite.specs.Held.{state}
use Rattle.sqlite.specs.State.{HasCleanDisk}
use Rattle.icu_collator.specs.Collators.{collation_borrowed}
use Rattle.icu_index_store.specs.StoreLaws.{stored_key}
use Rattle.icu_index_store.specs.Stores.{printed_collation}
use Rattle.icu_index_store.proofs.rebuilding.renew.Goals as goal

pub returns-clause-renews : goal.returns-clause-renews
returns-clause-renews g c = λ clean inside.
    let old = c.args.transaction.now.conn.now in
    let new = c.replace_fingerprint.new.transaction.conn.now in
    let remade : HasCleanDisk (state g.S.Store c.rekey_all.new.transaction.conn.now) = omega (arith, clean, c.in_ok-replace_fingerprint.ensures.survives.clean) in
    let found : HasCleanDisk (state g.S.Store c.fits.new.transaction.conn.now) = omega (arith, remade, c.in_ok-rekey_all.ensures.survives.clean) in
    let stays = c.in_ok-fits.ensures.stays found inside in
    let renewed = c.in_ok-rekey_all.ensures.renews remade stays.0 in
    let ran = c.in_ok-replace_fingerprint.ensures.runs clean renewed.0 in
    let same : collation_borrowed c.as_borrowed.result ≡ printed_collation c.args.collator.now = c.as_borrowed.ensures ∙ c.collator.ensures in
    let all = index_renewed g.S.Store (stored_key (collation_borrowed c.as_borrowed.result)) c.fingerprint.result.now c.args.wanted.now old c.fits.new.transaction.conn.now
    c.rekey_all.new.transaction.conn.now new c.in_ok-replace_fingerprint.field-0 stays.1 renewed.1 ran in
    (ran.1.mode, subst (λ x. RenewsIndex (stored_key x) (state g.S.Store old).now (state g.S.Store new).now) same all)

pub returns-in_err-rekey_all-clause-survives : goal.returns-in_err-rekey_all-clause-survives
returns-in_err-rekey_all-clause-survives g c = survives_both _ _ _ c.fits.ensures.survives c.rekey_all.ensures.survives

pub returns-in_err-replace_fingerprint-clause-kept : goal.returns-in_err-replace_fingerprint-clause-kept
returns-in_err-replace_fingerprint-clause-kept g c = λ clean inside.
    let remade : HasCleanDisk (state g.S.Store c.rekey_all.new.transaction.conn.now) = omega (arith, clean, c.replace_fingerprint.ensures.survives.clean) in
    let found : HasCleanDisk (state g.S.Store c.fits.new.transaction.conn.now) = omega (arith, remade, c.rekey_all.ensures.survives.clean) in
    let stays = c.in_ok-fits.ensures.stays found inside in
    let renewed = c.in_ok-rekey_all.ensures.renews remade stays.0 in
    keeps_then _ _ _ (keeps_then _ _ _ (c.fits.ensures.kept found inside) (c.rekey_all.ensures.kept remade stays.0)) (c.replace_fingerprint.ensures.kept clean renewed.0)

pub returns-in_err-replace_fingerprint-clause-survives : goal.returns-in_err-replace_fingerprint-clause-survives
returns-in_err-replace_fingerprint-clause-survives g c =
    survives_both _ _ _ (survives_both _ _ _ c.fits.ensures.survives c.rekey_all.ensures.survives) c.replace_fingerprint.ensures.survives

pub returns-clause-kept : goal.returns-clause-kept
returns-clause-kept g c = λ clean inside.
    let remade : HasCleanDisk (state g.S.Store c.rekey_all.new.transaction.conn.now) = omega (arith, clean, c.replace_fingerprint.ensures.survives.clean) in
    let found : HasCleanDisk (state g.S.Store c.fits.new.transaction.conn.now) = omega (arith, remade, c.rekey_all.ensures.survives.clean) in
    let stays = c.in_ok-fits.ensures.stays found inside in
    let renewed = c.in_ok-rekey_all.ensures.renews remade stays.0 in
    keeps_then _ _ _ (keeps_then _ _ _ (c.fits.ensures.kept found inside) (c.rekey_all.ensures.kept remade stays.0)) (c.replace_fingerprint.ensures.kept clean renewed.0)

pub returns-clause-survives : goal.returns-clause-survives
returns-clause-survives g c =
    survives_both _ _ _ (survives_both _ _ _ c.fits.ensures.survives c.rekey_all.ensures.survives) c.replace_fingerprint.ensures.survives
