-- A fingerprint has 32 bytes, which are copied to the front of the room.
use Rattle.std.proofs.Common.{rules, ◌≡◌, ◌≤◌, length, drop, sym, ap, ◌∙◌, subst}
use Rattle.std.proofs.lemmas.List.{length-take-le, take_at}
use Rattle.icu_table_files.specs.fingerprint.FormLaws.{HasFingerprint}
use Rattle.icu_options.specs.Settings.{Settings}
use Rattle.icu_table_provider.specs.CollatorTables.{CollatorTables}
use Rattle.icu_order_texts.specs.weighting.Collations.{Collation}
use Rattle.icu_order_texts.specs.weighting.CheckedCollations.{collation_of}
use Rattle.collate_c.specs.Openings.{collation_held}
use Rattle.collate_c.proofs.written_keys.write_fingerprint.Goals as goal

abbrev collation_with : CollatorTables → Settings → Collation
collation_with t s = record { tables = t; settings = s }

pub copy_from_slice-requires : goal.copy_from_slice-requires
copy_from_slice-requires c =
    let many : length c.fingerprint_by-digest.result ≡ 32 = search rules in
    let inside : 32 ≤ length c.args.out.now = search rules in
    length-take-le 32 c.args.out.now inside ∙ sym many

pub returns-clause-written : goal.returns-clause-written
returns-clause-written c _ =
    let many : length c.fingerprint_by-digest.result ≡ 32 = search rules in
    let digest : HasFingerprint (collation_of c.checked_tables.result.now c.settings.result) c.fingerprint_by-digest.result = c.fingerprint_by-digest.ensures in
    let tables : (collation_of c.checked_tables.result.now c.settings.result).tables ≡ (collation_held c.args.session.now).tables = search rules in
    let settings : (collation_of c.checked_tables.result.now c.settings.result).settings ≡ (collation_held c.args.session.now).settings = search rules in
    let same : collation_of c.checked_tables.result.now c.settings.result ≡ collation_held c.args.session.now =
    ap (λ t. collation_with t (collation_of c.checked_tables.result.now c.settings.result).settings) tables
    ∙ ap (collation_with (collation_held c.args.session.now).tables) settings in
    let copied : c.copy_from_slice.new.self ≡ c.fingerprint_by-digest.result = search rules in
    subst (λ d. HasFingerprint (collation_held c.args.session.now) d)
    (sym (take_at c.copy_from_slice.new.self (drop 32 c.args.out.now) 32 (ap length copied ∙ many) ∙ copied))
    (subst (λ k. HasFingerprint k c.fingerprint_by-digest.result) same digest)
