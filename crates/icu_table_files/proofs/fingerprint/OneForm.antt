-- Collations of one form are one.
use Rattle.std.proofs.Common.{◌≡◌, ℕ, List, [], ◌++◌, refl, sym, ap, ◌∙◌, append-nil}
use Rattle.icu_options.specs.Settings.{Settings}
use Rattle.icu_order_texts.specs.Collations.{Collation}
use Rattle.icu_order_texts.specs.TextOrder.{text_key, text_order}
use Rattle.icu_table_files.specs.fingerprint.FormLaws.{AreOne}
use Rattle.icu_table_files.specs.fingerprint.FingerprintForms.{IsForm, StoredTables, form_words, setting_words, table_words, tables_stored, version_words}
use Rattle.icu_table_files.proofs.fingerprint.WordForms.{bytes_tell, cut, settings_tell, tables_tell}

words_tell : (x y : StoredTables) (s t : Settings) → form_words x s ≡ form_words y t → (s ≡ t) × (x ≡ y)
words_tell x y s t e =
    let a = cut version_words version_words (setting_words s ++ table_words x) (setting_words t ++ table_words y) refl e in
    let b = settings_tell s t (table_words x) (table_words y) a.1 in
    let d = tables_tell x y [] [] (append-nil (table_words x) ∙ (b.1 ∙ sym (append-nil (table_words y)))) in
    (b.0, d.0)

pub one_form : (c d : Collation) (form : List ℕ) → IsForm c form → IsForm d form → c ≡ d
one_form c d form f g =
    let words = bytes_tell (form_words f.stored c.settings) (form_words g.stored d.settings) f.fits g.fits (sym f.is ∙ g.is) in
    let same = words_tell f.stored g.stored c.settings d.settings words in
    let tables = sym f.says ∙ (ap tables_stored same.1 ∙ g.says) in
    λ i. record { tables = tables i; settings = same.0 i }

pub are_one : (c d : Collation) (form : List ℕ) → IsForm c form → IsForm d form → AreOne c d
are_one c d form f g =
    let same = one_form c d form f g in
    record { keys = λ t. ap (λ x. text_key x t) same; order = λ t u. ap (λ x. text_order x t u) same }
