-- The law of forms, as a contract names it.
use Rattle.std.specs.Prelude.{◌≡◌, ℕ, List}
use Rattle.icu_order_texts.specs.Collations.{Collation}
use Rattle.icu_order_texts.specs.TextOrder.{text_key, text_order}
use Rattle.icu_table_files.specs.fingerprint.FingerprintForms.{IsForm}
use Rattle.sha2.specs.Sha256.{sha256}

-- a digest is the fingerprint of a collation: that of its form
pub record HasFingerprint (c : Collation) (digest : List ℕ) : Type 0 where
  pub form : List ℕ
  pub is_form : IsForm c form
  pub hashed : digest ≡ sha256 form

-- two collations make the same of each text
pub record AreOne (c d : Collation) : Type 0 where
  pub keys : (t : List ℕ) → text_key c t ≡ text_key d t
  pub order : (t u : List ℕ) → text_order c t u ≡ text_order d t u

-- collations of one form make the same of each text
abbrev pub FormsDetermineKeys : Type 0
FormsDetermineKeys = (c d : Collation) (form : List ℕ) → IsForm c form → IsForm d form → AreOne c d
