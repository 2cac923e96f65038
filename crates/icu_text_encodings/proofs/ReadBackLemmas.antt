-- What was written in UTF-16 and in UTF-8 is read back.
use Rattle.std.proofs.Common.{◌≡◌, ℕ, ◌+◌, ◌-◌, ◌*◌, ◌/◌, ◌%◌, ◌<◌, ◌≤◌, true, false, List, [], ◌∷◌, ◌++◌, Some, chars, refl, ap, sym, ◌∙◌, arith, ⊎_elim}
use Rattle.std.proofs.Math.Utf8.{scalar, scalars}
use Rattle.std.proofs.lemmas.Bool.{cases_lt, and_from}
use Rattle.std.proofs.lemmas.Bool.Decides.{nat_tests}
use Rattle.std.proofs.lemmas.Str.{encodes-chars, scalars-chars}
use Rattle.bstr.proofs.lemmas.EncodeLemmas.{lossy_chars-encode}
use Rattle.std.specs.Char.{IsScalar}
use Rattle.std.specs.Char.Escape.{encode_utf16}
use Rattle.std.specs.List.{AllByRecursion, flat_map}
use Rattle.icu_text_encodings.specs.DecodedTexts.{utf16_text, utf8_text}
use Rattle.icu_text_encodings.specs.EncodingLaws.{Utf16IsReadBack, Utf8IsReadBack, SoundUtf8IsItsText}
use Rattle.icu_text_encodings.specs.inner.Utf16Units.{is_pair, pair_char, lone_char}
use Rattle.icu_text_encodings.proofs.Utf16Lemmas.{first_is_lone, first_is_pair, apart_from_all, text_of_none}

-- a scalar value of one unit
scalar_is_no_lead : (c w : ℕ) → IsScalar c → is_pair c w ≡ false
scalar_is_no_lead c w h = grind (arith, nat_tests)

scalar_alone : (c : ℕ) → IsScalar c → lone_char c ≡ c
scalar_alone c h = grind (arith, nat_tests)

one_unit : (c : ℕ) → c < 0x1_0000 → encode_utf16 c ≡ c ∷ []
one_unit c h = grind (arith, nat_tests)

-- a character of two units
two_units : (c : ℕ) → 0x1_0000 ≤ c → encode_utf16 c ≡ (0xD800 + (c - 0x1_0000) / 0x400) ∷ (0xDC00 + (c - 0x1_0000) % 0x400) ∷ []
two_units c h = grind (arith, nat_tests)

below_last : (c : ℕ) → IsScalar c → c < 0x11_0000
below_last c h = grind (arith, nat_tests)

are_pair : (h l : ℕ) → h < 0x400 → l < 0x400 → pair_char (0xD800 + h) (0xDC00 + l) ≡ Some (0x1_0000 + h * 0x400 + l)
are_pair h l p q = grind (arith, nat_tests)

module _ (c : ℕ) (us : List ℕ) (h : IsScalar c) where
  low_read : c < 0x1_0000 → utf16_text (encode_utf16 c ++ us) ≡ c ∷ utf16_text us
  low_read low =
      ap (λ beginning. utf16_text (beginning ++ us)) (one_unit c low)
      ∙ first_is_lone c us (apart_from_all c us (λ w. scalar_is_no_lead c w h))
      ∙ ap (λ x. x ∷ utf16_text us) (scalar_alone c h)

  high_read : 0x1_0000 ≤ c → utf16_text (encode_utf16 c ++ us) ≡ c ∷ utf16_text us
  high_read high =
      let above = c - 0x1_0000 in
      let last : c < 0x11_0000 = below_last c h in
      let whole : 0x1_0000 + above / 0x400 * 0x400 + above % 0x400 ≡ c = omega arith in
      ap (λ beginning. utf16_text (beginning ++ us)) (two_units c high)
      ∙ first_is_pair (0xD800 + above / 0x400) (0xDC00 + above % 0x400) c us
      (are_pair (above / 0x400) (above % 0x400) (omega arith) (omega arith) ∙ ap Some whole)

  char_read : utf16_text (encode_utf16 c ++ us) ≡ c ∷ utf16_text us
  char_read = ⊎_elim low_read high_read (cases_lt c 0x1_0000)

pub utf16_read_back : Utf16IsReadBack
utf16_read_back [] h = text_of_none
utf16_read_back (c ∷ cs) h = char_read c (flat_map encode_utf16 cs) h.0 ∙ ap (λ xs. c ∷ xs) (utf16_read_back cs h.1)

-- ---- UTF-8

are_scalars : (cs : List ℕ) → AllByRecursion IsScalar cs → scalars cs ≡ true
are_scalars [] h = refl
are_scalars (c ∷ cs) h = and_from (scalar c) (scalars cs) h.0 (are_scalars cs h.1)

pub utf8_read_back : Utf8IsReadBack
utf8_read_back cs h = lossy_chars-encode cs (are_scalars cs h)

pub sound_utf8 : SoundUtf8IsItsText
sound_utf8 bs h = ap utf8_text (sym (encodes-chars bs h)) ∙ lossy_chars-encode (chars bs) (scalars-chars bs h)
