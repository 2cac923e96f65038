-- Texts with references, reference by reference.
use Rattle.std.proofs.Common.{◌≡◌, ℕ, List, [], ◌∷◌, ◌++◌, refl, sym, ap, subst, inl, inr, append_assoc}
use Rattle.std.specs.Prelude.{codes, encode_utf8}
use Rattle.icu_cldr_files.specs.xml.SpelledParts.{Begins, IsCutAround, LacksText}
use Rattle.icu_cldr_files.specs.xml.CharacterReferences.{ReadsAs, WritesValue, NamesCharacter}
use Rattle.icu_cldr_files.proofs.xml.PartLemmas.{last_part}

-- one reference more, with the characters before it
pub one_reference : (text rest plain reference name next value : List ℕ) (c : ℕ)
    → Begins (λ part. WritesValue part value) text rest → IsCutAround (codes "&") rest plain reference
    → IsCutAround (codes ";") reference name next → NamesCharacter name c
    → Begins (λ part. WritesValue part ((value ++ plain) ++ encode_utf8 c)) text next
one_reference text rest plain reference name next value c begins before around names =
    let named : List ℕ = codes "&" ++ (name ++ codes ";") in (
      (begins.0 ++ plain) ++ named,
      (let whole = begins.1 in let first = before.whole in let second = around.whole in simp append_assoc (cc)),
      last_part ReadsAs (begins.0 ++ plain) (value ++ plain) named (encode_utf8 c)
          (last_part ReadsAs begins.0 value plain plain begins.2 (inl (before.first, refl)))
          (inr (name, c, refl, names, refl)),
    )

-- the characters behind the last reference
pub all_read : (text rest value : List ℕ) → Begins (λ part. WritesValue part value) text rest → LacksText (codes "&") rest → WritesValue text (value ++ rest)
all_read text rest value begins lacks =
    subst (λ t. WritesValue t (value ++ rest)) (sym begins.1) (last_part ReadsAs begins.0 value rest rest begins.2 (inl (lacks, refl)))
