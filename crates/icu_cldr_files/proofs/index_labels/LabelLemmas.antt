-- How what was read goes on with what is left.
use Rattle.std.proofs.Common.{◌≡◌, ◌<◌, ◌+◌, ◌*◌, ℕ, false, List, [], ◌∷◌, ◌++◌, Option, Some, None, SomeIff, IfSome, ap, ◌∙◌, sym, refl, subst, append_assoc, encode_utf8, append-nil, chars}
use Rattle.std.specs.Char.{IsScalar, digit_value}
use Rattle.icu_cldr_files.specs.declared.xml.event.Event.{Event}
use Rattle.icu_cldr_files.specs.xml.XmlDocuments.{IsDocument}
use Rattle.icu_cldr_files.specs.index_labels.IndexSets.{index_set_from}
use Rattle.icu_cldr_files.specs.index_labels.IndexLabels.{SaysLabels, no_index, index}
use Rattle.icu_cldr_files.specs.index_labels.WrittenLabels.{is_sign, WritesCharacter, itself, numbered, WritesCharacters, WritesLabel, one, braced, WritesLabels, WritesSet, ends, more, none, space, label}
use Rattle.icu_cldr_files.specs.index_labels.TakenLabels.{TakesCharacter, PushesLabel}

pub writes_number : (a b c d : ℕ) {x y z w : ℕ} (r : Option ℕ) → (digit_value a < 16) × (x ≡ digit_value a)
    → (digit_value b < 16) × (y ≡ digit_value b) → (digit_value c < 16) × (z ≡ digit_value c)
    → (digit_value d < 16) × (w ≡ digit_value d)
    → SomeIff r (IsScalar (((x * 16 + y) * 16 + z) * 16 + w)) (((x * 16 + y) * 16 + z) * 16 + w)
    → IfSome r (λ n. WritesCharacter n (92 ∷ 117 ∷ a ∷ b ∷ c ∷ d ∷ []))
writes_number a b c d (Some n) (la, ea) (lb, eb) (lc, ec) (ld, ed) (scalar, e) =
    numbered la lb lc ld (e ∙ (rw (ea, eb, ec, ed) refl)) (subst IsScalar (sym e) scalar)
writes_number a b c d None la lb lc ld absent = _

pub takes_itself : {text rest : List ℕ} {c : ℕ} → text ≡ c ∷ rest → is_sign c ≡ false → TakesCharacter text c rest
takes_itself {text} {rest} {c} same plain = record { mine = c ∷ []; writes = itself plain; text_is = same }

pub pushes_braced : {text inside rest bytes : List ℕ} {before after : List (List ℕ)} → text ≡ inside ++ 125 ∷ rest
    → WritesCharacters bytes inside → after ≡ before ++ bytes ∷ [] → PushesLabel (123 ∷ text) rest before after
pushes_braced {text} {inside} {rest} {bytes} same written grown = record {
  mine = 123 ∷ inside ++ 125 ∷ [];
  label = bytes;
  writes = braced written refl;
  text_is = ap (λ t. 123 ∷ t) (same ∙ sym (append_assoc inside (125 ∷ []) rest));
  after_is = grown;
}

pub pushes_one : {text rest : List ℕ} {c : ℕ} {before after : List (List ℕ)} → TakesCharacter text c rest
    → after ≡ before ++ encode_utf8 c ∷ [] → PushesLabel text rest before after
pushes_one {c = c} taken grown = record {
  mine = taken.mine;
  label = encode_utf8 c;
  writes = one taken.writes;
  text_is = taken.text_is;
  after_is = grown;
}

pub set_written : {text items within : List ℕ} {labels : List (List ℕ)} → items ≡ text → items ≡ 91 ∷ within ++ 93 ∷ []
    → WritesLabels labels within → WritesSet labels text
set_written {text} {items} {within} same bracketed labels_are = record {
  inside = within;
  text_is = sym same ∙ bracketed;
  written = labels_are;
}

pub says_none : {text : List ℕ} {events : List Event} → IsDocument text events → None ≡ index_set_from events
    → SaysLabels text None
says_none document absent = no_index document (sym absent)

pub says_index : {text set : List ℕ} {events : List Event} {labels : List (List ℕ)} → IsDocument text events
    → Some set ≡ index_set_from events → WritesSet labels (chars set) → SaysLabels text (Some labels)
says_index document found writes = index document (sym found) writes

-- the characters so far go on with those of the rest
pub record GoOnCharacters (done rest whole : List ℕ) : Type 0 where
  pub go : (bytes : List ℕ) → WritesCharacters bytes rest → WritesCharacters (done ++ bytes) whole

pub characters_step : {done next text rest whole : List ℕ} {c : ℕ} → GoOnCharacters done text whole
    → TakesCharacter text c rest → next ≡ done ++ encode_utf8 c → GoOnCharacters next rest whole
characters_step {done} {next} {text} {rest} {whole} {c} so_far taken grown = record {
  go = λ bytes left.
      let step : WritesCharacters (encode_utf8 c ++ bytes) text = more taken.writes left taken.text_is refl in
      let all : WritesCharacters (done ++ (encode_utf8 c ++ bytes)) whole = so_far.go (encode_utf8 c ++ bytes) step in
      rw (grown, append_assoc done (encode_utf8 c) bytes) all;
}

pub characters_end : {done rest whole : List ℕ} → GoOnCharacters done rest whole → rest ≡ [] → WritesCharacters done whole
characters_end {done} {rest} {whole} so_far over =
    let all : WritesCharacters (done ++ []) whole = so_far.go [] (rw over ends) in
    rw (append-nil done) at all

-- the labels so far go on with those of the rest
pub record GoOnLabels (done : List (List ℕ)) (rest whole : List ℕ) : Type 0 where
  pub go : (labels : List (List ℕ)) → WritesLabels labels rest → WritesLabels (done ++ labels) whole

pub space_step : {done : List (List ℕ)} {text rest whole : List ℕ} → GoOnLabels done text whole → text ≡ 32 ∷ rest
    → GoOnLabels done rest whole
space_step so_far same = record { go = λ labels left. so_far.go labels (rw same (space left)) }

pub label_step : {done next : List (List ℕ)} {text rest whole : List ℕ} → GoOnLabels done text whole
    → PushesLabel text rest done next → GoOnLabels next rest whole
label_step {done} {next} {text} {rest} {whole} so_far pushed = record {
  go = λ labels left.
      let all : WritesLabels (done ++ (pushed.label ∷ labels)) whole =
      so_far.go (pushed.label ∷ labels) (label pushed.writes left pushed.text_is) in
      rw (pushed.after_is, append_assoc done (pushed.label ∷ []) labels) all;
}

pub labels_end : {done : List (List ℕ)} {rest whole : List ℕ} → GoOnLabels done rest whole → rest ≡ [] → WritesLabels done whole
labels_end {done} {rest} {whole} so_far over =
    let all : WritesLabels (done ++ []) whole = so_far.go [] (rw over none) in
    rw (append-nil done) at all
