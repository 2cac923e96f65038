-- The first character: two units or one.
use Rattle.std.proofs.Common.{rules, ◌≡◌, ◌∙◌, ◌∷◌, [], ap, sym, subst}
use Rattle.std.proofs.lemmas.List.{nil_from_length}
use Rattle.icu_text_encodings.specs.DecodedTexts.{utf16_text}
use Rattle.icu_text_encodings.proofs.Utf16Lemmas.{text_of_none, first_is_pair, first_is_lone, apart, IsApart}
use Rattle.icu_text_encodings.proofs.utf16.split_first_char.Goals as goal
use Rattle.icu_text_encodings.proofs.utf16.split_first_char.Goals.{in-Some+in_default-pair_char, in_default}

pub returns-in_err-first : goal.returns-in_err-first
returns-in_err-first c =
    let empty : utf16_text c.args.units.now ≡ [] = ap utf16_text (nil_from_length c.args.units.now c.in_err-first.ensures.cases) ∙ text_of_none in
    search rules

pub returns-in-Some-pair_char : goal.returns-in-Some-pair_char
returns-in-Some-pair_char c =
    let first = c.in_ok-first.first.now in
    let second = c.in-Some.second.now in
    let rest = c.in-Some.rest.now in
    let others : c.in_ok-first.others.now ≡ second ∷ rest = c.in-Some.ensures.cases.0 in
    let whole : c.args.units.now ≡ first ∷ second ∷ rest = c.in_ok-first.ensures.cases.0 ∙ ap (λ us. first ∷ us) others in
    ap utf16_text whole ∙ first_is_pair first second c.in-Some-pair_char.character rest (sym c.pair_char.ensures ∙ c.in-Some-pair_char.is)

pub returns : goal.returns
returns c =
    let first = c.in_ok-first.first.now in
    let others = c.in_ok-first.others.now in
    let alone : IsApart first others = elim c.match-split_first.branch [
      | in-Some+in_default-pair_char w ↦
          subst (IsApart first) (sym w.in-Some.ensures.cases.0)
          (apart first w.in-Some.second.now (sym w.pair_char.ensures ∙ w.in_default-pair_char.is))
      | in_default w ↦ subst (IsApart first) (sym (nil_from_length others w.in_default.ensures.cases)) tt
    ] in
    ap utf16_text c.in_ok-first.ensures.cases.0 ∙ first_is_lone first others alone ∙ ap (λ x. x ∷ utf16_text others) (sym c.lone_char.ensures)
