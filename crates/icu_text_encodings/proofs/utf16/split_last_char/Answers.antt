-- The last character: two units or one.
use Rattle.std.proofs.Common.{rules, ◌≡◌, ◌∙◌, ◌∷◌, ◌++◌, [], ap, sym, subst, append_assoc}
use Rattle.std.proofs.lemmas.List.{nil_from_length}
use Rattle.icu_text_encodings.specs.DecodedTexts.{utf16_text}
use Rattle.icu_text_encodings.proofs.Utf16Lemmas.{text_of_none, last_is_pair, last_is_lone, cut_after, apart, IsCut}
use Rattle.icu_text_encodings.proofs.utf16.split_last_char.Goals as goal
use Rattle.icu_text_encodings.proofs.utf16.split_last_char.Goals.{in-Some+in_default-pair_char, in_default}

pub returns-in_err-last : goal.returns-in_err-last
returns-in_err-last c =
    let empty : utf16_text c.args.units.now ≡ [] = ap utf16_text (nil_from_length c.args.units.now c.in_err-last.ensures.cases) ∙ text_of_none in
    search rules

pub returns-in-Some-pair_char : goal.returns-in-Some-pair_char
returns-in-Some-pair_char c =
    let rest = c.in-Some.rest.now in
    let before = c.in-Some.before.now in
    let last = c.in_ok-last.last.now in
    let others : c.in_ok-last.others.now ≡ rest ++ before ∷ [] = c.in-Some.ensures.cases.0 in
    let whole : c.args.units.now ≡ rest ++ before ∷ last ∷ [] =
    c.in_ok-last.ensures.cases.0 ∙ ap (λ us. us ++ last ∷ []) others ∙ append_assoc rest (before ∷ []) (last ∷ []) in
    ap utf16_text whole ∙ last_is_pair rest before last c.in-Some-pair_char.character (sym c.pair_char.ensures ∙ c.in-Some-pair_char.is)

pub returns : goal.returns
returns c =
    let others = c.in_ok-last.others.now in
    let last = c.in_ok-last.last.now in
    let cut : IsCut others (last ∷ []) = elim c.match-split_last.branch [
      | in-Some+in_default-pair_char w ↦
          subst (λ us. IsCut us (last ∷ [])) (sym w.in-Some.ensures.cases.0)
          (cut_after w.in-Some.rest.now w.in-Some.before.now last
          (apart w.in-Some.before.now last (sym w.pair_char.ensures ∙ w.in_default-pair_char.is)))
      | in_default w ↦ subst (λ us. IsCut us (last ∷ [])) (sym (nil_from_length others w.in_default.ensures.cases)) tt
    ] in
    ap utf16_text c.in_ok-last.ensures.cases.0 ∙ last_is_lone others last cut ∙ ap (λ x. utf16_text others ++ x ∷ []) (sym c.lone_char.ensures)
