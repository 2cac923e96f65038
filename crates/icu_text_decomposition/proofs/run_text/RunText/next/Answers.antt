use Rattle.std.proofs.Common.{◌++◌, refl, sym, ap, ◌∙◌, option_to_list}
use Rattle.icu_text_decomposition.proofs.RunTextLemmas.{rest_only}
use Rattle.icu_text_decomposition.proofs.run_text.RunText.next.Goals as goal

pub returns-clause-next : goal.returns-clause-next
returns-clause-next g c =
    let text = g.T.EncodedText.text in
    let mid = c.next_of_run.new.self in
    let none = c.in_default.ensures.end refl in
    c.in_default.ensures.next ∙ rest_only text mid.places mid.class _ none ∙ c.next.ensures.next
    ∙ ap (λ l. option_to_list c.next.result ++ l) (sym (rest_only text mid.places mid.class _ none))

pub returns-clause-end : goal.returns-clause-end
returns-clause-end g c = λ ended.
    let mid = c.next_of_run.new.self in
    c.in_default.ensures.next ∙ rest_only g.T.EncodedText.text mid.places mid.class _ (c.in_default.ensures.end refl) ∙ c.next.ensures.end ended
