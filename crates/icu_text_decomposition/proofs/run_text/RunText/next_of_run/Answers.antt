use Rattle.std.proofs.Common.{◌<◌, refl, sym, ap, ◌++◌, ◌∙◌, arith}
use Rattle.icu_text_decomposition.specs.inner.OrderedParts.{order_left}
use Rattle.icu_text_decomposition.proofs.ClassPlaceLemmas.{went_on}
use Rattle.icu_text_decomposition.proofs.RunTextLemmas.{rest_only, reads_mark}
use Rattle.icu_text_decomposition.proofs.run_text.RunText.next_of_run.Goals as goal

pub returns-in_default-clause-next : goal.returns-in_default-clause-next
returns-in_default-clause-next g c =
    ap (λ l. l ++ order_left g.T.EncodedText.text c.args.self.now.rest) (c.in_default.ensures.none refl)
    ∙ sym (rest_only g.T.EncodedText.text c.args.self.now.places 256 _ refl)

pub returns-clause-next : goal.returns-clause-next
returns-clause-next g c =
    let small : c.in-Some.found.class < 256 = c.in-Some.ensures.class.1 in
    reads_mark g.T.EncodedText.text c.args.self.now.places c.go_on.new.self c.args.self.now.class c.in-Some.found.class c.in-Some.found.mark _ _ c.in-Some.ensures.some
    (went_on g.T.EncodedText.text c.args.self.now.places c.go_on.new.self c.in-Some.found.class _ small c.go_on.ensures.own c.go_on.ensures.others)
