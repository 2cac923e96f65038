use Rattle.std.proofs.Common.{◌≡◌, ◌<◌, ◌∷◌, ◌++◌, [], ℕ, List, Some, length, sym, ap, ◌∙◌, rules, arith}
use Rattle.std.specs.Prelude.{slice_get}
use Rattle.std.proofs.lemmas.Option.{slice_get_within}
use Rattle.icu_element_matches.specs.Texts.{still_unread}
use Rattle.icu_element_matches.proofs.MarkLemmas.{one_more}
use Rattle.icu_element_matches.proofs.text_front.extend.Goals as goal

pub loop-index-preserved : goal.loop-index-preserved
loop-index-preserved c =
    let l = c.loop-index in
    let text : List ℕ = still_unread c.args.text.now in
    let x : ℕ = c.in-Some.c in
    let at : slice_get text l.index ≡ Some x = search rules in
    let pushed : c.push.new.self.items ≡ l.front.items ++ x ∷ [] = search rules in
    record {
      so_far = pushed ∙ ap (λ (f : List ℕ). f ++ x ∷ []) l.invariant.so_far ∙ sym (one_more text l.index x at);
      inside = omega (arith, slice_get_within text l.index x at);
    }
