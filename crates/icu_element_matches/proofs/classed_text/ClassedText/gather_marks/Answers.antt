use Rattle.std.proofs.Common.{◌≡◌, ◌<◌, ◌≤◌, ◌+◌, ◌∷◌, ◌++◌, [], ℕ, List, Some, drop, length, sym, ap, ◌∙◌, append_assoc, rules, arith}
use Rattle.std.specs.Prelude.{slice_get}
use Rattle.std.proofs.lemmas.Option.{slice_get_within}
use Rattle.icu_element_matches.specs.Texts.{still_unread, unread}
use Rattle.icu_element_matches.specs.inner.MarkQueues.{queued_marks}
use Rattle.icu_element_matches.proofs.MarkLemmas.{here}
use Rattle.icu_element_matches.proofs.classed_text.ClassedText.gather_marks.Goals as goal

pub marks-preserved : goal.marks-preserved
unfolding still_unread
marks-preserved c =
    let l = c.marks in
    let text : List ℕ = unread l.self.rest in
    let m : ℕ = c.in-Some.mark in
    let at : slice_get text 0 ≡ Some m = search rules in
    let front : List ℕ = queued_marks l.self.queues.items in
    ap (λ (f : List ℕ). f ++ unread c.read_one.new.self) c.in_ok-push_mark.ensures.marks
    ∙ ap (λ (r : List ℕ). (front ++ m ∷ []) ++ r) c.read_one.ensures.text
    ∙ append_assoc front (m ∷ []) (drop 1 text)
    ∙ ap (λ (r : List ℕ). front ++ r) (sym (here text 0 m at)) ∙ l.invariant
