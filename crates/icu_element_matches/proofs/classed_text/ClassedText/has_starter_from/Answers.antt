use Rattle.std.proofs.Common.{◌≡◌, ◌-◌, ℕ, List, drop, length, sym, ap, ◌∙◌}
use Rattle.std.specs.List.{list_any}
use Rattle.std.proofs.lemmas.List.{take_rest}
use Rattle.unicode_normalization.specs.Order.{is_starter}
use Rattle.icu_element_matches.specs.inner.MarkQueues.{queued_marks}
use Rattle.icu_element_matches.specs.Texts.{still_unread, unread}
use Rattle.icu_element_matches.proofs.MarkQueueLemmas.{starters_behind}
use Rattle.icu_element_matches.proofs.classed_text.ClassedText.has_starter_from.Goals as goal

pub returns : goal.returns
unfolding still_unread
returns c =
    let self = c.args.self.now in
    let n : ℕ = c.skip_queued-behind.result in
    let text : List ℕ = c.as_slice-2.result.now in
    let is : c.has_starter.result ≡ list_any is_starter (drop n (unread self.rest)) =
    c.has_starter.ensures ∙ ap (list_any is_starter) (take_rest text n) ∙ ap (λ (l : List ℕ). list_any is_starter (drop n l)) c.as_slice-2.ensures in
    let behind : c.skip_queued-behind.result ≡ c.args.from - length (queued_marks self.queues.items) =
    c.skip_queued-behind.ensures ∙ ap (λ qs. c.args.from - length (queued_marks qs)) c.as_slice.ensures.value in
    is ∙ ap (λ n. list_any is_starter (drop n (unread self.rest))) behind
    ∙ sym (starters_behind self.queues.items (unread self.rest) c.args.from)
