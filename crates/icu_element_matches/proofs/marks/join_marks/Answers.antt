use Rattle.std.proofs.Common.{◌≡◌, ◌++◌, [], ℕ, List, sym, ap, ◌∙◌, rules, arith}
use Rattle.std.proofs.lemmas.Result.{on_ok_weaker}
use Rattle.icu_table_data.specs.Data.{Mapping}
use Rattle.icu_table_data.specs.StoredData.{found_context}
use Rattle.icu_element_matches.specs.Texts.{still_unread, unread, match_left}
use Rattle.icu_element_matches.specs.inner.Joining.{match_behind}
use Rattle.icu_element_matches.specs.inner.MarkQueues.{queued_marks}
use Rattle.icu_element_matches.proofs.PassedClassLemmas.{ends_marks}
use Rattle.icu_element_matches.proofs.marks.join_marks.Goals as goal

pub invariant_of-text : goal.invariant_of-text
invariant_of-text c = omega (arith, c.pass_queues.ensures.fewer, c.gather_marks.new.self.read)

pub returns : goal.returns
unfolding still_unread
returns c =
    let mappings : List Mapping = (found_context c.args.context).mappings in
    let rest : List ℕ = unread c.gather_marks.new.self.rest in
    let old = c.args.matched.now in
    let met = c.pass_queues.new.matched in
    let queues = c.pass_queues.new.queues.items in
    let whole : List ℕ = queued_marks c.gather_marks.new.self.queues.items ++ rest in
    on_ok_weaker c.pass_queues.result
    (λ (h : match_behind mappings met (queued_marks queues) rest ≡ match_behind mappings old [] whole).
    sym (ends_marks mappings met.ce32 met.suffix.items (queued_marks queues) rest c.in_ok-gather_marks.ensures.gathered)
    ∙ h ∙ ap (match_behind mappings old []) c.in_ok-gather_marks.ensures.left)
    (c.pass_queues.ensures.marks rest)
