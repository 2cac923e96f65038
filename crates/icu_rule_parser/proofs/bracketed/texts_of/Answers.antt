use Rattle.std.proofs.Common.{ℕ, List, [], map, drop, Bor}
use Rattle.icu_rule_parser.proofs.StatementLemmas.{texts_step, texts_done, drop_map, drop_none}
use Rattle.icu_rule_parser.proofs.bracketed.texts_of.Goals as goal

pub loop-word-preserved : goal.loop-word-preserved
loop-word-preserved c = λ more w.
    let none : Bor (List ℕ) = record { ref_ptr = (0, 0); now = [] } in
    texts_step _ _ more _ _ _ _ _
    (drop_map (λ (word : Bor (List ℕ)). word.now) c.args.words.now c.loop-word.word-index none c.loop-word-test.true)
    c.in_ok-text.ensures c.in_ok-push.ensures.items c.loop-word.invariant w

pub returns : goal.returns
returns c =
    texts_done c.loop-word.texts.items
    (map (λ (word : Bor (List ℕ)). word.now) (drop c.loop-word.word-index c.args.words.now))
    (map (λ (word : Bor (List ℕ)). word.now) c.args.words.now)
    (drop_none (λ (word : Bor (List ℕ)). word.now) c.args.words.now c.loop-word.word-index
    c.loop-word-test.false c.loop-word.auto.word-index-end)
    c.loop-word.invariant
