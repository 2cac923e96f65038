use Rattle.std.proofs.Common.{rules, arith, ◌≢◌, ◌<◌, [], length, map, ap, ◌∙◌, length-append}
use Rattle.std.proofs.lemmas.Grind.{common_steps}
use Rattle.std.proofs.lemmas.List.{map-append}
use Rattle.icu_rule_parser.proofs.BracketLemmas.{words_white, words_step}
use Rattle.icu_rule_parser.proofs.brackets.read_words.Goals as goal

pub loop-rest-init : goal.loop-rest-init
loop-rest-init c = record {
  taken = rw (c.new-words.ensures.items) (words_white c.skip_white-rest.ensures.skips);
  whole = c.split_word.ensures.whole;
  word = c.split_word.ensures.word;
  ends = c.split_word.ensures.ends;
  len = search rules;
}

pub loop-rest-preserved : goal.loop-rest-preserved
loop-rest-preserved c =
    let more : 0 < length c.loop-rest.word.now = grind (arith, common_steps) in
    let some : c.loop-rest.word.now ≢ [] = λ e. absurd (omega (arith, ap length e)) in record {
      taken = words_step _ _ c.loop-rest.word.now
          (ap (λ ws. map (λ word. word.now) ws) c.in_ok-push.ensures.items ∙ map-append _ _ _)
          c.loop-rest.invariant.taken c.loop-rest.invariant.whole some c.loop-rest.invariant.word
          c.loop-rest.invariant.ends c.skip_white-rest-in-loop-rest.ensures.skips;
      whole = c.split_word-in-loop-rest.ensures.whole;
      word = c.split_word-in-loop-rest.ensures.word;
      ends = c.split_word-in-loop-rest.ensures.ends;
      len = omega (
        arith,
        c.skip_white-rest-in-loop-rest.ensures.len,
        c.loop-rest.invariant.len,
        ap length c.loop-rest.invariant.whole,
        length-append c.loop-rest.word.now c.loop-rest.after.now,
      );
    }
