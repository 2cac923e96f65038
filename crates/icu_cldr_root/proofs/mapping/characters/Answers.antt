use Rattle.std.proofs.Common.{◌≡◌, ◌∙◌, sym, Some}
use Rattle.std.specs.Str.Iter.{split_whitespace_rest}
use Rattle.icu_cldr_root.specs.HexDigits.{character_written}
use Rattle.icu_cldr_root.proofs.LineWordLemmas.{write_more, write_end}
use Rattle.icu_cldr_root.proofs.mapping.characters.Goals as goal

pub loop-word-preserved : goal.loop-word-preserved
loop-word-preserved c =
    write_more (λ word x. character_written word ≡ Some x) (split_whitespace_rest c.args.words)
    (split_whitespace_rest c.loop-word.word-iterator) c.in-Some.word.now (split_whitespace_rest c.next.new.self)
    c.loop-word.characters.items c.push.new.self.items c.in-Some-character.c
    c.in_ok-push-in-Some-character.ensures.items c.in-Some.ensures.steps (sym c.character.ensures ∙ c.in-Some-character.is)
    c.loop-word.invariant

pub returns : goal.returns
returns c =
    write_end (λ word x. character_written word ≡ Some x) (split_whitespace_rest c.args.words)
    (split_whitespace_rest c.loop-word.word-iterator) c.loop-word.characters.items c.in-None.ensures.steps.1 c.loop-word.invariant
