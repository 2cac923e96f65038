use Rattle.std.proofs.Common.{◌≡◌, ℕ, List, [], ◌∷◌, ◌++◌, refl}
use Rattle.std.specs.Prelude.{codes, bytes_eq}
use Rattle.std.specs.Str.Iter.{split_whitespace_rest}
use Rattle.icu_cldr_root.proofs.LinePartLemmas.{any_before, any_now}
use Rattle.icu_cldr_root.proofs.LineWordLemmas.{write_more, write_end}
use Rattle.icu_cldr_root.proofs.line.has_compress.Goals as goal

pub loop-word-preserved-then-is_named : goal.loop-word-preserved-then-is_named
loop-word-preserved-then-is_named c =
    let seen : List (List ℕ) = c.loop-word.invariant.0 in
    let word : List ℕ = c.in-Some.word.now in (
      seen ++ word ∷ [],
      write_more (λ w x. w ≡ x) (split_whitespace_rest c.args.words) (split_whitespace_rest c.loop-word.word-iterator) word
          (split_whitespace_rest c.next.new.self) seen (seen ++ word ∷ []) word refl c.in-Some.ensures.steps refl c.loop-word.invariant.1,
      any_before (λ w. bytes_eq w (codes "COMPRESS")) seen word c.loop-word.is_named c.loop-word.invariant.2 c.if-is_named.true,
    )

pub loop-word-preserved : goal.loop-word-preserved
loop-word-preserved c =
    let seen : List (List ℕ) = c.loop-word.invariant.0 in
    let word : List ℕ = c.in-Some.word.now in (
      seen ++ word ∷ [],
      write_more (λ w x. w ≡ x) (split_whitespace_rest c.args.words) (split_whitespace_rest c.loop-word.word-iterator) word
          (split_whitespace_rest c.next.new.self) seen (seen ++ word ∷ []) word refl c.in-Some.ensures.steps refl c.loop-word.invariant.1,
      any_now (λ w. bytes_eq w (codes "COMPRESS")) seen word c.loop-word.is_named c.eq-is_named.result c.loop-word.invariant.2
          c.if-is_named.false c.eq-is_named.ensures,
    )

pub returns : goal.returns
returns c = (
  c.loop-word.invariant.0,
  write_end (λ w x. w ≡ x) (split_whitespace_rest c.args.words) (split_whitespace_rest c.loop-word.word-iterator)
      c.loop-word.invariant.0 c.in-None.ensures.steps.1 c.loop-word.invariant.1,
  c.loop-word.invariant.2,
)
