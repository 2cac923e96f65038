use Rattle.std.proofs.Common.{ℕ, List, [], ◌∷◌, rules, subst}
use Rattle.std.specs.Str.Iter.{split_whitespace_rest}
use Rattle.icu_cldr_root.specs.Words.{WriteBytes}
use Rattle.icu_cldr_root.proofs.LineWordLemmas.{four_bytes}
use Rattle.icu_cldr_root.proofs.fractional_element.long_weight.Goals as goal

pub returns : goal.returns
returns c = (
  c.in_ok-a.a,
  c.in_ok-b.b,
  c.in_ok-c.c,
  c.in_ok-d.d,
  subst (λ (text : List ℕ). WriteBytes text (c.in_ok-a.a ∷ c.in_ok-b.b ∷ c.in_ok-c.c ∷ c.in_ok-d.d ∷ [])) c.split_whitespace-words.ensures.rest
      (four_bytes (split_whitespace_rest c.split_whitespace-words.result) (split_whitespace_rest c.next_byte.new.words)
      (split_whitespace_rest c.next_byte-2.new.words) (split_whitespace_rest c.next_byte-3.new.words)
      (split_whitespace_rest c.next_byte-4.new.words) c.in_ok-a.a c.in_ok-b.b c.in_ok-c.c c.in_ok-d.d
      c.in_ok-a.ensures c.in_ok-b.ensures c.in_ok-c.ensures c.in_ok-d.ensures c.in_ok-end_weight.ensures),
  search rules,
)
