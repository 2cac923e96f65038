-- The ranges of starred relations, taken one at a time.
use Rattle.std.proofs.Common.{ℕ, ◌≡◌, ◌≤◌, ◌<◌, List, [], ◌∷◌, ◌++◌, length, map, drop, ap, ◌∙◌, sym, refl, subst, append_assoc, get_or, ◌+◌}
use Rattle.std.specs.List.{AllByRecursion}
use Rattle.std.proofs.lemmas.List.{append-nil}
use Rattle.icu_rule_parser.specs.declared.statement.CharacterRange.{CharacterRange}
use Rattle.icu_rule_parser.specs.Tokens.{Token, range_sign, string, SpellsTokens}
use Rattle.icu_rule_parser.specs.Statements.{IsInertRange, single, NameRanges, dashed_tokens}
use Rattle.icu_rule_parser.specs.TakenText.{Takes}
use Rattle.icu_rule_parser.specs.TakenStatements.{TakesStarred}
use Rattle.icu_rule_parser.proofs.SkipLemmas.{takes_then}
use Rattle.icu_rule_parser.proofs.BracketLemmas.{take_token}
use Rattle.icu_rule_parser.proofs.StatementLemmas.{drop_map, drop_none}

pub inert_push : (ranges new : List CharacterRange) (range : CharacterRange) → new ≡ ranges ++ range ∷ [] → IsInertRange range → AllByRecursion IsInertRange ranges → AllByRecursion IsInertRange new
inert_push [] new range e h all = subst (λ rs. AllByRecursion IsInertRange rs) (sym e) (h, tt)
inert_push (r ∷ ranges) new range e h all =
    subst (λ rs. AllByRecursion IsInertRange rs) (sym e) (all.0, inert_push ranges (ranges ++ range ∷ []) range refl h all.1)

-- Whatever the rest of a string and the strings behind it name follows these ranges.
abbrev pub Naming : List ℕ → List CharacterRange → List ℕ → List ℕ → Type 0
Naming text ranges s rest = (more : List (List ℕ)) (named : List CharacterRange) → NameRanges s more named
    → (first : List ℕ) × (others : List (List ℕ)) × NameRanges first others (ranges ++ named)
    × ((tokens : List Token) (tail after : List ℕ) → rest ≡ tail ++ after
    → SpellsTokens (dashed_tokens more ++ tokens) tail
    → (whole : List ℕ) × SpellsTokens (string first ∷ dashed_tokens others ++ tokens) whole × (text ≡ whole ++ after))

pub naming_first : {text rest : List ℕ} (s : List ℕ) → Takes text (string s ∷ []) rest → Naming text [] s rest
naming_first s takes more named n = (s, more, n, λ tokens tail after e k. takes (dashed_tokens more ++ tokens) tail after e k)

pub naming_step : {text rest after next : List ℕ} (ranges new : List CharacterRange) (front tail string' : List ℕ) (last c : ℕ) → string' ≡ c ∷ tail → last ≤ c → new ≡ (ranges ++ map single front) ++ record { first = last; last = c } ∷ [] → Naming text ranges (front ++ last ∷ []) rest → Takes rest (range_sign ∷ []) after → Takes after (string string' ∷ []) next → Naming text new tail next
naming_step {text} {rest} {after} {next} ranges new front tail string' last c split le e naming dash takes more named n =
    let range : CharacterRange = record { first = last; last = c } in
    let p = naming ((c ∷ tail) ∷ more) (map single front ++ range ∷ named) (front, last, named, le, refl, n, refl) in (
      p.0,
      p.1,
      subst (λ rs. NameRanges p.0 p.1 rs)
          (sym (ap (λ k. k ++ named) e ∙ append_assoc (ranges ++ map single front) (range ∷ []) named
          ∙ append_assoc ranges (map single front) (range ∷ named))) p.2,
      λ tokens behind left f k.
          let q = takes (dashed_tokens more ++ tokens) behind left f k in
          let spelled : SpellsTokens (string (c ∷ tail) ∷ dashed_tokens more ++ tokens) q.0 =
          subst (λ w. SpellsTokens (string w ∷ dashed_tokens more ++ tokens) q.0) split q.1 in
          let d = dash (string (c ∷ tail) ∷ dashed_tokens more ++ tokens) q.0 left q.2 spelled in
          p.3 tokens d.0 left d.2 d.1,
    )

pub naming_done : {text rest : List ℕ} (ranges new : List CharacterRange) (s : List ℕ) → new ≡ ranges ++ map single s → Naming text ranges s rest → AllByRecursion IsInertRange new → TakesStarred text new rest
naming_done {text} {rest} ranges new s e naming inert =
    let p = naming [] (map single s) refl in
    (p.0, p.1, subst (λ rs. NameRanges p.0 p.1 rs) (sym e) p.2, inert, λ more tail after f k. p.3 more tail after f k)

pub take_dash : {text mid : List ℕ} (after : List ℕ) → Takes text [] mid → mid ≡ 45 ∷ after → Takes text (range_sign ∷ []) after
take_dash {text} {mid} after blanks e =
    takes_then [] (range_sign ∷ []) blanks (take_token after range_sign (45 ∷ []) refl e)

pub singles_step : (ranges new all : List CharacterRange) (cs : List ℕ) (i d : ℕ) (range : CharacterRange) → i < length cs → range ≡ single (get_or cs i d) → new ≡ ranges ++ range ∷ [] → ranges ++ map single (drop i cs) ≡ all → new ++ map single (drop (i + 1) cs) ≡ all
singles_step ranges new all cs i d range h r e before =
    ap (λ k. k ++ map single (drop (i + 1) cs)) e
    ∙ append_assoc ranges (range ∷ []) (map single (drop (i + 1) cs))
    ∙ ap (λ k. ranges ++ k ∷ map single (drop (i + 1) cs)) r
    ∙ ap (λ k. ranges ++ k) (sym (drop_map single cs i d h)) ∙ before

pub singles_done : (ranges all : List CharacterRange) (cs : List ℕ) (i : ℕ) → length cs ≤ i → i ≤ length cs → ranges ++ map single (drop i cs) ≡ all → ranges ≡ all
singles_done ranges all cs i h k before =
    sym (append-nil ranges) ∙ ap (λ rs. ranges ++ rs) (sym (drop_none single cs i h k)) ∙ before
