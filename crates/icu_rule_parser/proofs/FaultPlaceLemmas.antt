-- Where a part of a statement is at fault.
use Rattle.std.proofs.Common.{ℕ, Bool, true, false, ◌≡◌, inl, inr, List, [], ◌∷◌, ◌++◌, ap, ◌∙◌, sym, refl, subst, arith}
use Rattle.std.proofs.lemmas.List.{append-nil}
use Rattle.icu_rule_parser.specs.declared.relations.Sign.{Sign}
use Rattle.icu_rule_parser.specs.declared.resets.Said.{Said}
use Rattle.icu_rule_parser.specs.declared.resets.Said.TheVariants as said_by
use Rattle.icu_rule_parser.specs.declared.unplaced_error.UnplacedError.{UnplacedError}
use Rattle.icu_rule_parser.specs.declared.unplaced_error.UnplacedError.TheVariants.{NoMemory, Refused}
use Rattle.icu_rule_parser.specs.declared.statement.CharacterRange.{CharacterRange}
use Rattle.icu_options.specs.declared.settings.Strength.{Strength}
use Rattle.icu_rule_parser.specs.RuleStrings.{SpellsCharacters, ends, quoted, closes}
use Rattle.icu_rule_parser.specs.Tokens.{Token, SpellsWords, reset_sign, relation_sign, prefix_sign, extension_sign, range_sign, string, bracket}
use Rattle.icu_rule_parser.specs.RuleWords.{level_word}
use Rattle.icu_rule_parser.specs.Statements.{prefix_tokens, dashed_tokens}
use Rattle.icu_rule_parser.specs.RulePlaces.{IsBeforeLevel, BeginOne, BeginsToken}
use Rattle.icu_rule_parser.specs.TakenText.{Takes, TakesWords, TakesCharacters}
use Rattle.icu_rule_parser.specs.TakenStatements.{SaysBehindReset, TakesSign, TakesSaid}
use Rattle.icu_rule_parser.specs.TakenFaults.{IsHere, IsInBracket, IsBehindWords, IsInString, IsPart, AreNoTokens, AreInner, IsSigned}
use Rattle.icu_rule_parser.proofs.SkipLemmas.{takes_nothing, takes_then}
use Rattle.icu_rule_parser.proofs.BracketLemmas.{take_token}
use Rattle.icu_rule_parser.proofs.StringLemmas.{characters_none}
use Rattle.icu_rule_parser.proofs.StarredLemmas.{Naming}

-- ---- strings

-- a place where a quote may open
abbrev pub OpensIn : List ℕ → List ℕ → Type 0
OpensIn text place = (cs : List ℕ) × TakesCharacters false text cs false place

pub opens_first : {text : List ℕ} → OpensIn text text
opens_first = ([], characters_none)

pub opens_next : {text old after opened : List ℕ} (within newer : Bool) (cs : List ℕ) → (newer ≡ true → within ≡ false) → (newer ≡ true → opened ≡ after) → (newer ≡ false → opened ≡ old) → OpensIn text old → TakesCharacters false text cs within after → OpensIn text opened
opens_next {text} {old} {after} {opened} within true cs h n o before taken = (
  cs,
  subst (λ p. TakesCharacters false text cs false p) (sym (n refl))
      (subst (λ b. TakesCharacters false text cs b after) (h refl) taken),
)
opens_next {text} {old} {after} {opened} within false cs h n o before taken =
    subst (λ p. OpensIn text p) (sym (o refl)) before

pub string_fault : (e : UnplacedError) {text rest : List ℕ} (cs : List ℕ) (within : Bool) → TakesCharacters false text cs within rest → IsHere e rest → IsInString e text
string_fault NoMemory cs within taken h = tt
string_fault (Refused left kind) {text} {rest} cs within taken h =
    (record { cs = cs; within = within; rest = rest; taken = taken; placed = h.0 }, h.1)

-- the beginning of a string that is taken
string_begun : {text rest : List ℕ} (cs : List ℕ) (within : Bool) → TakesCharacters false text cs within rest → (part : List ℕ) × BeginsToken part × (text ≡ part ++ rest)
string_begun cs false (part, e, f) = (part, inl (cs ++ [], [], f [] [] (λ n. tt) ends), e)
string_begun cs true (part, e, f) =
    let last : SpellsCharacters true (120 ∷ []) (120 ∷ 39 ∷ []) =
    quoted (λ h. absurd (omega (arith, h))) (λ h. absurd (omega (arith, h))) (closes tt ends) in
    (part, inl (cs ++ 120 ∷ [], 120 ∷ 39 ∷ [], f (120 ∷ []) (120 ∷ 39 ∷ []) (λ n h. absurd (omega (arith, h))) last), e)

-- ---- parts

pub string_part : (e : UnplacedError) {text mid : List ℕ} → Takes text [] mid → IsInString e mid → IsPart AreNoTokens e text
string_part NoMemory blanks p = tt
string_part (Refused left kind) {text} {mid} blanks (s, of) =
    let b = string_begun s.cs s.within s.taken in (
      record {
        tokens = [];
        allowed = refl;
        start = mid;
        taken = blanks;
        part = b.0;
        begins = b.1;
        rest = s.rest;
        whole = b.2;
        placed = s.placed;
      },
      of,
    )

pub here_part : (may : List Token → Type 0) (ts : List Token) (e : UnplacedError) {text mid : List ℕ} → may ts → Takes text ts mid → IsHere e mid → IsPart may e text
here_part may ts NoMemory allowed taken h = tt
here_part may ts (Refused left kind) {text} {mid} allowed taken h = (
  record {
    tokens = ts;
    allowed = allowed;
    start = mid;
    taken = taken;
    part = [];
    begins = inl ([], [], ends);
    rest = mid;
    whole = refl;
    placed = h.0;
  },
  h.1,
)

pub bracket_behind : (e : UnplacedError) {text inside rest : List ℕ} (words : List (List ℕ)) → text ≡ 91 ∷ inside → TakesWords inside words rest → IsHere e rest → IsBehindWords e text
bracket_behind NoMemory words opened taken h = tt
bracket_behind (Refused left kind) {text} {inside} {rest} words opened taken h =
    let p = taken [] [] rest refl refl in
    let spelled : SpellsWords words p.0 = subst (λ ws. SpellsWords ws p.0) (append-nil words) p.1 in (
      record {
        words = words;
        inside = p.0;
        spelled = spelled;
        rest = rest;
        whole = opened ∙ ap (λ t. 91 ∷ t) p.2;
        placed = h.0;
      },
      h.1,
    )

words_part : (may : List Token → Type 0) (ts : List Token) (e : UnplacedError) {text mid : List ℕ} → may ts → Takes text ts mid → IsBehindWords e mid → IsPart may e text
words_part may ts NoMemory allowed taken h = tt
words_part may ts (Refused left kind) {text} {mid} allowed taken (b, of) = (
  record {
    tokens = ts;
    allowed = allowed;
    start = mid;
    taken = taken;
    part = 91 ∷ b.inside;
    begins = inr (b.words, b.inside, b.spelled, refl);
    rest = b.rest;
    whole = b.whole;
    placed = b.placed;
  },
  of,
)

pub bracket_part : (may : List Token → Type 0) (ts : List Token) (e : UnplacedError) {text mid : List ℕ} → may ts → Takes text ts mid → IsInBracket e mid → IsPart may e text
bracket_part may ts e allowed taken (inl h) = here_part may ts e allowed taken h
bracket_part may ts e allowed taken (inr b) = words_part may ts e allowed taken b

pub part_behind : (may before : List Token → Type 0) (ts : List Token) (e : UnplacedError) {text mid : List ℕ} → ((us : List Token) → before us → may (ts ++ us)) → Takes text ts mid → IsPart before e mid → IsPart may e text
part_behind may before ts NoMemory allowed taken p = tt
part_behind may before ts (Refused left kind) {text} {mid} allowed taken (p, of) = (
  record {
    tokens = ts ++ p.tokens;
    allowed = allowed p.tokens p.allowed;
    start = p.start;
    taken = takes_then ts p.tokens taken p.taken;
    part = p.part;
    begins = p.begins;
    rest = p.rest;
    whole = p.whole;
    placed = p.placed;
  },
  of,
)

pub first_inner : (us : List Token) → AreNoTokens us → AreInner us
first_inner us e = subst (λ ts. AreInner ts) (sym e) tt

-- ---- relations

pub first_part : (e : UnplacedError) (text : List ℕ) → IsPart AreNoTokens e text → IsPart AreInner e text
first_part e text p = part_behind AreInner AreNoTokens [] e first_inner takes_nothing p

pub prefix_part : (e : UnplacedError) {text r1 r2 : List ℕ} (after first : List ℕ) → Takes text (string first ∷ []) r1 → Takes r1 [] r2 → r2 ≡ 124 ∷ after → IsPart AreNoTokens e after → IsPart AreInner e text
prefix_part e after first a b f p =
    part_behind AreInner AreNoTokens (string first ∷ prefix_sign ∷ []) e (λ us h. (tt, (tt, first_inner us h)))
    (takes_then (string first ∷ []) (prefix_sign ∷ []) a
    (takes_then [] (prefix_sign ∷ []) b (take_token after prefix_sign (124 ∷ []) refl f))) p

pub extension_part : (e : UnplacedError) {text mid : List ℕ} (after : List ℕ) → Takes text [] mid → mid ≡ 47 ∷ after → IsPart AreNoTokens e after → IsPart AreInner e text
extension_part e after a f p =
    part_behind AreInner AreNoTokens (extension_sign ∷ []) e (λ us h. (tt, first_inner us h))
    (takes_then [] (extension_sign ∷ []) a (take_token after extension_sign (47 ∷ []) refl f)) p

context_inner : (cs ds : List ℕ) (us : List Token) → AreInner us → AreInner ((prefix_tokens cs ++ string ds ∷ []) ++ us)
context_inner [] ds us h = (tt, h)
context_inner (c ∷ cs) ds us h = (tt, (tt, (tt, h)))

pub context_part : (e : UnplacedError) {text mid : List ℕ} (cs ds : List ℕ) → Takes text (prefix_tokens cs ++ string ds ∷ []) mid → IsPart AreInner e mid → IsPart AreInner e text
context_part e cs ds taken p =
    part_behind AreInner AreInner (prefix_tokens cs ++ string ds ∷ []) e (context_inner cs ds) taken p

dashed_inner : (more : List (List ℕ)) → AreInner (dashed_tokens more)
dashed_inner [] = tt
dashed_inner (s ∷ more) = (tt, (tt, dashed_inner more))

-- the tokens that name the ranges so far
named_tokens : {text rest : List ℕ} (ranges : List CharacterRange) (s : List ℕ) → Naming text ranges s rest → (ts : List Token) × AreInner ts × Takes text ts rest
named_tokens ranges s naming =
    let p = naming [] _ refl in
    (string p.0 ∷ dashed_tokens p.1, (tt, dashed_inner p.1), p.3)

pub named_here : (e : UnplacedError) {text rest : List ℕ} (ranges : List CharacterRange) (s : List ℕ) → Naming text ranges s rest → IsHere e rest → IsPart AreInner e text
named_here e ranges s naming h =
    let n = named_tokens ranges s naming in here_part AreInner n.0 e n.1 n.2 h

inner_then : (ts us : List Token) → AreInner ts → AreInner us → AreInner (ts ++ us)
inner_then [] us h k = k
inner_then (t ∷ ts) us h k = (h.0, inner_then ts us h.1 k)

pub named_part : (e : UnplacedError) {text rest after : List ℕ} (ranges : List CharacterRange) (s : List ℕ) → Naming text ranges s rest → Takes rest (range_sign ∷ []) after → IsPart AreNoTokens e after → IsPart AreInner e text
named_part e ranges s naming dash p =
    let n = named_tokens ranges s naming in
    part_behind AreInner AreInner n.0 e (λ us h. inner_then n.0 us n.1 h) n.2
    (part_behind AreInner AreNoTokens (range_sign ∷ []) e (λ us h. (tt, first_inner us h)) dash p)

-- a relation behind its sign
pub signed_part : (e : UnplacedError) {text after : List ℕ} (sign : Sign) → TakesSign text sign after → IsSigned e text after → IsPart BeginOne e text
signed_part e {text} {after} sign (mine, spelled, f) (inl p) =
    part_behind BeginOne AreInner (relation_sign sign.strength sign.is_starred ∷ []) e (λ us h. h)
    (take_token after (relation_sign sign.strength sign.is_starred) mine spelled f) p
signed_part e sign taken (inr h) = here_part BeginOne [] e tt takes_nothing h

-- ---- resets

pub blank_first : (e : UnplacedError) {text mid : List ℕ} → Takes text [] mid → IsPart AreNoTokens e mid → IsPart AreNoTokens e text
blank_first e blanks p = part_behind AreNoTokens AreNoTokens [] e (λ us h. h) blanks p

pub blank_here : (e : UnplacedError) {text mid : List ℕ} → Takes text [] mid → IsHere e mid → IsPart AreNoTokens e text
blank_here e blanks h = here_part AreNoTokens [] e refl blanks h

pub blank_bracket : (e : UnplacedError) {text mid : List ℕ} → Takes text [] mid → IsInBracket e mid → IsPart AreNoTokens e text
blank_bracket e blanks h = bracket_part AreNoTokens [] e refl blanks h

pub before_first : (e : UnplacedError) {text mid : List ℕ} → Takes text [] mid → IsPart AreNoTokens e mid → IsPart IsBeforeLevel e text
before_first e blanks p = part_behind IsBeforeLevel AreNoTokens [] e (λ us h. inl h) blanks p

pub before_bracket : (e : UnplacedError) {text mid : List ℕ} → Takes text [] mid → IsInBracket e mid → IsPart IsBeforeLevel e text
before_bracket e blanks h = bracket_part IsBeforeLevel [] e (inl refl) blanks h

pub before_part : (e : UnplacedError) {text mid after : List ℕ} {said : Said} (level : Strength) → Takes text [] mid → said ≡ said_by.Before level → TakesSaid mid said after → IsPart AreNoTokens e after → IsPart IsBeforeLevel e text
before_part e level blanks h (words, says, taken) p =
    let named = subst (λ s. SaysBehindReset s words) h says in
    part_behind IsBeforeLevel AreNoTokens (bracket words ∷ []) e
    (λ us n. inr (level_word level, ap (λ ts. bracket words ∷ ts) n ∙ ap (λ ws. bracket ws ∷ []) named.2))
    (takes_then [] (bracket words ∷ []) blanks taken) p

pub reset_part : (e : UnplacedError) {text after : List ℕ} → text ≡ 38 ∷ after → IsPart IsBeforeLevel e after → IsPart BeginOne e text
reset_part e {text} {after} f p =
    part_behind BeginOne IsBeforeLevel (reset_sign ∷ []) e (λ us h. h) (take_token after reset_sign (38 ∷ []) refl f) p

pub statement_bracket : (e : UnplacedError) (text : List ℕ) → IsInBracket e text → IsPart BeginOne e text
statement_bracket e text h = bracket_part BeginOne [] e tt takes_nothing h
