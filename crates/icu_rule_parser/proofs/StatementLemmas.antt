-- The parts of statements, taken one at a time.
use Rattle.std.proofs.Common.{ℕ, Bool, true, false, ◌≡◌, ◌≢◌, ◌<◌, ◌≤◌, inl, inr, List, [], ◌∷◌, ◌++◌, length, map, Some, None, String, ap, ◌∙◌, sym, refl, subst, append_assoc, arith}
use Rattle.std.specs.declared.alloc.Global.{Global}
use Rattle.std.proofs.Common.{drop, get_or, ◌+◌, add-one}
use Rattle.std.proofs.lemmas.List.{append-nil}
use Rattle.std.proofs.Math.Seq.{drop-cons, drop-length}
use Rattle.icu_options.specs.declared.settings.Strength.{Strength}
use Rattle.icu_options.specs.declared.settings.Strength.TheVariants.{Secondary, Tertiary}
use Rattle.icu_rule_parser.specs.declared.resets.Said.{Said}
use Rattle.icu_rule_parser.specs.declared.resets.Said.TheVariants as said_by
use Rattle.icu_rule_parser.specs.declared.statement.LogicalPosition.{LogicalPosition}
use Rattle.icu_rule_parser.specs.declared.statement.Anchor.{Anchor}
use Rattle.icu_rule_parser.specs.declared.statement.Anchor.TheVariants as anchors
use Rattle.icu_rule_parser.specs.Tokens.{Token, prefix_sign, extension_sign, string, bracket, relation_sign_text, IsRelationSign}
use Rattle.icu_rule_parser.specs.Statements.{prefix_tokens, extension_tokens, WritesWord, WriteWords}
use Rattle.icu_rule_parser.specs.TakenText.{Takes}
use Rattle.icu_rule_parser.specs.TakenStatements.{StarBehind, SaysBehindReset, TakesSaid, TakesAnchor, TakesReset}
use Rattle.icu_rule_parser.proofs.SkipLemmas.{takes_then}
use Rattle.icu_rule_parser.proofs.BracketLemmas.{take_token}

signed : (s : Strength) (b : Bool) (text rest : List ℕ) {whole : List ℕ} → StarBehind b text rest → whole ≡ relation_sign_text s ++ text → (mine : List ℕ) × IsRelationSign s b mine × (whole ≡ mine ++ rest)
signed s false text rest star e = (relation_sign_text s, inl refl, e ∙ ap (λ t. relation_sign_text s ++ t) star)
signed s true text rest star e =
    (relation_sign_text s ++ 42 ∷ [], refl, e ∙ ap (λ t. relation_sign_text s ++ t) star ∙ sym (append_assoc (relation_sign_text s) (42 ∷ []) rest))

-- a sign of this strength, and the star behind it
pub signed_at : (s k : Strength) (b : Bool) (text rest : List ℕ) {whole : List ℕ} → s ≡ k → StarBehind b text rest → whole ≡ relation_sign_text k ++ text → (mine : List ℕ) × IsRelationSign s b mine × (whole ≡ mine ++ rest)
signed_at s k b text rest h star e = signed s b text rest star (e ∙ ap (λ i. relation_sign_text i ++ text) (sym h))

pub old_secondary : (s : Strength) (b : Bool) → s ≡ Secondary → b ≡ false → IsRelationSign s b (59 ∷ [])
old_secondary s b h k =
    subst (λ i. IsRelationSign i b (59 ∷ [])) (sym h) (subst (λ i. IsRelationSign Secondary i (59 ∷ [])) (sym k) (inr refl))

pub old_tertiary : (s : Strength) (b : Bool) → s ≡ Tertiary → b ≡ false → IsRelationSign s b (44 ∷ [])
old_tertiary s b h k =
    subst (λ i. IsRelationSign i b (44 ∷ [])) (sym h) (subst (λ i. IsRelationSign Tertiary i (44 ∷ [])) (sym k) (inr refl))

prefix_of : (cs : List ℕ) → 0 < length cs → prefix_tokens cs ≡ string cs ∷ prefix_sign ∷ []
prefix_of [] some = absurd (omega arith)
prefix_of (c ∷ cs) some = refl

extension_of : (cs : List ℕ) → 0 < length cs → extension_tokens cs ≡ extension_sign ∷ string cs ∷ []
extension_of [] some = absurd (omega arith)
extension_of (c ∷ cs) some = refl

pub take_context : {text r1 r2 rest : List ℕ} (after first second : List ℕ) → 0 < length first → Takes text (string first ∷ []) r1 → Takes r1 [] r2 → r2 ≡ 124 ∷ after → Takes after (string second ∷ []) rest → Takes text (prefix_tokens first ++ string second ∷ []) rest
take_context {text} {r1} {r2} {rest} after first second some a b e d =
    subst (λ ts. Takes text (ts ++ string second ∷ []) rest) (sym (prefix_of first some))
    (takes_then (string first ∷ []) (prefix_sign ∷ string second ∷ []) a
    (takes_then [] (prefix_sign ∷ string second ∷ []) b
    (takes_then (prefix_sign ∷ []) (string second ∷ []) (take_token after prefix_sign (124 ∷ []) refl e) d)))

pub take_extension : {text mid rest : List ℕ} (after cs : List ℕ) → 0 < length cs → Takes text [] mid → mid ≡ 47 ∷ after → Takes after (string cs ∷ []) rest → Takes text (extension_tokens cs) rest
take_extension {text} {mid} {rest} after cs some a e d =
    subst (λ ts. Takes text ts rest) (sym (extension_of cs some))
    (takes_then [] (extension_sign ∷ string cs ∷ []) a
    (takes_then (extension_sign ∷ []) (string cs ∷ []) (take_token after extension_sign (47 ∷ []) refl e) d))

-- what stands behind the sign of a relation: its string between what stands before it and its extension
pub take_parts : (a b c : List ℕ) (ts us : List Token) (cs : List ℕ) → Takes a (ts ++ string cs ∷ []) b → Takes b us c → Takes a (ts ++ string cs ∷ us) c
take_parts a b c ts us cs first second =
    subst (λ k. Takes a k c) (append_assoc ts (string cs ∷ []) us) (takes_then (ts ++ string cs ∷ []) us first second)

pub take_position : {text mid rest : List ℕ} {said : Said} (p : LogicalPosition) → Takes text [] mid → said ≡ said_by.Position p → TakesSaid mid said rest → TakesAnchor text (anchors.Position p) rest
take_position {text} {mid} {rest} p blanks e (words, says, takes) =
    let named : SaysBehindReset (said_by.Position p) words = subst (λ s. SaysBehindReset s words) e says in
    (bracket words ∷ [], (words, named, refl), takes_then [] (bracket words ∷ []) blanks takes)

pub reset_position : {text mid rest : List ℕ} {said : Said} (p : LogicalPosition) → Takes text [] mid → said ≡ said_by.Position p → TakesSaid mid said rest → TakesReset text (record { before = None; anchor = anchors.Position p }) rest
reset_position {text} {mid} {rest} p blanks e (words, says, takes) =
    let named : SaysBehindReset (said_by.Position p) words = subst (λ s. SaysBehindReset s words) e says in (
      bracket words ∷ [],
      ([], bracket words ∷ [], refl, (words, named, refl), refl),
      takes_then [] (bracket words ∷ []) blanks takes,
    )

pub reset_before : {text mid after rest : List ℕ} {said : Said} (level : Strength) (anchor : Anchor) → Takes text [] mid → said ≡ said_by.Before level → TakesSaid mid said after → TakesAnchor after anchor rest → TakesReset text (record { before = Some level; anchor = anchor }) rest
reset_before {text} {mid} {after} {rest} level anchor blanks e (words, says, takes) (tokens, are, more_takes) =
    let named : SaysBehindReset (said_by.Before level) words = subst (λ s. SaysBehindReset s words) e says in (
      bracket words ∷ tokens,
      (bracket words ∷ [], tokens, (named.0, named.1, ap (λ ws. bracket ws ∷ []) named.2), are, refl),
      takes_then [] (bracket words ∷ tokens) blanks (takes_then (bracket words ∷ []) tokens takes more_takes),
    )

-- one text more
pub texts_step : (items new more : List (String Global)) (s : String Global) (texts others all : List (List ℕ)) (text : List ℕ) → texts ≡ text ∷ others → WritesWord s text → new ≡ items ++ s ∷ [] → ((more : List (String Global)) → WriteWords more texts → WriteWords (items ++ more) all) → WriteWords more others → WriteWords (new ++ more) all
texts_step items new more s texts others all text split writes e before rest =
    subst (λ k. WriteWords k all) (sym (ap (λ k. k ++ more) e ∙ append_assoc items (s ∷ []) more))
    (before (s ∷ more) (text, others, writes, rest, split))

pub texts_done : (items : List (String Global)) (texts all : List (List ℕ)) → texts ≡ [] → ((more : List (String Global)) → WriteWords more texts → WriteWords (items ++ more) all) → WriteWords items all
texts_done items texts all none before = subst (λ k. WriteWords k all) (append-nil items) (before [] none)

pub some_map : {X Y : Type 0} (f : X → Y) (xs : List X) → 0 < length xs → map f xs ≢ []
some_map f [] some = absurd (omega arith)
some_map f (x ∷ xs) some = λ e. cc

-- what is left of a list, with the first of it apart
pub drop_map : {X Y : Type 0} (f : X → Y) (xs : List X) (i : ℕ) (d : X) → i < length xs → map f (drop i xs) ≡ f (get_or xs i d) ∷ map f (drop (i + 1) xs)
drop_map f xs i d h = rw (add-one) (ap (λ ys. map f ys) (drop-cons xs i d h))

pub drop_none : {X Y : Type 0} (f : X → Y) (xs : List X) (i : ℕ) → length xs ≤ i → i ≤ length xs → map f (drop i xs) ≡ []
drop_none f xs i h k =
    let e : i ≡ length xs = omega arith in
    ap (λ n. map f (drop n xs)) e ∙ ap (λ ys. map f ys) (drop-length xs)
