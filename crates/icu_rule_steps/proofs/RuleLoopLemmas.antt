-- Rules that are read one after another.
use Rattle.std.proofs.Common.{◌≡◌, ℕ, suc, ◌+◌, ◌-◌, ◌<◌, true, false, List, [], ◌∷◌, ◌++◌, length, drop, get_or, map, cond, Result, Ok, Err, IfErr, Option, Some, None, refl, ap, sym, ◌∙◌, subst, arith}
use Rattle.std.specs.Prelude.{filter}
use Rattle.std.specs.Result.{IsErrAnd}
use Rattle.std.proofs.lemmas.List.{at_drop_more, map-append}
use Rattle.std.specs.List.{range_with_len, flat_map}
use Rattle.icu_options.specs.declared.settings.Strength.{Strength}
use Rattle.icu_rule_parser.specs.declared.rules.PlacedStatement.{PlacedStatement}
use Rattle.icu_rule_parser.specs.declared.statement.CharacterRange.{CharacterRange}
use Rattle.icu_rule_meaning.specs.Rules.{Rule, lone_relation, is_scalar, characters_of, statement_rules, rules_of}
use Rattle.icu_rule_meaning.specs.TailoredRoots.{Root}
use Rattle.icu_rule_meaning.specs.Steps.{TailoringState, first_state, rule_step, state_after}
use Rattle.icu_rule_steps.specs.declared.rule_step_error.RuleStepError.{RuleStepError}
use Rattle.icu_rule_steps.specs.declared.rule_step_error.RuleStepError.TheVariants as steps
use Rattle.icu_rule_steps.specs.declared.tailoring_error.TailoringErrorKind.{TailoringErrorKind}
use Rattle.icu_rule_steps.specs.RuleFaults.{or_fault, rule_fault, first_fault, or_error, first_rule_error}
use Rattle.icu_rule_steps.specs.ReadRules.{IsReason, ReadsRule, ReadsRules}

-- rules were read up to some of them
pub record IsReadTo (root : Root) (old : TailoringState) (rules : List Rule) (now : TailoringState) (rest : List Rule) : Type 0 where
  pub state : state_after root now rest ≡ state_after root old rules
  pub fault : first_fault root now rest ≡ first_fault root old rules

pub read_none : (root : Root) (old : TailoringState) (rules rest : List Rule) → rest ≡ rules → IsReadTo root old rules old rest
read_none root old rules rest e = record { state = ap (state_after root old) e; fault = ap (first_fault root old) e }

pub read_one : (root : Root) (old now next : TailoringState) (rules rest rest' : List Rule) (rule : Rule) → rest ≡ rule ∷ rest'
    → IsReadTo root old rules now rest → ReadsRule root rule now next → IsReadTo root old rules next rest'
read_one root old now next rules rest rest' rule e to read = record {
  state = ap (λ s. state_after root s rest') read.state ∙ sym (ap (state_after root now) e) ∙ to.state;
  fault =
      ap (λ s. first_fault root s rest') read.state
      ∙ sym (ap (λ f. or_fault f (first_fault root (rule_step root now rule) rest')) read.sound)
      ∙ sym (ap (first_fault root now) e) ∙ to.fault;
}

after_both : (root : Root) (s : TailoringState) (xs ys : List Rule)
    → state_after root s (xs ++ ys) ≡ state_after root (state_after root s xs) ys
after_both root s [] ys = refl
after_both root s (x ∷ xs) ys = after_both root (rule_step root s x) xs ys

or_fault_assoc : (a b c : Option TailoringErrorKind) → or_fault a (or_fault b c) ≡ or_fault (or_fault a b) c
or_fault_assoc None b c = refl
or_fault_assoc (Some kind) b c = refl

fault_of_both : (root : Root) (s : TailoringState) (xs ys : List Rule)
    → first_fault root s (xs ++ ys) ≡ or_fault (first_fault root s xs) (first_fault root (state_after root s xs) ys)
fault_of_both root s [] ys = refl
fault_of_both root s (x ∷ xs) ys =
    ap (or_fault (rule_fault root s x)) (fault_of_both root (rule_step root s x) xs ys)
    ∙ or_fault_assoc (rule_fault root s x) (first_fault root (rule_step root s x) xs)
    (first_fault root (state_after root (rule_step root s x) xs) ys)

pub read_more : (root : Root) (old now next : TailoringState) (rules rest first rest' : List Rule) → rest ≡ first ++ rest'
    → IsReadTo root old rules now rest → ReadsRules root first now next → IsReadTo root old rules next rest'
read_more root old now next rules rest first rest' e to read = record {
  state =
      ap (λ s. state_after root s rest') read.state ∙ sym (after_both root now first rest')
      ∙ sym (ap (state_after root now) e) ∙ to.state;
  fault =
      ap (λ s. first_fault root s rest') read.state
      ∙ sym (ap (λ f. or_fault f (first_fault root (state_after root now first) rest')) read.sound)
      ∙ sym (fault_of_both root now first rest') ∙ sym (ap (first_fault root now) e) ∙ to.fault;
}

pub read_all : (root : Root) (old now : TailoringState) (rules rest : List Rule) → rest ≡ [] → IsReadTo root old rules now rest
    → ReadsRules root rules old now
read_all root old now rules rest e to = record {
  state = sym (ap (state_after root now) e) ∙ to.state;
  sound = sym to.fault ∙ ap (first_fault root now) e;
}

reason_first : (f g : Option TailoringErrorKind) (error : RuleStepError) → IsReason f error → IsReason (or_fault f g) error
reason_first f g steps.NoMemory is = tt
reason_first f g (steps.Refused kind) is = ap (λ o. or_fault o g) is

reason_along : (f g : Option TailoringErrorKind) (error : RuleStepError) → f ≡ g → IsReason f error → IsReason g error
reason_along f g steps.NoMemory e is = tt
reason_along f g (steps.Refused kind) e is = sym e ∙ is

pub one_refused : (root : Root) (old now : TailoringState) (rules rest rest' : List Rule) (rule : Rule) (error : RuleStepError)
    → rest ≡ rule ∷ rest' → IsReadTo root old rules now rest → IsReason (rule_fault root now rule) error
    → IsReason (first_fault root old rules) error
one_refused root old now rules rest rest' rule error e to is =
    reason_along (first_fault root now (rule ∷ rest')) (first_fault root old rules) error
    (sym (ap (first_fault root now) e) ∙ to.fault)
    (reason_first (rule_fault root now rule) (first_fault root (rule_step root now rule) rest') error is)

pub more_refused : (root : Root) (old now : TailoringState) (rules rest first rest' : List Rule) (error : RuleStepError)
    → rest ≡ first ++ rest' → IsReadTo root old rules now rest → IsReason (first_fault root now first) error
    → IsReason (first_fault root old rules) error
more_refused root old now rules rest first rest' error e to is =
    reason_along (first_fault root now (first ++ rest')) (first_fault root old rules) error
    (sym (ap (first_fault root now) e) ∙ to.fault)
    (reason_along (or_fault (first_fault root now first) (first_fault root (state_after root now first) rest'))
    (first_fault root now (first ++ rest')) error (sym (fault_of_both root now first rest'))
    (reason_first (first_fault root now first) (first_fault root (state_after root now first) rest') error is))

pub read_same : (root : Root) (old now next : TailoringState) (rules rest rest' : List Rule) → rest ≡ rest' → next ≡ now
    → IsReadTo root old rules now rest → IsReadTo root old rules next rest'
read_same root old now next rules rest rest' e same to = record {
  state = ap (λ s. state_after root s rest') same ∙ sym (ap (state_after root now) e) ∙ to.state;
  fault = ap (λ s. first_fault root s rest') same ∙ sym (ap (first_fault root now) e) ∙ to.fault;
}

pub handed_on : {T E : Type 0} (r : Result T E) (e : E) (P : E → Type 0)
    → IsErrAnd r (λ x. x ≡ e) → P e → IfErr r P
handed_on (Ok x) e P is p = tt
handed_on (Err x) e P is p = subst P (sym is) p

-- ---- ranges

abbrev pub lone_relations : Strength → ℕ → ℕ → List Rule
lone_relations strength code end = map (lone_relation strength) (filter is_scalar (range_with_len code (end - code)))

codes_from : (code end : ℕ) → code < end → range_with_len code (end - code) ≡ code ∷ range_with_len (code + 1) (end - (code + 1))
codes_from code end less =
    let next : end - code ≡ suc (end - (code + 1)) = omega arith in
    ap (range_with_len code) next

pub scalar_next : (strength : Strength) (code end c : ℕ) → code < end → is_scalar code ≡ true → c ≡ code
    → lone_relations strength code end ≡ lone_relation strength c ∷ lone_relations strength (code + 1) end
scalar_next strength code end c less scalar is =
    let rest = range_with_len (code + 1) (end - (code + 1)) in
    ap (λ cs. map (lone_relation strength) (filter is_scalar cs)) (codes_from code end less)
    ∙ ap (λ b. map (lone_relation strength) (cond b (code ∷ filter is_scalar rest) (filter is_scalar rest))) scalar
    ∙ ap (λ d. lone_relation strength d ∷ lone_relations strength (code + 1) end) (sym is)

pub scalar_none : (strength : Strength) (code end : ℕ) → code < end → is_scalar code ≡ false
    → lone_relations strength code end ≡ lone_relations strength (code + 1) end
scalar_none strength code end less scalar =
    let rest = range_with_len (code + 1) (end - (code + 1)) in
    ap (λ cs. map (lone_relation strength) (filter is_scalar cs)) (codes_from code end less)
    ∙ ap (λ b. map (lone_relation strength) (cond b (code ∷ filter is_scalar rest) (filter is_scalar rest))) scalar

pub range_next : (strength : Strength) (ranges : List CharacterRange) (i : ℕ) (d : CharacterRange) → i < length ranges
    → map (lone_relation strength) (flat_map characters_of (drop i ranges))
    ≡ map (lone_relation strength) (characters_of (get_or ranges i d))
    ++ map (lone_relation strength) (flat_map characters_of (drop (i + 1) ranges))
range_next strength ranges i d small =
    at_drop_more (λ rs. map (lone_relation strength) (flat_map characters_of rs)) ranges i d small
    ∙ map-append (lone_relation strength) (characters_of (get_or ranges i d)) (flat_map characters_of (drop (i + 1) ranges))

-- ---- statements

-- statements were read up to some of them
pub record IsPlacedTo (root : Root) (placed : List PlacedStatement) (now : TailoringState) (rest : List PlacedStatement) : Type 0 where
  pub state : state_after root now (rules_of rest) ≡ state_after root (first_state root) (rules_of placed)
  pub error : first_rule_error root now rest ≡ first_rule_error root (first_state root) placed

pub none_placed : (root : Root) (placed : List PlacedStatement) (now : TailoringState) → now ≡ first_state root
    → IsPlacedTo root placed now placed
none_placed root placed now is = record {
  state = ap (λ s. state_after root s (rules_of placed)) is;
  error = ap (λ s. first_rule_error root s placed) is;
}

pub one_placed : (root : Root) (placed : List PlacedStatement) (now next : TailoringState) (rest rest' : List PlacedStatement)
    (p : PlacedStatement) → rest ≡ p ∷ rest' → IsPlacedTo root placed now rest
    → ReadsRules root (statement_rules p.statement) now next → IsPlacedTo root placed next rest'
one_placed root placed now next rest rest' p e to read = record {
  state =
      ap (λ s. state_after root s (rules_of rest')) read.state
      ∙ sym (after_both root now (statement_rules p.statement) (rules_of rest'))
      ∙ sym (ap (λ ps. state_after root now (rules_of ps)) e) ∙ to.state;
  error =
      ap (λ s. first_rule_error root s rest') read.state
      ∙ sym (ap (λ f. or_error p f (first_rule_error root (state_after root now (statement_rules p.statement)) rest')) read.sound)
      ∙ sym (ap (first_rule_error root now) e) ∙ to.error;
}
