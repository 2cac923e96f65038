-- Imports, replaced by statements.
use Rattle.std.proofs.Common.{ℕ, true, List, [], ◌∷◌, ◌++◌, map, String, ◌≡◌, inl, inr, refl, sym, ap, ◌∙◌, subst, append_assoc}
use Rattle.std.specs.Prelude.{string_bytes, chars}
use Rattle.std.specs.List.{list_all}
use Rattle.std.specs.declared.alloc.Global.{Global}
use Rattle.std.proofs.lemmas.Bool.{and_parts, not-true}
use Rattle.std.proofs.lemmas.List.{append-nil}
use Rattle.icu_rule_parser.specs.declared.rules.PlacedStatement.{PlacedStatement}
use Rattle.icu_rule_parser.specs.declared.statement.Statement.TheVariants.{Import}
use Rattle.icu_rule_parser.specs.Statements.{SpellStatements}
use Rattle.icu_rule_parser.specs.Imports.{is_import, has_no_import, outermost, led_by, StandsForImport, AddsStated, Resolve, nothing, own, imported, ResolveAs}

-- the parts of a list resolve apart
pub resolve_parts : {has : List ℕ → List ℕ → Type 0} (xs ys : List PlacedStatement) {all : List PlacedStatement} → Resolve has (xs ++ ys) all → (first second : List PlacedStatement) × Resolve has xs first × Resolve has ys second × (all ≡ first ++ second)
resolve_parts [] ys {all} r = ([], all, nothing, r, refl)
resolve_parts (x ∷ xs) ys (own n r) =
    let p = resolve_parts xs ys r in (x ∷ p.0, p.1, own n p.2, p.3, ap (λ t. x ∷ t) p.4)
resolve_parts (x ∷ xs) ys (imported inner all i a r e) =
    let p = resolve_parts xs ys r in (
      inner ++ p.0,
      p.1,
      imported inner p.0 i a p.2 refl,
      p.3,
      e ∙ ap (λ t. inner ++ t) p.4 ∙ sym (append_assoc inner p.0 p.1),
    )

pub resolve_join : {has : List ℕ → List ℕ → Type 0} (xs ys : List PlacedStatement) {first : List PlacedStatement} (second : List PlacedStatement) → Resolve has xs first → Resolve has ys second → Resolve has (xs ++ ys) (first ++ second)
resolve_join [] ys second nothing s = s
resolve_join (x ∷ xs) ys second (own n r) s = own n (resolve_join xs ys second r s)
resolve_join (x ∷ xs) ys second (imported inner all i a r e) s =
    imported inner (all ++ second) i a (resolve_join xs ys second r s)
    (ap (λ t. t ++ second) e ∙ append_assoc inner all second)

-- a statement in front resolves as what it stands for
pub resolve_stated : {has : List ℕ → List ℕ → Type 0} (placed : PlacedStatement) (added rest : List PlacedStatement) {all : List PlacedStatement} → StandsForImport has placed added → Resolve has (added ++ rest) all → Resolve has (placed ∷ rest) all
resolve_stated placed added rest (inl i) r =
    let p = resolve_parts added rest r in imported p.0 p.1 i p.2 p.3 p.4
resolve_stated {has} placed added rest {all} (inr (n, e)) r =
    let s : Resolve has (placed ∷ rest) all = subst (λ t. Resolve has (t ++ rest) all) e r in s

-- the first statements resolve as the second ones, whatever stands behind both
abbrev pub Replaced : (List ℕ → List ℕ → Type 0) → List PlacedStatement → List PlacedStatement → Type 0
Replaced has xs ys = (more all : List PlacedStatement) → Resolve has (ys ++ more) all → Resolve has (xs ++ more) all

pub replaced_step : {has : List ℕ → List ℕ → Type 0} (xs ys new_xs new_ys added : List PlacedStatement) (placed : PlacedStatement) → new_xs ≡ xs ++ placed ∷ [] → new_ys ≡ ys ++ added → StandsForImport has placed added → Replaced has xs ys → Replaced has new_xs new_ys
replaced_step {has} xs ys new_xs new_ys added placed e f s h more all r =
    let apart : Resolve has (ys ++ (added ++ more)) all =
    subst (λ t. Resolve has t all) (ap (λ t. t ++ more) f ∙ append_assoc ys added more) r in
    let p = resolve_parts ys (added ++ more) apart in
    let q = resolve_join ys (placed ∷ more) p.1 p.2 (resolve_stated placed added more s p.3) in
    subst (λ t. Resolve has t all) (sym (ap (λ t. t ++ more) e ∙ append_assoc xs (placed ∷ []) more))
    (h (placed ∷ more) all (subst (λ t. Resolve has (ys ++ placed ∷ more) t) (sym p.4) q))

-- the statements of an import are added
pub adds_imported : {has : List ℕ → List ℕ → Type 0} (placed : PlacedStatement) (tag : String Global) (bytes : List ℕ) (led : ℕ) (stated before after : List PlacedStatement) → placed.statement ≡ Import tag → bytes ≡ string_bytes tag → led ≡ outermost placed.place placed.import → ((text : List ℕ) × has bytes text × SpellStatements (map (λ p. p.statement) stated) (chars text)) → after ≡ before ++ map (led_by led) stated → AddsStated has placed before after
adds_imported {has} placed tag bytes led stated before after is same at (text, found, says) e = (
  map (led_by led) stated,
  inl (record {
    tag = tag;
    is = is;
    rules = text;
    found = subst (λ t. has t text) same found;
    stated = stated;
    says = says;
    led = ap (λ k. map (led_by k) stated) at;
  }),
  e,
)

pub replaced_all : {has : List ℕ → List ℕ → Type 0} (xs zs ys : List PlacedStatement) → xs ≡ zs → Replaced has xs ys → ResolveAs has zs ys
replaced_all {has} xs zs ys e h all r =
    subst (λ t. Resolve has t all) (append-nil xs ∙ e)
    (h [] all (subst (λ t. Resolve has t all) (sym (append-nil ys)) r))

-- where no import is, nothing is replaced
pub resolve_none : {has : List ℕ → List ℕ → Type 0} (xs : List PlacedStatement) → list_all has_no_import xs ≡ true → Resolve has xs xs
resolve_none [] h = nothing
resolve_none (x ∷ xs) h =
    let p = and_parts (has_no_import x) (list_all has_no_import xs) h in
    own (not-true (is_import x.statement) p.0) (resolve_none xs p.1)
