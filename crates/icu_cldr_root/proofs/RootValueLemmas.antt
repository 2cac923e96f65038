-- Entries that are given to characters, one by one.
use Rattle.std.proofs.Common.{◌≡◌, ℕ, Bool, true, false, List, [], ◌∷◌, Option, Some, None, refl, sym, ap, subst, ◌∙◌, if◌then◌else◌, arith}
use Rattle.std.specs.Prelude.{◌==◌, ◌&&◌, nat_le, nat_lt, unwrap_or}
use Rattle.std.specs.BTreeMap.{get, is_at}
use Rattle.std.specs.List.{AllByRecursion}
use Rattle.std.specs.List.Sorted.{IsStrictlySortedBy}
use Rattle.std.specs.Map.{lookup, keys_of}
use Rattle.std.specs.Ordering.{is_eq, nat_cmp}
use Rattle.std.specs.declared.cmp.Ordering.TheVariants.{Less, Equal, Greater}
use Rattle.std.proofs.lemmas.Bool.Decides.{nat_tests}
use Rattle.std.proofs.lemmas.Bool.{eqb-true}
use Rattle.icu_table_data.specs.Data.{Data}
use Rattle.icu_table_provider.specs.builder.Building.{set_in}
use Rattle.icu_cldr_root.specs.inner.LineEntries.{Plain}
use Rattle.icu_cldr_root.specs.inner.RootValues.{last_given}

same_test : (k x : ℕ) → (nat_le k x && nat_le x k) ≡ (k == x)
same_test k x = grind (arith, nat_tests)

pub at_same : (x k : ℕ) → is_at (nat_cmp x) k ≡ (k == x)
at_same x k = by_tests (nat_lt x k) (x == k) (k == x) (apart x k) (either x k) where
  apart : (x k : ℕ) → nat_lt x k ≡ true → (k == x) ≡ false
  apart x k h = grind (arith, nat_tests)

  either : (x k : ℕ) → (x == k) ≡ (k == x)
  either x k = grind (arith, nat_tests)

  by_tests : (a b t : Bool) → (a ≡ true → t ≡ false) → b ≡ t → is_eq (if a then Less else (if b then Equal else Greater)) ≡ t
  by_tests true b t h e = sym (h refl)
  by_tests false true t h e = e
  by_tests false false t h e = e

-- keys above one have others
none_above : (k x : ℕ) (es : List (ℕ × ℕ)) → AllByRecursion (λ l. nat_cmp k l ≡ Less) (keys_of es) → (k == x) ≡ true → lookup (is_at (nat_cmp x)) es ≡ None
none_above k x [] above here = refl
none_above k x (e ∷ es) above here =
    let less : nat_cmp x e.0 ≡ Less = subst (λ y. nat_cmp y e.0 ≡ Less) (eqb-true k x here) above.0 in
    ap (λ o. if is_eq o then Some e.1 else lookup (is_at (nat_cmp x)) es) less ∙ none_above k x es above.1 here

last_here : (b : Bool) (v other : ℕ) (rest : Option ℕ) → (b ≡ true → rest ≡ None)
    → unwrap_or rest (if b then v else other) ≡ unwrap_or (if b then Some v else rest) other
last_here true v other rest none = ap (λ r. unwrap_or r v) (none refl)
last_here false v other rest none = refl

-- of keys that ascend, the last is the one that is found
last_is_found : (es : List (ℕ × ℕ)) (x other : ℕ) → IsStrictlySortedBy nat_cmp (keys_of es)
    → last_given es x other ≡ unwrap_or (lookup (is_at (nat_cmp x)) es) other
unfolding last_given IsStrictlySortedBy
last_is_found [] x other up = refl
last_is_found (e ∷ es) x other up =
    last_is_found es x (if e.0 == x then e.1 else other) up.1
    ∙ last_here (e.0 == x) e.1 other (lookup (is_at (nat_cmp x)) es) (λ here. none_above e.0 x es up.0 here)
    ∙ ap (λ b. unwrap_or (if b then Some e.1 else lookup (is_at (nat_cmp x)) es) other) (sym (at_same x e.0))

-- one entry more was given
pub given_turn : (x : ℕ) (left next : List (ℕ × ℕ)) (k v : ℕ) (old new : Data) (all : ℕ) → left ≡ (k, v) ∷ next → new ≡ set_in old k k v
    → last_given left x (old.value x) ≡ all → last_given next x (new.value x) ≡ all
unfolding last_given
given_turn x left next k v old new all steps sets before =
    ap (λ (d : Data). last_given next x (d.value x)) sets
    ∙ ap (λ b. last_given next x (if b then v else old.value x)) (same_test k x)
    ∙ sym (ap (λ es. last_given es x (old.value x)) steps)
    ∙ before

-- all were given
pub given_all : (x : ℕ) (left : List (ℕ × ℕ)) (m : Plain) (value other : ℕ) → left ≡ [] → IsStrictlySortedBy nat_cmp (keys_of m.entries)
    → last_given left x value ≡ last_given m.entries x other → value ≡ unwrap_or (get nat_cmp m x) other
unfolding last_given
given_all x left m value other done up before =
    sym (ap (λ es. last_given es x value) done) ∙ before ∙ last_is_found m.entries x other up
