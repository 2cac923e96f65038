-- Characters whose contexts are resolved, one by one.
use Rattle.std.proofs.Common.{◌≡◌, ℕ, Bool, true, false, List, [], ◌∷◌, Option, Some, None, refl, sym, ap, subst, ◌∙◌, if◌then◌else◌, arith}
use Rattle.std.specs.Prelude.{◌==◌, unwrap_or}
use Rattle.icu_table_entries.specs.EncodedEntries.{implicit_entry}
use Rattle.std.specs.BTreeMap.{get, is_at}
use Rattle.std.specs.List.{AllByRecursion}
use Rattle.std.specs.List.Sorted.{IsStrictlySortedBy}
use Rattle.std.specs.Map.{lookup, keys_of}
use Rattle.std.specs.Ordering.{is_eq, nat_cmp}
use Rattle.std.specs.declared.cmp.Ordering.TheVariants.{Less}
use Rattle.std.proofs.lemmas.Bool.Decides.{nat_tests}
use Rattle.std.proofs.lemmas.Bool.{eqb-true}
use Rattle.icu_table_data.specs.Data.{Data}
use Rattle.icu_cldr_root.specs.CharacterEntries.{entry_of_char}
use Rattle.icu_table_mappings.specs.Given.{Gives}
use Rattle.icu_cldr_root.specs.inner.LineEntries.{Around, Plain}
use Rattle.icu_cldr_root.specs.inner.Resolved.{GivesAll, IsResolved}
use Rattle.icu_table_mappings.specs.GrownLists.{Extends}
use Rattle.icu_table_mappings.specs.Surroundings.{Surroundings}
use Rattle.icu_table_mappings.proofs.GrownListLemmas.{leads_further}
use Rattle.icu_cldr_root.proofs.RootValueLemmas.{at_same}

-- the contexts of a character among those that are left
abbrev pub left_at : List (ℕ × Surroundings) → ℕ → Option Surroundings
left_at left x = lookup (is_at (nat_cmp x)) left

none_above : (k x : ℕ) (es : List (ℕ × Surroundings)) → AllByRecursion (λ l. nat_cmp k l ≡ Less) (keys_of es) → (k == x) ≡ true → left_at es x ≡ None
none_above k x [] above here = refl
none_above k x (e ∷ es) above here =
    let less : nat_cmp x e.0 ≡ Less = subst (λ y. nat_cmp y e.0 ≡ Less) (eqb-true k x here) above.0 in
    ap (λ o. if is_eq o then Some e.1 else left_at es x) less ∙ none_above k x es above.1 here

first_at : (left next : List (ℕ × Surroundings)) (k x : ℕ) (v : Surroundings) → left ≡ (k, v) ∷ next → left_at left x ≡ (if k == x then Some v else left_at next x)
first_at left next k x v steps = ap (λ es. left_at es x) steps ∙ ap (λ b. if b then Some v else left_at next x) (at_same x k)

sorted_next : (left next : List (ℕ × Surroundings)) (k : ℕ) (v : Surroundings) → left ≡ (k, v) ∷ next → IsStrictlySortedBy nat_cmp (keys_of left)
    → AllByRecursion (λ l. nat_cmp k l ≡ Less) (keys_of next)
unfolding IsStrictlySortedBy
sorted_next left next k v steps up =
    let all : IsStrictlySortedBy nat_cmp (keys_of ((k, v) ∷ next)) = subst (λ es. IsStrictlySortedBy nat_cmp (keys_of es)) steps up in
    all.0

sorted_rest : (left next : List (ℕ × Surroundings)) (k : ℕ) (v : Surroundings) → left ≡ (k, v) ∷ next → IsStrictlySortedBy nat_cmp (keys_of left)
    → IsStrictlySortedBy nat_cmp (keys_of next)
unfolding IsStrictlySortedBy
sorted_rest left next k v steps up =
    let all : IsStrictlySortedBy nat_cmp (keys_of ((k, v) ∷ next)) = subst (λ es. IsStrictlySortedBy nat_cmp (keys_of es)) steps up in
    all.1

resolved_further : (d new : Data) (found : Option Surroundings) (own : ℕ) (old is : Option ℕ) → Extends d new → IsResolved d found own old is → IsResolved new found own old is
resolved_further d new None own old is grows h = h
resolved_further d new (Some all) own old is grows (e, has, gives) = (
  e,
  has,
  λ before after f behind near.
      let g : Gives d e before after f = gives before after f behind near in
      record { behind = g.behind; prefix = leads_further _ d new e before g.behind grows.lists g.prefix; contraction = leads_further _ d new g.behind after f grows.lists g.contraction },
)

-- how far the contexts of characters are resolved
pub record ResolvedSoFar (contexts : Around) (d : Data) (old now : Plain) (left : List (ℕ × Surroundings)) : Type 0 where
  pub sorted : IsStrictlySortedBy nat_cmp (keys_of left)
  pub found : (x : ℕ) (v : Surroundings) → left_at left x ≡ Some v → get nat_cmp contexts x ≡ Some v
  pub pending : (x : ℕ) (v : Surroundings) → left_at left x ≡ Some v → get nat_cmp now x ≡ get nat_cmp old x
  pub resolved : (x : ℕ) → left_at left x ≡ None → IsResolved d (get nat_cmp contexts x) (entry_of_char old x) (get nat_cmp old x) (get nat_cmp now x)

pub none_resolved : (contexts : Around) (d : Data) (old : Plain) (left : List (ℕ × Surroundings)) → left ≡ contexts.entries → IsStrictlySortedBy nat_cmp (keys_of contexts.entries)
    → ResolvedSoFar contexts d old old left
none_resolved contexts d old left all up = record {
  sorted = subst (λ es. IsStrictlySortedBy nat_cmp (keys_of es)) (sym all) up;
  found = λ x v h. sym (ap (λ es. left_at es x) all) ∙ h;
  pending = λ x v h. refl;
  resolved = λ x h.
      let none : get nat_cmp contexts x ≡ None = sym (ap (λ es. left_at es x) all) ∙ h in
      subst (λ o. IsResolved d o (entry_of_char old x) (get nat_cmp old x) (get nat_cmp old x)) (sym none) refl;
}

module _ (contexts : Around) (d new : Data) (old now after : Plain) (left next : List (ℕ × Surroundings)) (k e : ℕ) (v : Surroundings)
    (so_far : ResolvedSoFar contexts d old now left) (steps : left ≡ (k, v) ∷ next) (grows : Extends d new)
    (gives : GivesAll new v (entry_of_char now k) e) (here : get nat_cmp after k ≡ Some e)
    (others : (x : ℕ) → (k == x) ≡ false → get nat_cmp after x ≡ get nat_cmp now x) where
  at_first : left_at left k ≡ Some v
  at_first = first_at left next k k v steps ∙ ap (λ b. if b then Some v else left_at next k) (same k) where
    same : (n : ℕ) → (n == n) ≡ true
    same n = grind (arith, nat_tests)

  gone : (x : ℕ) → (k == x) ≡ true → left_at next x ≡ None
  gone x same = none_above k x next (sorted_next left next k v steps so_far.sorted) same

  in_left : (x : ℕ) (o : Option Surroundings) → (k == x) ≡ false → left_at next x ≡ o → left_at left x ≡ o
  in_left x o other h = first_at left next k x v steps ∙ ap (λ b. if b then Some v else left_at next x) other ∙ h

  later_found : (x : ℕ) (u : Surroundings) (b : Bool) → (k == x) ≡ b → left_at next x ≡ Some u → get nat_cmp contexts x ≡ Some u
  later_found x u true same h = let none : left_at next x ≡ None = gone x same in cc
  later_found x u false other h = so_far.found x u (in_left x (Some u) other h)

  later_pending : (x : ℕ) (u : Surroundings) (b : Bool) → (k == x) ≡ b → left_at next x ≡ Some u → get nat_cmp after x ≡ get nat_cmp old x
  later_pending x u true same h = let none : left_at next x ≡ None = gone x same in cc
  later_pending x u false other h = others x other ∙ so_far.pending x u (in_left x (Some u) other h)

  own_stays : entry_of_char now k ≡ entry_of_char old k
  own_stays = ap (λ (o : Option ℕ). unwrap_or o implicit_entry) (so_far.pending k v at_first)

  here_resolved : IsResolved new (get nat_cmp contexts k) (entry_of_char old k) (get nat_cmp old k) (get nat_cmp after k)
  here_resolved =
      subst (λ (o : Option Surroundings). IsResolved new o (entry_of_char old k) (get nat_cmp old k) (get nat_cmp after k)) (sym (so_far.found k v at_first))
      (e, here, subst (λ own. GivesAll new v own e) own_stays gives)

  now_resolved : (x : ℕ) (b : Bool) → (k == x) ≡ b → left_at next x ≡ None
      → IsResolved new (get nat_cmp contexts x) (entry_of_char old x) (get nat_cmp old x) (get nat_cmp after x)
  now_resolved x true same h =
      subst (λ y. IsResolved new (get nat_cmp contexts y) (entry_of_char old y) (get nat_cmp old y) (get nat_cmp after y)) (eqb-true k x same) here_resolved
  now_resolved x false other h =
      subst (λ (o : Option ℕ). IsResolved new (get nat_cmp contexts x) (entry_of_char old x) (get nat_cmp old x) o) (sym (others x other))
      (resolved_further d new (get nat_cmp contexts x) (entry_of_char old x) (get nat_cmp old x) (get nat_cmp now x) grows (so_far.resolved x (in_left x None other h)))

  -- one character more
  pub one_resolved : ResolvedSoFar contexts new old after next
  one_resolved = record {
    sorted = sorted_rest left next k v steps so_far.sorted;
    found = λ x u h. later_found x u (k == x) refl h;
    pending = λ x u h. later_pending x u (k == x) refl h;
    resolved = λ x h. now_resolved x (k == x) refl h;
  }

-- all are
pub all_resolved : (contexts : Around) (d : Data) (old now : Plain) (left : List (ℕ × Surroundings)) → left ≡ [] → ResolvedSoFar contexts d old now left
    → (x : ℕ) → IsResolved d (get nat_cmp contexts x) (entry_of_char old x) (get nat_cmp old x) (get nat_cmp now x)
all_resolved contexts d old now left done so_far x = so_far.resolved x (ap (λ es. left_at es x) done)
