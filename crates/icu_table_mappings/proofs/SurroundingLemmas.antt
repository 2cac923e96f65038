-- Look-ups by lists of characters: what an insertion changes of them, and what `get` finds.
use Rattle.std.proofs.Common.{◌≡◌, ℕ, Bool, true, false, List, [], ◌∷◌, Option, Some, None, refl, sym, ap, ◌∙◌, if◌then◌else◌}
use Rattle.std.specs.BTreeMap.{insert_entry}
use Rattle.std.specs.Cmp.Lexicographic.{slice_cmp}
use Rattle.std.specs.Option.{option_or}
use Rattle.std.specs.List.{AllByRecursion}
use Rattle.std.proofs.lemmas.Cmp.{nat_list_eq_equiv}
use Rattle.std.specs.Global.{Vec}
use Rattle.std.specs.List.Sorted.{IsStrictlySortedBy}
use Rattle.std.specs.Map.{lookup, keys_of, remove_entry}
use Rattle.std.specs.Ordering.{match_ordering, is_eq, nat_cmp}
use Rattle.std.specs.Str.{bytes_eq}
use Rattle.std.specs.declared.cmp.Ordering.{Ordering}
use Rattle.std.specs.declared.cmp.Ordering.TheVariants.{Less, Equal, Greater}
use Rattle.std.proofs.lemmas.Map.Text.{is_eq-slice_cmp}
use Rattle.std.proofs.lemmas.Slice.Eq.{bytes_eq-Decides}
use Rattle.icu_table_mappings.specs.Surroundings.{value_among}
use Rattle.icu_table_mappings.specs.inner.ContextParts.{last_among}

-- the order of keys
abbrev pub key_order : Vec ℕ → Vec ℕ → Ordering
key_order k l = slice_cmp nat_cmp k.items l.items

-- the same characters either way round
pub same_either_way : (xs ys : List ℕ) → bytes_eq xs ys ≡ bytes_eq ys xs
same_either_way xs ys = nat_list_eq_equiv.symm xs ys

-- what `get` finds
pub found_among : {X : Type 0} (es : List (Vec ℕ × X)) (chars : List ℕ)
    → lookup (λ k. is_eq (slice_cmp nat_cmp chars k.items)) es ≡ value_among es chars
unfolding value_among
found_among [] chars = refl
found_among (e ∷ es) chars =
    ap (λ b. if b then Some e.1 else lookup (λ k. is_eq (slice_cmp nat_cmp chars k.items)) es)
    (is_eq-slice_cmp chars e.0.items ∙ same_either_way chars e.0.items)
    ∙ ap (λ o. if bytes_eq e.0.items chars then Some e.1 else o) (found_among es chars)

-- the same list, from the test
pub same_from_true : (xs ys : List ℕ) → bytes_eq xs ys ≡ true → xs ≡ ys
same_from_true xs ys h = (bytes_eq-Decides xs ys).0 h

over_again : {X : Type 0} (b : Bool) (v w : X) (o : Option X)
    → (if b then Some v else o) ≡ (if b then Some v else (if b then Some w else o))
over_again true v w o = refl
over_again false v w o = refl

apart : {O : Type 0} (a b : Bool) (x y z : O) → (a ≡ true → b ≡ true → ⊥)
    → (if a then x else (if b then y else z)) ≡ (if b then y else (if a then x else z))
apart true true x y z never = absurd (never refl refl)
apart true false x y z never = refl
apart false true x y z never = refl
apart false false x y z never = refl

differ : (ks es chars : List ℕ) → bytes_eq ks es ≡ false → bytes_eq es chars ≡ true → bytes_eq ks chars ≡ true → ⊥
differ ks es chars same p q =
    let e : es ≡ chars = same_from_true es chars p in
    let k : ks ≡ chars = same_from_true ks chars q in
    let t : bytes_eq ks es ≡ true = rw e q in
    cc

inserted_here : {X : Type 0} (chars : List ℕ) (k : Vec ℕ) (v : X) (e : Vec ℕ × X) (es : List (Vec ℕ × X))
    → (value_among (insert_entry key_order es k v) chars ≡ (if bytes_eq k.items chars then Some v else value_among es chars))
    → (r : Ordering) → bytes_eq k.items e.0.items ≡ is_eq r
    → value_among (match_ordering r ((k, v) ∷ e ∷ es) ((e.0, v) ∷ es) (e ∷ insert_entry key_order es k v)) chars
    ≡ (if bytes_eq k.items chars then Some v else value_among (e ∷ es) chars)
unfolding value_among
inserted_here chars k v e es more Less same = refl
inserted_here chars k v e es more Equal same =
    rw (← same_from_true k.items e.0.items same) (over_again (bytes_eq k.items chars) v e.1 (value_among es chars))
inserted_here chars k v e es more Greater same =
    ap (λ o. if bytes_eq e.0.items chars then Some e.1 else o) more
    ∙ apart (bytes_eq e.0.items chars) (bytes_eq k.items chars) (Some e.1) (Some v) (value_among es chars) (λ p q. differ k.items e.0.items chars same p q)

-- the value at a key that was inserted, and at others
pub inserted_among : {X : Type 0} (chars : List ℕ) (es : List (Vec ℕ × X)) (k : Vec ℕ) (v : X)
    → value_among (insert_entry key_order es k v) chars ≡ (if bytes_eq k.items chars then Some v else value_among es chars)
unfolding value_among
inserted_among chars [] k v = refl
inserted_among chars (e ∷ es) k v =
    inserted_here chars k v e es (inserted_among chars es k v) (key_order k e.0) (sym (is_eq-slice_cmp k.items e.0.items))

-- keys above one with these characters have others
none_above : {X : Type 0} (k : Vec ℕ) (es : List (Vec ℕ × X)) (chars : List ℕ) → AllByRecursion (λ l. key_order k l ≡ Less) (keys_of es)
    → bytes_eq k.items chars ≡ true → value_among es chars ≡ None
unfolding value_among
none_above k [] chars above here = refl
none_above k (e ∷ es) chars above here =
    let apart : bytes_eq k.items e.0.items ≡ false = sym (is_eq-slice_cmp k.items e.0.items) ∙ ap is_eq above.0 in
    let other : bytes_eq e.0.items chars ≡ false = not_here k.items e.0.items chars apart here in
    ap (λ b. if b then Some e.1 else value_among es chars) other ∙ none_above k es chars above.1 here where
      not_here : (ks es chars : List ℕ) → bytes_eq ks es ≡ false → bytes_eq ks chars ≡ true → bytes_eq es chars ≡ false
      not_here ks es chars apart here =
          let k : ks ≡ chars = same_from_true ks chars here in
          same_either_way es chars ∙ rw (sym k) apart

last_here : {X : Type 0} (b : Bool) (v : X) (rest other : Option X) → (b ≡ true → rest ≡ None)
    → option_or rest (if b then Some v else other) ≡ option_or (if b then Some v else rest) other
last_here true v rest other none = ap (λ r. option_or r (Some v)) (none refl)
last_here false v rest other none = refl

-- of keys that ascend, the last with some characters is the first with them
pub last_is_first : {X : Type 0} (es : List (Vec ℕ × X)) (other : Option X) (chars : List ℕ) → IsStrictlySortedBy key_order (keys_of es)
    → last_among es other chars ≡ option_or (value_among es chars) other
unfolding value_among last_among IsStrictlySortedBy
last_is_first [] other chars up = refl
last_is_first (e ∷ es) other chars up =
    last_is_first es (if bytes_eq e.0.items chars then Some e.1 else other) chars up.1
    ∙ last_here (bytes_eq e.0.items chars) e.1 (value_among es chars) other (λ here. none_above e.0 es chars up.0 here)

-- one entry more of those that are left
pub last_turn : {X : Type 0} (chars : List ℕ) (left next old new : List (Vec ℕ × X)) (key copy : Vec ℕ) (v : X) (all : Option X)
    → left ≡ (key, v) ∷ next → new ≡ insert_entry key_order old copy v → copy.items ≡ key.items
    → last_among left (value_among old chars) chars ≡ all → last_among next (value_among new chars) chars ≡ all
unfolding last_among
last_turn chars left next old new key copy v all steps entries same before =
    ap (λ es. last_among next (value_among es chars) chars) entries
    ∙ ap (λ o. last_among next o chars) (inserted_among chars old copy v)
    ∙ ap (λ ks. last_among next (if bytes_eq ks chars then Some v else value_among old chars) chars) same
    ∙ sym (ap (λ es. last_among es (value_among old chars) chars) steps)
    ∙ before

-- none is left
pub last_end : {X : Type 0} (chars : List ℕ) (left new more : List (Vec ℕ × X)) (other : Option X)
    → left ≡ [] → IsStrictlySortedBy key_order (keys_of more)
    → last_among left (value_among new chars) chars ≡ last_among more other chars → value_among new chars ≡ option_or (value_among more chars) other
unfolding last_among
last_end chars left new more other done up all =
    sym (ap (λ es. last_among es (value_among new chars) chars) done) ∙ all ∙ last_is_first more other chars up

-- what was inserted is found
pub found_inserted : {X : Type 0} (es : List (Vec ℕ × X)) (k : Vec ℕ) (v : X) → value_among (insert_entry key_order es k v) k.items ≡ Some v
found_inserted es k v =
    inserted_among k.items es k v
    ∙ ap (λ b. if b then Some v else value_among es k.items) ((bytes_eq-Decides k.items k.items).1 refl)

removed_here : {X : Type 0} (key chars : List ℕ) (e : Vec ℕ × X) (es rs : List (Vec ℕ × X)) → bytes_eq key chars ≡ false
    → value_among rs chars ≡ value_among es chars → (b : Bool) → bytes_eq key e.0.items ≡ b
    → value_among (if b then es else e ∷ rs) chars ≡ value_among (e ∷ es) chars
unfolding value_among
removed_here key chars e es rs other more true here =
    let apart : bytes_eq e.0.items chars ≡ false = rw (← same_from_true key e.0.items here) other in
    sym (ap (λ b. if b then Some e.1 else value_among es chars) apart)
removed_here key chars e es rs other more false here = ap (λ o. if bytes_eq e.0.items chars then Some e.1 else o) more

-- a key that was removed leaves the values at others
pub removed_among : {X : Type 0} (key chars : List ℕ) (es : List (Vec ℕ × X)) → bytes_eq key chars ≡ false
    → value_among (remove_entry (λ k. is_eq (slice_cmp nat_cmp key k.items)) es) chars ≡ value_among es chars
removed_among key chars [] other = refl
removed_among {X} key chars (e ∷ es) other =
    let rs : List (Vec ℕ × X) = remove_entry (λ k. is_eq (slice_cmp nat_cmp key k.items)) es in
    ap (λ b. value_among (if b then es else e ∷ rs) chars) (is_eq-slice_cmp key e.0.items)
    ∙ removed_here key chars e es rs other (removed_among key chars es other) (bytes_eq key e.0.items) refl
