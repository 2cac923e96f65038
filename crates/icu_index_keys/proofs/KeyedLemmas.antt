-- Names with their keys, in the order of the keys.
use Rattle.std.proofs.Common.{◌≡◌, ℕ, suc, Bool, true, false, not, List, [], ◌∷◌, ◌++◌, filter, length, map, if◌then◌else◌, refl, sym, ap, ◌∙◌}
use Rattle.std.proofs.lemmas.Cmp.{nat_list_cmp_total}
use Rattle.std.proofs.lemmas.List.{append-nil}
use Rattle.std.specs.Global.{Vec}
use Rattle.std.specs.List.{AllByRecursion}
use Rattle.std.specs.Ordering.{is_gt, is_le, ordering_reverse}
use Rattle.std.specs.declared.cmp.Ordering.{Ordering}
use Rattle.std.specs.declared.cmp.Ordering.TheVariants.{Less, Equal, Greater}
use Rattle.icu_table_data.proofs.ListLemmas.{weaker}
use Rattle.icu_index_keys.proofs.LeafPlaceLemmas.{none_pass}
use Rattle.icu_index_keys.proofs.KeyPrefixLemmas.{less_stands}
use Rattle.icu_index_keys.specs.Borders.{border_key, lies_before, stands_before}
use Rattle.icu_index_keys.specs.KeyedLists.{Keyed, names_in, placed}
use Rattle.icu_index_keys.specs.declared.borders.Border.{Border}
use Rattle.icu_index_keys.specs.declared.borders.Border.TheVariants.{Before, Behind}
use Rattle.icu_index_keys.specs.inner.NameEntries.{keyed_in, name_in}
use Rattle.icu_index_keys.specs.declared.name_entries.Entry.{Entry}
use Rattle.icu_index_keys.specs.inner.Leaves.{IsParted, Rise, entries_of}
use Rattle.icu_order_levels.specs.ListOrder.{list_order}

-- ---- the order of keys

-- no key that is greater
abbrev AtMost : List ℕ → List ℕ → Type 0
AtMost k l = is_gt (list_order k l) ≡ false

same_right : (k l m : List ℕ) → list_order l m ≡ Equal → list_order k l ≡ list_order k m
same_right k l m e =
    nat_list_cmp_total.antisymm k l ∙ (ap ordering_reverse (nat_list_cmp_total.congr l m k e) ∙ sym (nat_list_cmp_total.antisymm k m))

chain_at : (k l m : List ℕ) (o p : Ordering) → list_order k l ≡ o → list_order l m ≡ p → is_gt o ≡ false → is_gt p ≡ false → AtMost k m
chain_at k l m Less Less e f h i = ap is_gt (nat_list_cmp_total.trans k l m e f)
chain_at k l m Less Equal e f h i = ap is_gt (sym (same_right k l m f) ∙ e)
chain_at k l m Less Greater e f h i = cc
chain_at k l m Equal p e f h i = ap is_gt (nat_list_cmp_total.congr k l m e ∙ f) ∙ i
chain_at k l m Greater p e f h i = cc

pub chain : (k l m : List ℕ) → AtMost k l → AtMost l m → AtMost k m
chain k l m h i = chain_at k l m (list_order k l) (list_order l m) refl refl h i

greater_above : (k l : List ℕ) (o : Ordering) → list_order l k ≡ o → is_gt o ≡ true → AtMost k l
greater_above k l Less e h = cc
greater_above k l Equal e h = cc
greater_above k l Greater e h = ap is_gt (nat_list_cmp_total.antisymm k l ∙ ap ordering_reverse e)

-- ---- borders buffer_part keys that rise

greater_stays : (b : Border) → stands_before b Greater ≡ false
greater_stays (Before key) = refl
greater_stays (Behind key) = refl

later_at : (b : Border) (k l : List ℕ) (o p : Ordering) → list_order k l ≡ o → list_order l (border_key b) ≡ p → lies_before b k ≡ false → is_gt o ≡ false → stands_before b p ≡ false
later_at b k l Less Less e f h i =
    let less = less_stands (list_order k (border_key b)) b (nat_list_cmp_total.trans k l (border_key b) e f) in absurd (cc)
later_at b k l Less Equal e f h i =
    let less = less_stands (list_order k (border_key b)) b (sym (same_right k l (border_key b) f) ∙ e) in absurd (cc)
later_at b k l Less Greater e f h i = greater_stays b
later_at b k l Equal p e f h i = ap (stands_before b) (sym f ∙ sym (nat_list_cmp_total.congr k l (border_key b) e)) ∙ h
later_at b k l Greater p e f h i = cc

later : (b : Border) (k l : List ℕ) → lies_before b k ≡ false → AtMost k l → lies_before b l ≡ false
later b k l h i = later_at b k l (list_order k l) (list_order l (border_key b)) refl refl h i

pub keys_parted : (b : Border) (ks : List (List ℕ)) → Rise ks → IsParted (lies_before b) ks
keys_parted b [] rise = tt
keys_parted b (k ∷ ks) rise = (λ h. weaker (AtMost k) (λ l. lies_before b l ≡ false) (λ l i. later b k l h i) ks rise.0, keys_parted b ks rise.1)

-- ---- tests along a function

module _ {X Y : Type 0} (f : X → Y) (t : X → Bool) (s : Y → Bool) where
  abbrev Agree : List X → Type 0
  Agree xs = AllByRecursion (λ x. t x ≡ s (f x)) xs

  all_along : (xs : List X) → Agree xs → AllByRecursion (λ y. s y ≡ false) (map f xs) → AllByRecursion (λ x. t x ≡ false) xs
  all_along [] agree h = tt
  all_along (x ∷ xs) agree h = (agree.0 ∙ h.0, all_along xs agree.1 h.1)

  pub parted_along : (xs : List X) → Agree xs → IsParted s (map f xs) → IsParted t xs
  parted_along [] agree parted = tt
  parted_along (x ∷ xs) agree parted = (λ e. all_along xs agree.1 (parted.0 (sym agree.0 ∙ e)), parted_along xs agree.1 parted.1)

  kept_along : (b : Bool) (x : X) (xs : List X) (ys : List Y) → map f xs ≡ ys → map f (if b then x ∷ xs else xs) ≡ (if b then f x ∷ ys else ys)
  kept_along true x xs ys e = ap (λ zs. f x ∷ zs) e
  kept_along false x xs ys e = e

  pub filter_along : (xs : List X) → Agree xs → map f (filter t xs) ≡ filter s (map f xs)
  filter_along [] agree = refl
  filter_along (x ∷ xs) agree =
      kept_along (t x) x (filter t xs) (filter s (map f xs)) (filter_along xs agree.1) ∙ ap (λ b. if b then f x ∷ filter s (map f xs) else filter s (map f xs)) agree.0

pub map_same : {X Y : Type 0} (f g : X → Y) (xs : List X) → AllByRecursion (λ x. f x ≡ g x) xs → map f xs ≡ map g xs
map_same f g [] h = refl
map_same f g (x ∷ xs) h = ap (λ y. y ∷ map f xs) h.0 ∙ ap (λ ys. g x ∷ ys) (map_same f g xs h.1)

kept_of : {X : Type 0} (P : X → Type 0) (b : Bool) (x : X) (xs : List X) → P x → AllByRecursion P xs → AllByRecursion P (if b then x ∷ xs else xs)
kept_of P true x xs p h = (p, h)
kept_of P false x xs p h = h

pub all_filter : {X : Type 0} (P : X → Type 0) (t : X → Bool) (xs : List X) → AllByRecursion P xs → AllByRecursion P (filter t xs)
all_filter P t [] h = tt
all_filter P t (x ∷ xs) h = kept_of P (t x) x (filter t xs) h.0 (all_filter P t xs h.1)

-- ---- a name in its place

abbrev keys : List Keyed → List (List ℕ)
keys xs = map (λ (x : Keyed). x.0) xs

up_to : (o : Ordering) → is_le o ≡ not (is_gt o)
up_to Less = refl
up_to Equal = refl
up_to Greater = refl

module _ (x : Keyed) where
  abbrev stays : Keyed → Bool
  stays y = is_le (list_order y.0 x.0)

  placed_at : (b : Bool) (y : Keyed) (ys : List Keyed) → is_gt (list_order y.0 x.0) ≡ b → IsParted stays (y ∷ ys)
      → placed x ys ≡ filter stays ys ++ x ∷ filter (λ z. not (stays z)) ys
      → (if b then x ∷ y ∷ ys else y ∷ placed x ys) ≡ filter stays (y ∷ ys) ++ x ∷ filter (λ z. not (stays z)) (y ∷ ys)
  placed_at true y ys e parted more =
      let fails : stays y ≡ false = up_to (list_order y.0 x.0) ∙ ap not e in
      let none = none_pass stays (y ∷ ys) (fails, parted.0 fails) in
      sym (ap (λ zs. zs ++ x ∷ filter (λ z. not (stays z)) (y ∷ ys)) none.0 ∙ ap (λ zs. x ∷ zs) none.1)
  placed_at false y ys e parted more =
      let passes : stays y ≡ true = up_to (list_order y.0 x.0) ∙ ap not e in
      rw passes (ap (λ zs. y ∷ zs) more)

  pub placed_is : (ys : List Keyed) → IsParted stays ys → placed x ys ≡ filter stays ys ++ x ∷ filter (λ z. not (stays z)) ys
  placed_is [] parted = refl
  placed_is (y ∷ ys) parted = placed_at (is_gt (list_order y.0 x.0)) y ys refl parted (placed_is ys parted.1)

  all_at : (P : List ℕ → Type 0) (b : Bool) (y : Keyed) (ys : List Keyed) → P x.0 → AllByRecursion P (keys (y ∷ ys)) → AllByRecursion P (keys (placed x ys))
      → AllByRecursion P (keys (if b then x ∷ y ∷ ys else y ∷ placed x ys))
  all_at P true y ys p h more = (p, h)
  all_at P false y ys p h more = (h.0, more)

  all_placed : (P : List ℕ → Type 0) (ys : List Keyed) → P x.0 → AllByRecursion P (keys ys) → AllByRecursion P (keys (placed x ys))
  all_placed P [] p h = (p, tt)
  all_placed P (y ∷ ys) p h = all_at P (is_gt (list_order y.0 x.0)) y ys p h (all_placed P ys p h.1)

  rise_at : (b : Bool) (y : Keyed) (ys : List Keyed) → is_gt (list_order y.0 x.0) ≡ b → Rise (keys (y ∷ ys)) → Rise (keys (placed x ys))
      → Rise (keys (if b then x ∷ y ∷ ys else y ∷ placed x ys))
  rise_at true y ys e rise more =
      let first = greater_above x.0 y.0 (list_order y.0 x.0) refl e in
      ((first, weaker (AtMost y.0) (AtMost x.0) (λ z h. chain x.0 y.0 z first h) (keys ys) rise.0), rise)
  rise_at false y ys e rise more = (all_placed (AtMost y.0) ys e rise.0, more)

  pub rise_placed : (ys : List Keyed) → Rise (keys ys) → Rise (keys (placed x ys))
  rise_placed [] rise = (tt, tt)
  rise_placed (y ∷ ys) rise = rise_at (is_gt (list_order y.0 x.0)) y ys refl rise (rise_placed ys rise.1)

  length_at : (b : Bool) (y : Keyed) (ys : List Keyed) → length (placed x ys) ≡ suc (length ys) → length (if b then x ∷ y ∷ ys else y ∷ placed x ys) ≡ suc (suc (length ys))
  length_at true y ys h = refl
  length_at false y ys h = ap suc h

  pub length_placed : (ys : List Keyed) → length (placed x ys) ≡ suc (length ys)
  length_placed [] = refl
  length_placed (y ∷ ys) = length_at (is_gt (list_order y.0 x.0)) y ys (length_placed ys)

pub map_append : {X Y : Type 0} (f : X → Y) (xs ys : List X) → map f (xs ++ ys) ≡ map f xs ++ map f ys
map_append f [] ys = refl
map_append f (x ∷ xs) ys = ap (λ zs. f x ∷ zs) (map_append f xs ys)

-- ---- the names of entries

pub names_are : (bytes : List ℕ) (es : List Entry) → map (name_in bytes) es ≡ names_in (map (keyed_in bytes) es)
names_are bytes [] = refl
names_are bytes (e ∷ es) = ap (λ ns. name_in bytes e ∷ ns) (names_are bytes es)

pub names_of : (bytes read : List ℕ) → read ≡ bytes → (leaves got : List (Vec Entry)) → got ≡ leaves
    → map (name_in read) (entries_of got ++ []) ≡ names_in (map (keyed_in bytes) (entries_of leaves))
names_of bytes read is leaves got at =
    ap (λ bs. map (name_in bs) (entries_of got ++ [])) is
    ∙ (ap (λ ls. map (name_in bytes) (entries_of ls ++ [])) at
    ∙ (ap (map (name_in bytes)) (append-nil (entries_of leaves)) ∙ names_are bytes (entries_of leaves)))
