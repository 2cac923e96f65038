-- Orders one after another, as code tests them.
use Rattle.std.proofs.Common.{arith, ◌≡◌, ◌≢◌, ℕ, Bool, true, false, not, ◌==◌, List, [], ◌∷◌, map, refl, sym, subst, ◌∙◌, ap}
use Rattle.std.specs.Ordering.{ordering_then, ordering_index}
use Rattle.std.proofs.lemmas.Bool.Decides.{nat_tests}
use Rattle.unicode_normalization.specs.Forms.{nfd}
use Rattle.icu_order_levels.specs.Keys.{LevelLists, primaries_order, secondaries_order, cases_order, tertiaries_order, quaternaries_order, characters_order}
use Rattle.icu_order_levels.specs.declared.forms.KeyForm.{KeyForm}
use Rattle.icu_table_entries.specs.Elements.{Element}
use Rattle.icu_options.specs.declared.settings.AlternateHandling.{AlternateHandling}
use Rattle.icu_order_texts.specs.weighting.Collations.{Collation}
use Rattle.icu_order_texts.specs.weighting.Handled.{handled, stayed, is_variable}
use Rattle.icu_order_texts.specs.weighting.Forms.{compression_of, form_by}
use Rattle.icu_order_texts.specs.TextOrder.{lists_by, text_order}
use Rattle.icu_order_texts.specs.weighting.VariableWeightings.{handled_after}
use Rattle.icu_order_texts.specs.declared.weighting.weighting.VariableWeighting.{VariableWeighting}
use Rattle.icu_collator.specs.inner.ElementOrders.{before_characters, elements_order}
use Rattle.std.specs.declared.cmp.Ordering.{Ordering}
use Rattle.std.specs.declared.cmp.Ordering.TheVariants.{Less, Equal, Greater}
use Rattle.icu_order_levels.proofs.Orderings.{then_assoc, then_equal}

decides : (p rest : Ordering) → not (ordering_index p == 1) ≡ true → p ≡ ordering_then p rest
decides Less rest h = refl
decides Equal rest h = cc
decides Greater rest h = refl

ties : (p rest : Ordering) → not (ordering_index p == 1) ≡ false → rest ≡ ordering_then p rest
ties Less rest h = cc
ties Equal rest h = refl
ties Greater rest h = cc

-- an order that is tested
pub is_equal : (p : Ordering) (test : Bool) → test ≡ not (ordering_index p == 1) → test ≡ false → p ≡ Equal
is_equal Less test is unset = cc
is_equal Equal test is unset = refl
is_equal Greater test is unset = cc

pub is_unequal : (p : Ordering) (test : Bool) → test ≡ not (ordering_index p == 1) → test ≡ true → p ≢ Equal
is_unequal p test is set e = (let not_set : test ≡ false = is ∙ ap (λ o. not (ordering_index o == 1)) e in cc)

-- a level that differs decides
pub ends : (p q rest : Ordering) (test : Bool) → test ≡ not (ordering_index p == 1) → test ≡ true → p ≡ q → p ≡ ordering_then q rest
ends p q rest test is set e = subst (λ o. p ≡ ordering_then o rest) e (decides p rest (sym is ∙ set))

-- one that ties leaves it to the rest
pub goes_on : (p q rest whole : Ordering) (test : Bool) → test ≡ not (ordering_index p == 1) → test ≡ false → p ≡ q → whole ≡ rest → whole ≡ ordering_then q rest
goes_on p q rest whole test is unset e r = r ∙ subst (λ o. rest ≡ ordering_then o rest) e (ties p rest (sym is ∙ unset))

last : (o p q r : Ordering) → p ≡ ordering_then q r → ordering_then o p ≡ ordering_then (ordering_then o q) r
last o p q r e = ap (ordering_then o) e ∙ then_assoc o q r

-- an order that ties goes on with the rest, which may fail
-- the last of six orders, after the other five
pub sixth : (p s k t q i : Ordering)
    → ordering_then p (ordering_then s (ordering_then k (ordering_then t (ordering_then q (ordering_then i Equal)))))
    ≡ ordering_then (ordering_then p (ordering_then s (ordering_then k (ordering_then t q)))) i
sixth p s k t q i =
    last p _ (ordering_then s (ordering_then k (ordering_then t q))) i (
    last s _ (ordering_then k (ordering_then t q)) i (
    last k _ (ordering_then t q) i (
    last t _ q i (ap (ordering_then q) (then_equal i)))))

-- the order of two texts is that of their elements, and then that of their characters
pub order_in_two : (collation : Collation) (t u : List ℕ)
    → text_order collation t u
    ≡ ordering_then (elements_order collation (nfd t) (nfd u))
    (characters_order (form_by collation).identical (lists_by collation (nfd t)) (lists_by collation (nfd u)))
unfolding text_order elements_order before_characters
order_in_two collation t u =
    let form : KeyForm = form_by collation in
    let left : LevelLists = lists_by collation (nfd t) in
    let right : LevelLists = lists_by collation (nfd u) in
    sixth (primaries_order (compression_of collation.tables) left right) (secondaries_order form.secondary left right) (cases_order form.cases left right)
    (tertiaries_order form.tertiary left right) (quaternaries_order form.quaternary left right) (characters_order form.identical left right)

-- where no element comes, none is handled
pub none_handled : (w : VariableWeighting) (es : List Element) → es ≡ [] → handled_after w es ≡ []
unfolding handled
none_handled w es none = rw none refl

-- where nothing is variable, each element stays
pub all_stay : (handling : AlternateHandling) (top : ℕ) (es : List Element) → top ≡ 0 → handled handling top false es ≡ map stayed es
unfolding handled
all_stay handling top [] zero = refl
all_stay handling top (x ∷ xs) zero =
    let stays : is_variable top x ≡ false = rw zero (none_variable x) in
    rw stays (ap (λ hs. stayed x ∷ hs) (all_stay handling top xs zero))
  where
    none_variable : (x : Element) → is_variable 0 x ≡ false
    none_variable x = grind (arith, nat_tests)
