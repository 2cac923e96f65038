-- What is reachable from an entry by its kind, and from entries that refer to one context.
use Rattle.std.proofs.Common.{◌≡◌, ℕ, Bool, true, false, List, [], ◌∷◌, ◌⊎◌, inl, inr, ◌++◌, refl, sym, ap, ◌∙◌, subst, fold, map}
use Rattle.std.specs.Prelude.{◌||◌, ◌&&◌, ◌==◌, if◌then◌else◌, flat_map}
use Rattle.std.specs.List.{Contains, list_any}
use Rattle.std.proofs.lemmas.List.Elements.{Contains-append_cases, Contains-append_left, Contains-append_right}
use Rattle.std.proofs.Math.Bool.{or-false}
use Rattle.icu_table_entries.specs.declared.entry.EntryKind.{EntryKind}
use Rattle.icu_table_entries.specs.declared.entry.EntryKind.TheVariants.{Prefix, Contraction, Digit, Offset, Implicit as ImplicitKind}
use Rattle.icu_table_entries.specs.Entries.{kind_of, entry_index}
use Rattle.icu_table_data.specs.declared.character_walk.Part.{Part}
use Rattle.icu_table_data.specs.declared.character_walk.Part.TheVariants.{Counted, Implicit}
use Rattle.icu_table_data.specs.declared.context.ContextMapping.{ContextMapping}
use Rattle.icu_table_data.specs.Contexts.{mappings_of}
use Rattle.icu_table_data.specs.Data.{Mapping, Context, Data, homed, context_of, context_in}
use Rattle.icu_table_data.specs.Reachable.{goes_by_character, context_entries, named_entries, reachable_digit, reachable_contraction, reachable_from, reachable_at, names_context, SameContext, ReferAlike}
use Rattle.icu_table_data.specs.inner.BlockWalks.{is_wanted, leads_to, is_prefix, leads_further, contraction_entries, IsReachedAlike}
use Rattle.icu_table_data.proofs.ListLemmas.{nothing_in, in_first, at_first, at_rest}

-- ---- an entry that leads to no other

not_digit : (k : EntryKind) (a b : List ℕ) → leads_further k ≡ false → (elim k as (λ _. List ℕ) [ Digit ↦ a | _ ↦ b ]) ≡ b
not_digit Digit a b h = cc
not_digit _ a b h = refl

not_contraction : (k : EntryKind) (a b : List ℕ) → leads_further k ≡ false → (elim k as (λ _. List ℕ) [ Contraction ↦ a | _ ↦ b ]) ≡ b
not_contraction Contraction a b h = cc
not_contraction _ a b h = refl

not_prefix : (k : EntryKind) (a b : List ℕ) → leads_further k ≡ false → (elim k as (λ _. List ℕ) [ Prefix ↦ a | _ ↦ b ]) ≡ b
not_prefix Prefix a b h = cc
not_prefix _ a b h = refl

pub leaf_alone : (home : Data) (e : ℕ) → leads_further (kind_of e) ≡ false → reachable_from home e ≡ e ∷ []
unfolding reachable_from reachable_contraction reachable_digit
leaf_alone home e h = not_prefix (kind_of e) _ _ h ∙ not_contraction (kind_of e) _ _ h ∙ not_digit (kind_of e) _ _ h

pub leaf_leads : (part : Part) (home : Data) (e : ℕ) → leads_further (kind_of e) ≡ false → leads_to part home e ≡ is_wanted part e
unfolding leads_to
leaf_leads part home e h = ap (list_any (is_wanted part)) (leaf_alone home e h) ∙ or-false (is_wanted part e)

goes_leaf : (k : EntryKind) → (elim k as (λ _. Bool) [ Offset ↦ true | ImplicitKind ↦ true | _ ↦ false ]) ≡ true → leads_further k ≡ false
goes_leaf Offset h = refl
goes_leaf ImplicitKind h = refl
goes_leaf _ h = cc

pub goes_alone : (home : Data) (e : ℕ) → goes_by_character e ≡ true → reachable_from home e ≡ e ∷ []
unfolding goes_by_character
goes_alone home e h = leaf_alone home e (goes_leaf (kind_of e) h)

-- ---- what a search finds

or_assoc : (a b d : Bool) → ((a || b) || d) ≡ (a || (b || d))
or_assoc true b d = refl
or_assoc false b d = refl

any_after : (part : Part) (found : Bool) (es : List ℕ) → fold (λ (s : Part × Bool) e. (s.0, s.1 || is_wanted s.0 e)) (part, found) es ≡ (part, found || list_any (is_wanted part) es)
any_after part true [] = refl
any_after part false [] = refl
any_after part found (e ∷ es) =
    any_after part (found || is_wanted part e) es ∙ ap (λ (b : Bool). (part, b)) (or_assoc found (is_wanted part e) (list_any (is_wanted part) es))

pub found_any : (part : Part) (home : Data) (e : ℕ) (s : Part × Bool) → s ≡ fold (λ (s : Part × Bool) e. (s.0, s.1 || is_wanted s.0 e)) (part, false) (reachable_from home e) → s.1 ≡ leads_to part home e
unfolding leads_to
found_any part home e s is = ap (λ (s : Part × Bool). s.1) (is ∙ any_after part false (reachable_from home e))

-- ---- the classes of entries

pub clash : (b : Bool) → b ≡ true → b ≡ false → ⊥
clash true p q = cc
clash false p q = cc

counted_or_implicit : (k : EntryKind) → (elim k as (λ _. Bool) [ Offset ↦ true | ImplicitKind ↦ true | _ ↦ false ]) ≡ true
    → ((elim k as (λ _. Bool) [ Offset ↦ true | _ ↦ false ]) ≡ true) ⊎ (k ≡ ImplicitKind)
counted_or_implicit Offset h = inl refl
counted_or_implicit ImplicitKind h = inr refl
counted_or_implicit _ h = cc

pub class_of : (e : ℕ) → goes_by_character e ≡ true → (is_wanted Counted e ≡ true) ⊎ (kind_of e ≡ ImplicitKind)
unfolding goes_by_character is_wanted
class_of e h = counted_or_implicit (kind_of e) h

pub implicit_wanted : (e : ℕ) → kind_of e ≡ ImplicitKind → is_wanted Implicit e ≡ true
unfolding is_wanted
implicit_wanted e is = rw (is, is_wanted) refl

wanted_goes : (k : EntryKind) → ((elim k as (λ _. Bool) [ Offset ↦ true | _ ↦ false ]) ≡ true) ⊎ ((elim k as (λ _. Bool) [ ImplicitKind ↦ true | _ ↦ false ]) ≡ true)
    → (elim k as (λ _. Bool) [ Offset ↦ true | ImplicitKind ↦ true | _ ↦ false ]) ≡ true
wanted_goes Offset h = refl
wanted_goes ImplicitKind h = refl
wanted_goes _ (inl h) = cc
wanted_goes _ (inr h) = cc

pub part_goes : (part : Part) (e : ℕ) → is_wanted part e ≡ true → goes_by_character e ≡ true
unfolding goes_by_character is_wanted
part_goes Counted e h = wanted_goes (kind_of e) (inl h)
part_goes Implicit e h = wanted_goes (kind_of e) (inr h)

-- ---- entries that refer to one context

-- what an entry of this kind leads to beside itself, by the index of its context
abbrev rest_of : EntryKind → Data → ℕ → List ℕ
rest_of Prefix home i = flat_map (reachable_contraction home) (context_entries (context_in home.contexts i))
rest_of Contraction home i = flat_map (reachable_digit home) (context_entries (context_in home.contexts i))
rest_of _ home i = []

contraction_by : (e : ℕ) (home : Data) → kind_of e ≡ Contraction → reachable_contraction home e ≡ e ∷ rest_of Contraction home (entry_index e)
unfolding reachable_contraction
contraction_by e home is = rw (is, reachable_contraction) refl

context_by : (k : EntryKind) (e : ℕ) (home : Data) → names_context k ≡ true → kind_of e ≡ k → reachable_from home e ≡ e ∷ rest_of k home (entry_index e)
unfolding reachable_from
context_by Prefix e home h is = rw (is, reachable_from) refl
context_by Contraction e home h is = rw (is, reachable_from) (contraction_by e home is)
context_by _ e home h is = cc

context_from : (e : ℕ) (home : Data) → names_context (kind_of e) ≡ true → reachable_from home e ≡ e ∷ rest_of (kind_of e) home (entry_index e)
context_from e home h = context_by (kind_of e) e home h refl

context_second : (e f : ℕ) → SameContext e f → names_context (kind_of f) ≡ true
context_second e f same = ap names_context (sym same.kind) ∙ same.context

rest_same : (home : Data) (e f : ℕ) → SameContext e f → rest_of (kind_of e) home (entry_index e) ≡ rest_of (kind_of f) home (entry_index f)
rest_same home e f same = ap (λ k. rest_of k home (entry_index e)) same.kind ∙ ap (rest_of (kind_of f) home) same.index

context_itself : (k : EntryKind) (e : ℕ) → names_context k ≡ true → kind_of e ≡ k → goes_by_character e ≡ false
unfolding goes_by_character
context_itself Prefix e h is = rw (is, goes_by_character) refl
context_itself Contraction e h is = rw (is, goes_by_character) refl
context_itself _ e h is = cc

pub context_unwanted : (part : Part) (e : ℕ) → names_context (kind_of e) ≡ true → is_wanted part e ≡ false
context_unwanted part e h = by_test (is_wanted part e) refl
  where
    by_test : (b : Bool) → is_wanted part e ≡ b → b ≡ false
    by_test false is = refl
    by_test true is = absurd (clash (goes_by_character e) (part_goes part e is) (context_itself (kind_of e) e h refl))

context_leads : (part : Part) (home : Data) (e : ℕ) → names_context (kind_of e) ≡ true → leads_to part home e ≡ list_any (is_wanted part) (rest_of (kind_of e) home (entry_index e))
unfolding leads_to
context_leads part home e h =
    ap (list_any (is_wanted part)) (context_from e home h)
    ∙ ap (λ b. b || list_any (is_wanted part) (rest_of (kind_of e) home (entry_index e))) (context_unwanted part e h)

-- entries that refer alike lead to none of a part, or both do
pub refer_leads : (part : Part) (home : Data) (e f : ℕ) → ReferAlike e f → leads_to part home e ≡ false → leads_to part home f ≡ false
refer_leads part home e f (inl same) none = subst (λ e. leads_to part home e ≡ false) same none
refer_leads part home e f (inr same) none =
    context_leads part home f (context_second e f same) ∙ ap (list_any (is_wanted part)) (sym (rest_same home e f same)) ∙ sym (context_leads part home e same.context) ∙ none

-- ---- entries that refer alike

pub refer_trans : (e f g : ℕ) → ReferAlike e f → ReferAlike f g → ReferAlike e g
refer_trans e f g (inl same) more = subst (λ f. ReferAlike f g) (sym same) more
refer_trans e f g (inr same) (inl is) = inr (subst (SameContext e) is same)
refer_trans e f g (inr same) (inr more) = inr (record { context = same.context; kind = same.kind ∙ more.kind; index = same.index ∙ more.index })

pub refer_shared : (e f : ℕ) → ReferAlike e f → goes_by_character f ≡ false → goes_by_character e ≡ false
refer_shared e f (inl same) shared = subst (λ e. goes_by_character e ≡ false) (sym same) shared
refer_shared e f (inr same) shared = context_itself (kind_of e) e same.context refl

-- what is reachable from an entry is reachable from one that refers alike, or one that refers to the same context is
pub refer_reaches : (home : Data) (e g f : ℕ) → ReferAlike e g → Contains (reachable_from home g) f → IsReachedAlike home e f
refer_reaches home e g f (inl same) has = record { other = f; reachable = subst (λ e. Contains (reachable_from home e) f) (sym same) has; same = inl refl }
refer_reaches home e g f (inr same) has =
    elim (in_first g f rest (subst (λ es. Contains es f) (context_from g home (context_second e g same)) has)) [
      | inl is ↦ record { other = e; reachable = at e (at_first e rest); same = inr (subst (SameContext e) is same) }
      | inr more ↦ record { other = f; reachable = at f (at_rest e f rest more); same = inl refl }
    ]
  where
    rest : List ℕ
    rest = rest_of (kind_of g) home (entry_index g)

    at : (x : ℕ) → Contains (e ∷ rest) x → Contains (reachable_from home e) x
    at x has = subst (λ es. Contains es x) (sym (context_from e home same.context ∙ ap (λ es. e ∷ es) (rest_same home e g same))) has

-- ---- what a prefix leads to

prefix_or_not : (k : EntryKind) → (k ≡ Prefix) ⊎ (k ≡ Prefix → ⊥)
prefix_or_not Prefix = inl refl
prefix_or_not _ = inr (λ same. cc)

pub isnt_prefix : (k : EntryKind) → is_prefix k ≡ false → k ≡ Prefix → ⊥
isnt_prefix Prefix h same = cc
isnt_prefix _ h same = cc

unopened : (k : EntryKind) (a b : List ℕ) → (k ≡ Prefix → ⊥) → (elim k as (λ _. List ℕ) [ Prefix ↦ a | _ ↦ b ]) ≡ b
unopened Prefix a b other = absurd (other refl)
unopened _ a b other = refl

-- an entry that a prefix leads to opens no more than one of a character
pub contraction_is : (home : Data) (e : ℕ) → (kind_of e ≡ Prefix → ⊥) → reachable_contraction home e ≡ reachable_from home e
unfolding reachable_from
contraction_is home e other = sym (unopened (kind_of e) _ _ other)

pub prefix_alone : (home : Data) (e : ℕ) → kind_of e ≡ Prefix → reachable_contraction home e ≡ e ∷ []
unfolding reachable_contraction reachable_digit
prefix_alone home e is = rw (is, reachable_contraction, is, reachable_digit) refl

pub prefix_from : (home : Data) (e : ℕ) → kind_of e ≡ Prefix → reachable_from home e ≡ e ∷ flat_map (reachable_contraction home) (named_entries home e)
unfolding reachable_from
prefix_from home e is = rw (is, reachable_from) refl

pub contraction_within : (home : Data) (e f : ℕ) → Contains (reachable_contraction home e) f → Contains (reachable_from home e) f
contraction_within home e f has =
    elim (prefix_or_not (kind_of e)) [
      | inl is ↦ by_cases is (in_first e f [] (subst (λ es. Contains es f) (prefix_alone home e is) has))
      | inr other ↦ subst (λ es. Contains es f) (contraction_is home e other) has
    ]
  where
    by_cases : kind_of e ≡ Prefix → (e ≡ f) ⊎ Contains [] f → Contains (reachable_from home e) f
    by_cases is (inl same) =
        subst (Contains (reachable_from home e)) same
        (subst (λ es. Contains es e) (sym (prefix_from home e is)) (at_first e (flat_map (reachable_contraction home) (named_entries home e))))
    by_cases is (inr none) = absurd (nothing_in f none)

named_found : (home : Data) (chars : List ℕ) (mappings : List ContextMapping)
    → flat_map (reachable_contraction home) (map (λ (mapping : Mapping). mapping.entry) (mappings_of chars mappings)) ≡ contraction_entries home mappings
named_found home chars [] = refl
named_found home chars (mapping ∷ mappings) = ap (λ es. reachable_contraction home mapping.entry ++ es) (named_found home chars mappings)

-- the prefix itself, what its default leads to, and what its mappings lead to
pub prefix_all : (home : Data) (e default : ℕ) (chars : List ℕ) (mappings : List ContextMapping) → kind_of e ≡ Prefix → record { default = default; mappings = mappings_of chars mappings } ≡ context_of (homed home e)
    → reachable_from home e ≡ e ∷ (reachable_contraction home default ++ contraction_entries home mappings)
prefix_all home e default chars mappings is found =
    prefix_from home e is ∙ ap (λ (x : Context). e ∷ flat_map (reachable_contraction home) (context_entries x)) (sym found)
    ∙ ap (λ es. e ∷ (reachable_contraction home default ++ es)) (named_found home chars mappings)

-- what one more mapping leads to
pub in_pushed : (home : Data) (mappings : List ContextMapping) (mapping : ContextMapping) (f : ℕ) → Contains (contraction_entries home (mappings ++ mapping ∷ [])) f
    → Contains (contraction_entries home mappings) f ⊎ Contains (reachable_contraction home mapping.entry) f
in_pushed home [] mapping f has =
    elim (Contains-append_cases (reachable_contraction home mapping.entry) [] f has) [ inl here ↦ inr here | inr none ↦ absurd (nothing_in f none) ]
in_pushed home (first ∷ mappings) mapping f has =
    elim (Contains-append_cases (reachable_contraction home first.entry) (contraction_entries home (mappings ++ mapping ∷ [])) f has) [
      | inl here ↦ inl (Contains-append_left (reachable_contraction home first.entry) (contraction_entries home mappings) f here)
      | inr rest ↦ elim (in_pushed home mappings mapping f rest) [
        | inl before ↦ inl (Contains-append_right (reachable_contraction home first.entry) (contraction_entries home mappings) f before)
        | inr last ↦ inr last
      ]
    ]

-- ---- a character whose entry isn't fallback

pub at_is : (falls_back : Bool) (home : Data) (c e : ℕ) → home.value c ≡ e → (falls_back && e == 0xC0) ≡ false → reachable_at falls_back home c ≡ reachable_from home e
at_is falls_back home c e is h = by_value falls_back
  where
    by_test : (b : Bool) (es : List ℕ) → b ≡ false → (if b then [] else es) ≡ es
    by_test false es h = refl
    by_test true es h = cc

    by_value : (b : Bool) → reachable_at falls_back home c ≡ reachable_from home e
    by_value b = ap (λ v. if falls_back && v == 0xC0 then [] else reachable_from home v) is ∙ by_test (falls_back && e == 0xC0) (reachable_from home e) h

pub at_within : (falls_back : Bool) (home : Data) (c e f : ℕ) → home.value c ≡ e → Contains (reachable_at falls_back home c) f → Contains (reachable_from home e) f
at_within falls_back home c e f is has = by_test (falls_back && e == 0xC0) (subst (λ v. Contains (if falls_back && v == 0xC0 then [] else reachable_from home v) f) is has)
  where
    by_test : (b : Bool) → Contains (if b then [] else reachable_from home e) f → Contains (reachable_from home e) f
    by_test true has = absurd (nothing_in f has)
    by_test false has = has
