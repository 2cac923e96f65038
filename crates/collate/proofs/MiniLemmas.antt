-- What Mini returns: its tables say what they are to say.
use Rattle.std.proofs.Common.{◌≡◌, ℕ, List, Option, Some, None, Result, Ok, Err, IfOk, refl, sym, ap, ◌∙◌, subst}
use Rattle.std.specs.Option.{option_map}
use Rattle.icu_table_entries.specs.declared.error.DataError.{DataError}
use Rattle.icu_table_provider.specs.Loads.{Loads, answer}
use Rattle.icu_table_provider.specs.Metadata.{is_tailored, has_reordering}
use Rattle.icu_table_provider.specs.Requests.{Request}
use Rattle.icu_table_provider.specs.SpecialPrimaries.{SpecialPrimaries}
use Rattle.icu_table_data.specs.Data.{Data}
use Rattle.icu_table_provider.specs.CollatorTables.{CollatorTables}
use Rattle.icu_table_provider.specs.LoadedTables.{then_load, or_else, typed_first, if_named, diacritics_request, loaded_tables}
use Rattle.icu_table_mini.specs.declared.mini.Mini.{Mini}
use Rattle.icu_table_provider.specs.declared.fixed_provider.FixedLoads.{FixedLoads}
use Rattle.icu_table_provider.specs.FixedLoads.{fixed_loads}
use Rattle.icu_table_provider.specs.declared.builder.data_vectors.DataVectors.{DataVectors}
use Rattle.icu_table_provider.specs.builder.OwnedData.{vectors_data}
use Rattle.icu_table_mini.specs.Mini.{IsMini, special_held, SaysAny}
use Rattle.icu_table_mini.specs.Provider.{LoadsMini}
use Rattle.collate.specs.Answers.{mini_tables}

-- ---- what is returned

-- an answer that comes after others needs theirs
record Follows {A B : Type 0} (x : Result A DataError) (next : A → Result B DataError) (b : B) : Type 0 where
  value : A
  first : x ≡ Ok value
  then_next : next value ≡ Ok b

follows : {A B : Type 0} (x : Result A DataError) (next : A → Result B DataError) (b : B) → then_load x next ≡ Ok b → Follows x next b
follows (Ok a) next b h = record { value = a; first = refl; then_next = h }
follows (Err e) next b h = absurd (cc)

said : {T A : Type 0} (says : T → A) (r : Result T DataError) (a held : A) → IfOk r (λ t. says t ≡ held) → answer says r ≡ Ok a → a ≡ held
said says (Ok t) a held holds h = cc
said says (Err e) a held holds h = absurd (cc)

again : {A : Type 0} (x : Result A DataError) → or_else x x ≡ x
again (Ok a) = refl
again (Err e) = refl

whatever_type : {A : Type 0} (x : Result A DataError) (t : Option (List ℕ)) → (elim t [ Some _ ↦ or_else x x | None ↦ x ]) ≡ x
whatever_type x None = refl
whatever_type x (Some _) = again x

-- the tables from the metadata on
from_bits : Loads → Request → Data → List ℕ → SpecialPrimaries → ℕ → Result CollatorTables DataError
from_bits loads r root jamo special bits =
    then_load (if_named (is_tailored bits) (typed_first loads.tailoring r)) (λ tailoring.
    then_load (if_named (has_reordering bits) (typed_first loads.reordering r)) (λ reordering.
    then_load (loads.diacritics (diacritics_request bits r)) (λ diacritics.
    Ok (record {
      tables = record { root = root; tailoring = tailoring; jamo = jamo; diacritics = diacritics };
      special = special;
      bits = bits;
      reordering = reordering;
    }))))

no_tailoring : (tailoring : Option DataVectors) → SaysAny None tailoring → option_map vectors_data tailoring ≡ None
no_tailoring None is = refl
no_tailoring (Some d) is = absurd is

made_of : Data → Option Data → List ℕ → List ℕ → SpecialPrimaries → CollatorTables
made_of root tailoring jamo diacritics special = record {
  tables = record { root = root; tailoring = tailoring; jamo = jamo; diacritics = diacritics };
  special = special;
  bits = 1;
  reordering = None;
}

pub mini-loaded : (m : Mini) (p : FixedLoads) (r : Request) (all : CollatorTables) → IsMini m → LoadsMini m p → loaded_tables (fixed_loads p) r ≡ Ok all → all ≡ mini_tables m
unfolding loaded_tables from_bits made_of
mini-loaded m p r all mini holds h =
    let root = follows _ _ all h in
    let jamo = follows _ _ all root.then_next in
    let special = follows _ _ all jamo.then_next in
    let metadata = follows _ _ all special.then_next in
    let bits : metadata.value ≡ 1 =
    said _ p.metadata _ _ holds.metadata.0 (sym (whatever_type _ r.collation_type) ∙ metadata.first) ∙ mini.metadata in
    let rest : from_bits (fixed_loads p) r root.value jamo.value special.value 1 ≡ Ok all =
    subst (λ b. from_bits (fixed_loads p) r root.value jamo.value special.value b ≡ Ok all) bits metadata.then_next in
    let diacritics = follows _ _ all rest in
    let made : made_of root.value None jamo.value diacritics.value special.value ≡ all = cc (diacritics.then_next) in
    let first : root.value ≡ vectors_data m.root = said _ p.root _ _ holds.root.holds root.first in
    let second : jamo.value ≡ m.jamo.items = said _ p.jamo _ _ holds.jamo.holds jamo.first in
    let third : special.value ≡ special_held m = said _ p.special _ _ holds.special.holds special.first in
    let fourth : diacritics.value ≡ m.diacritics.items = said _ p.diacritics _ _ holds.diacritics.holds diacritics.first in
    let none = no_tailoring m.tailoring mini.tailoring in
    sym made
    ∙ ap (λ x. made_of x None jamo.value diacritics.value special.value) first
    ∙ ap (λ x. made_of (vectors_data m.root) None x diacritics.value special.value) second
    ∙ ap (λ x. made_of (vectors_data m.root) None m.jamo.items x special.value) fourth
    ∙ ap (λ x. made_of (vectors_data m.root) None m.jamo.items m.diacritics.items x) third
    ∙ ap (λ x. made_of (vectors_data m.root) x m.jamo.items m.diacritics.items (special_held m)) (sym none)
