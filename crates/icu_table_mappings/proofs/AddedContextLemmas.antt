-- Contexts that are added to a table: what entries then lead to.
use Rattle.std.proofs.Common.{◌≡◌, ℕ, ◌+◌, ◌<◌, List, [], ◌∷◌, ◌++◌, length, map, Option, Some, None, true, false, refl, sym, ap, ◌∙◌, if◌then◌else◌, arith, inl, inr, append_assoc, length-append}
use Rattle.std.specs.Prelude.{is_some, ◌==◌}
use Rattle.std.specs.Borrow.{Bor}
use Rattle.std.proofs.lemmas.Bool.Decides.{nat_tests}
use Rattle.std.specs.Global.{Vec}
use Rattle.std.specs.Option.{unwrap_or, option_and_then}
use Rattle.std.specs.BTreeMap.{get_by}
use Rattle.std.specs.Cmp.Lexicographic.{slice_cmp}
use Rattle.std.specs.Ordering.{nat_cmp}
use Rattle.std.specs.Str.{bytes_eq}
use Rattle.std.proofs.Math.Seq.{get_or-append_seam}
use Rattle.std.proofs.lemmas.List.{append-nil, map-append}
use Rattle.icu_table_entries.specs.declared.entry.EntryKind.{EntryKind}
use Rattle.icu_table_entries.specs.Entries.{kind_of, entry_index}
use Rattle.icu_table_data.specs.Data.{Mapping, Context, Data, context_in, mapping_entry, no_context}
use Rattle.icu_table_provider.specs.builder.Building.{and_context}
use Rattle.icu_table_provider.specs.builder.AddedContexts.{given_mapping}
use Rattle.icu_table_mappings.specs.Given.{LeadsJust, entry_in}
use Rattle.icu_table_mappings.specs.inner.ContextParts.{AddsContext, mappings_by}
use Rattle.icu_table_mappings.specs.Surroundings.{Suffixes, Surroundings, entry_at, entry_between, own_entry, value_among}
use Rattle.icu_table_mappings.proofs.SurroundingLemmas.{found_among}

-- ---- look-ups

-- the entries behind just these characters, by what `get` finds
pub between_from_get : (all : Surroundings) (before : List ℕ) (r : Option Suffixes) → r ≡ get_by (λ k. slice_cmp nat_cmp before k.items) all
    → (after : List ℕ) → entry_between all before after ≡ option_and_then (λ suffixes. entry_at suffixes after) r
between_from_get all before r e after =
    ap (option_and_then (λ suffixes. entry_at suffixes after)) (sym (found_among all.entries before) ∙ sym e)

-- a value that is there
pub there : (o : Option ℕ) (d x : ℕ) → is_some o ≡ true → d ≡ unwrap_or o x → o ≡ Some d
there None d x h e = cc
there (Some w) d x h e = ap Some (sym e)

-- ---- the mappings of a context

-- an entry before no characters is no mapping
pub mappings_skip : (left next : List (Vec ℕ × ℕ)) (k : Vec ℕ) (v : ℕ) → left ≡ (k, v) ∷ next → length k.items ≡ 0 → mappings_by left ≡ mappings_by next
unfolding mappings_by
mappings_skip left next k v e none = ap mappings_by e ∙ here k.items v (mappings_by next) none where
  here : (xs : List ℕ) (v : ℕ) (ms : List Mapping) → length xs ≡ 0
      → (elim xs as (λ _. List Mapping) [ [] ↦ ms | c ∷ cs ↦ record { chars = c ∷ cs; entry = v } ∷ ms ]) ≡ ms
  here [] v ms none = refl
  here (x ∷ xs) v ms none = absurd (omega arith)

-- any other is one
pub mappings_put : (left next : List (Vec ℕ × ℕ)) (k : Vec ℕ) (v : ℕ) → left ≡ (k, v) ∷ next → 0 < length k.items
    → mappings_by left ≡ record { chars = k.items; entry = v } ∷ mappings_by next
unfolding mappings_by
mappings_put left next k v e some = ap mappings_by e ∙ here k.items v (mappings_by next) some where
  here : (xs : List ℕ) (v : ℕ) (ms : List Mapping) → 0 < length xs
      → (elim xs as (λ _. List Mapping) [ [] ↦ ms | c ∷ cs ↦ record { chars = c ∷ cs; entry = v } ∷ ms ]) ≡ record { chars = xs; entry = v } ∷ ms
  here [] v ms some = absurd (omega arith)
  here (x ∷ xs) v ms some = refl

-- a test that a number isn't zero
pub positive : (n : ℕ) → (n == 0) ≡ false → 0 < n
positive n h = grind (arith, nat_tests)

-- one mapping more
pub put_turn : (list new : List (Bor (List ℕ) × ℕ)) (x : Bor (List ℕ) × ℕ) (left next : List (Vec ℕ × ℕ)) (k : Vec ℕ) (v : ℕ) (all : List Mapping)
    → new ≡ list ++ x ∷ [] → x.0.now ≡ k.items → x.1 ≡ v → left ≡ (k, v) ∷ next → 0 < length k.items
    → map given_mapping list ++ mappings_by left ≡ all → map given_mapping new ++ mappings_by next ≡ all
put_turn list new x left next k v all added chars entry steps some before =
    let front : List Mapping = map given_mapping list in
    let is : given_mapping x ≡ record { chars = k.items; entry = v } =
    ap (λ cs. let m : Mapping = record { chars = cs; entry = x.1 } in m) chars ∙ ap (λ e. let m : Mapping = record { chars = k.items; entry = e } in m) entry in
    ap (λ xs. map given_mapping xs ++ mappings_by next) added
    ∙ ap (λ ms. ms ++ mappings_by next) (map-append given_mapping list (x ∷ []))
    ∙ append_assoc front (given_mapping x ∷ []) (mappings_by next)
    ∙ ap (λ m. front ++ m ∷ mappings_by next) is
    ∙ sym (ap (λ ms. front ++ ms) (mappings_put left next k v steps some))
    ∙ before

-- no entry is left
pub put_end : (front all : List Mapping) (left : List (Vec ℕ × ℕ)) → left ≡ [] → front ++ mappings_by left ≡ all → front ≡ all
unfolding mappings_by
put_end front all left done before = sym (append-nil front) ∙ ap (λ es. front ++ mappings_by es) (sym done) ∙ before

-- a list without an item has no mapping
pub none_given : (list : List (Bor (List ℕ) × ℕ)) → length list ≡ 0 → length (map given_mapping list) ≡ 0
none_given [] h = refl
none_given (x ∷ xs) h = absurd (omega arith)

-- a mapping is found as its entry was
pub mapping_found : (es : List (Vec ℕ × ℕ)) (c : ℕ) (cs : List ℕ) → mapping_entry (mappings_by es) (c ∷ cs) ≡ value_among es (c ∷ cs)
unfolding mappings_by mapping_entry value_among
mapping_found [] c cs = refl
mapping_found (e ∷ es) c cs = here e.0.items e.1 (mappings_by es) (value_among es (c ∷ cs)) (mapping_found es c cs) where
  here : (xs : List ℕ) (v : ℕ) (ms : List Mapping) (rest : Option ℕ) → mapping_entry ms (c ∷ cs) ≡ rest
      → mapping_entry (elim xs as (λ _. List Mapping) [ [] ↦ ms | x ∷ ys ↦ record { chars = x ∷ ys; entry = v } ∷ ms ]) (c ∷ cs)
      ≡ (if bytes_eq xs (c ∷ cs) then Some v else rest)
  here [] v ms rest h = h
  here (x ∷ xs) v ms rest h = ap (λ o. if bytes_eq (x ∷ xs) (c ∷ cs) then Some v else o) h

-- in the context characters have the entries that they had
pub entry_in_mappings : (es : List (Vec ℕ × ℕ)) (default : ℕ) → value_among es [] ≡ Some default
    → (chars : List ℕ) → entry_in (record { default = default; mappings = mappings_by es }) chars ≡ value_among es chars
entry_in_mappings es default h [] = sym h
entry_in_mappings es default h (c ∷ cs) = mapping_found es c cs

-- a context that was added last
pub context_added : (d new : Data) (index default : ℕ) (ms : List Mapping) (entries : Suffixes) → index ≡ length d.contexts
    → new ≡ and_context d (record { default = default; mappings = ms }) → ms ≡ mappings_by entries.entries → entry_at entries [] ≡ Some default
    → AddsContext new entries (Some index)
context_added d new index default ms entries at added same alone =
    let x : Context = record { default = default; mappings = ms } in
    let all : new.contexts ≡ d.contexts ++ x ∷ [] = ap (λ (n : Data). n.contexts) added in
    let many : length new.contexts ≡ length d.contexts + 1 = ap length all ∙ length-append d.contexts (x ∷ []) in
    let here : context_in new.contexts index ≡ x =
    ap (λ i. context_in new.contexts i) at ∙ ap (λ xs. context_in xs (length d.contexts)) all ∙ get_or-append_seam d.contexts x [] no_context in (
      omega arith,
      λ chars.
          ap (λ y. entry_in y chars) here
          ∙ ap (λ (ns : List Mapping). entry_in (record { default = default; mappings = ns }) chars) same
          ∙ entry_in_mappings entries.entries default alone chars,
    )

-- no context is needed
pub no_context_added : (new : Data) (ms : List Mapping) (entries : Suffixes) → ms ≡ mappings_by entries.entries → length ms ≡ 0 → AddsContext new entries None
unfolding mapping_entry
no_context_added new [] entries same none c cs =
    sym (mapping_found entries.entries c cs) ∙ sym (ap (λ ms. mapping_entry ms (c ∷ cs)) same)
no_context_added new (m ∷ ms) entries same none c cs = absurd (omega arith)

-- ---- what entries lead to

-- an entry of an added context leads to just the context's entries
pub leads_by : (kind : EntryKind) (new : Data) (entries : Suffixes) (found : List ℕ → Option ℕ) (index e : ℕ) → kind_of e ≡ kind → entry_index e ≡ index
    → AddsContext new entries (Some index) → ((chars : List ℕ) → entry_at entries chars ≡ found chars) → LeadsJust kind new e found
leads_by kind new entries found index e is at adds same =
    inl (record {
      kind_is = is;
      inside = let b : index < length new.contexts = adds.0 in omega arith;
      entries = λ chars. ap (λ i. entry_in (context_in new.contexts i) chars) at ∙ adds.1 chars ∙ same chars;
    })

-- without one the entry that stands before no characters stays
pub leads_to_default : (kind : EntryKind) (new : Data) (entries : Suffixes) (found : List ℕ → Option ℕ) (default : ℕ) → AddsContext new entries None
    → entry_at entries [] ≡ Some default → ((chars : List ℕ) → entry_at entries chars ≡ found chars) → LeadsJust kind new default found
leads_to_default kind new entries found default adds alone same = inr here where
  here : (chars : List ℕ) → own_entry default chars ≡ found chars
  here [] = sym alone ∙ same []
  here (c ∷ cs) = sym (adds c cs) ∙ same (c ∷ cs)
