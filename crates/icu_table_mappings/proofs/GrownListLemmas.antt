-- Lists of tables that grow: what they had stays.
use Rattle.std.proofs.Common.{◌≡◌, ℕ, ◌+◌, ◌-◌, ◌<◌, ◌≤◌, true, List, [], ◌∷◌, ◌++◌, Option, length, length-append, take, drop, zero, suc, refl, sym, ap, subst, ◌∙◌, if◌then◌else◌, arith, inl, inr, append_assoc}
use Rattle.std.specs.Prelude.{◌&&◌, nat_lt, nat_le}
use Rattle.std.specs.List.{flat_map}
use Rattle.std.proofs.lemmas.Bool.Decides.{nat_tests}
use Rattle.std.proofs.Math.ListN.{get_or-append}
use Rattle.std.proofs.lemmas.List.{append-nil, take-append-le, drop-append-le, length-drop}
use Rattle.icu_table_entries.specs.declared.entry.EntryKind.{EntryKind}
use Rattle.icu_table_entries.specs.Elements.{Element}
use Rattle.icu_table_entries.specs.Entries.{entry_index, list_length, self_contained}
use Rattle.icu_table_data.specs.Data.{Context, Data, context_in, no_context, plain_of}
use Rattle.icu_table_data.specs.Final.{listed}
use Rattle.icu_table_provider.specs.builder.Building.{and_context, and_elements, and_entries}
use Rattle.icu_table_mappings.specs.DigitEntries.{IsDigitEntry}
use Rattle.icu_table_mappings.specs.Given.{Gives, Leads, LeadsJust, Spells, entry_in}
use Rattle.icu_table_mappings.specs.GrownLists.{Extends, HasMoreLists}

-- ---- tables that grow

pub lists_itself : (d : Data) → HasMoreLists d d
lists_itself d = record {
  more_elements = [];
  more_entries = [];
  more_contexts = [];
  elements = sym (append-nil d.elements);
  entries = sym (append-nil d.entries);
  contexts = sym (append-nil d.contexts);
}

pub lists_further : (a b c : Data) → HasMoreLists a b → HasMoreLists b c → HasMoreLists a c
lists_further a b c p q = record {
  more_elements = p.more_elements ++ q.more_elements;
  more_entries = p.more_entries ++ q.more_entries;
  more_contexts = p.more_contexts ++ q.more_contexts;
  elements = q.elements ∙ ap (λ xs. xs ++ q.more_elements) p.elements ∙ append_assoc a.elements p.more_elements q.more_elements;
  entries = q.entries ∙ ap (λ xs. xs ++ q.more_entries) p.entries ∙ append_assoc a.entries p.more_entries q.more_entries;
  contexts = q.contexts ∙ ap (λ xs. xs ++ q.more_contexts) p.contexts ∙ append_assoc a.contexts p.more_contexts q.more_contexts;
}

pub extends_itself : (d : Data) → Extends d d
extends_itself d = record { lists = lists_itself d; value = refl }

pub extends_further : (a b c : Data) → Extends a b → Extends b c → Extends a c
extends_further a b c p q = record { lists = lists_further a b c p.lists q.lists; value = q.value ∙ p.value }

pub extends_by_context : (d new : Data) (x : Context) → new ≡ and_context d x → Extends d new
extends_by_context d new x e = record {
  lists = record {
    more_elements = [];
    more_entries = [];
    more_contexts = x ∷ [];
    elements = ap (λ (n : Data). n.elements) e ∙ sym (append-nil d.elements);
    entries = ap (λ (n : Data). n.entries) e ∙ sym (append-nil d.entries);
    contexts = ap (λ (n : Data). n.contexts) e;
  };
  value = ap (λ (n : Data). n.value) e;
}

pub extends_by_entries : (d new : Data) (es : List ℕ) → new ≡ and_entries d es → Extends d new
extends_by_entries d new es e = record {
  lists = record {
    more_elements = [];
    more_entries = es;
    more_contexts = [];
    elements = ap (λ (n : Data). n.elements) e ∙ sym (append-nil d.elements);
    entries = ap (λ (n : Data). n.entries) e;
    contexts = ap (λ (n : Data). n.contexts) e ∙ sym (append-nil d.contexts);
  };
  value = ap (λ (n : Data). n.value) e;
}

pub extends_by_elements : (d new : Data) (es : List Element) → new ≡ and_elements d es → Extends d new
extends_by_elements d new es e = record {
  lists = record {
    more_elements = es;
    more_entries = [];
    more_contexts = [];
    elements = ap (λ (n : Data). n.elements) e;
    entries = ap (λ (n : Data). n.entries) e ∙ sym (append-nil d.entries);
    contexts = ap (λ (n : Data). n.contexts) e ∙ sym (append-nil d.contexts);
  };
  value = ap (λ (n : Data). n.value) e;
}

pub extends_from : (a b d : Data) → a ≡ b → Extends a d → Extends b d
extends_from a b d e grows = subst (λ x. Extends x d) e grows

-- what an entry leads to stays
pub leads_further : (kind : EntryKind) (d new : Data) (e : ℕ) (chars : List ℕ) (f : ℕ) → HasMoreLists d new → Leads kind d e chars f → Leads kind new e chars f
leads_further kind d new e chars f grows (inl r) =
    let i : ℕ = entry_index e in
    let size : length new.contexts ≡ length d.contexts + length grows.more_contexts = ap length grows.contexts ∙ length-append d.contexts grows.more_contexts in
    let here : context_in new.contexts i ≡ context_in d.contexts i =
    ap (λ xs. context_in xs i) grows.contexts ∙ get_or-append d.contexts grows.more_contexts no_context i r.inside in
    inl (record { kind_is = r.kind_is; inside = let b : entry_index e < length d.contexts = r.inside in omega arith; entry = ap (λ x. entry_in x chars) here ∙ r.entry })
leads_further kind d new e chars f grows (inr r) = inr r

-- and so does what it leads to just
pub just_further : (kind : EntryKind) (d new : Data) (e : ℕ) (found : List ℕ → Option ℕ) → HasMoreLists d new
    → LeadsJust kind d e found → LeadsJust kind new e found
just_further kind d new e found grows (inl r) =
    let i : ℕ = entry_index e in
    let size : length new.contexts ≡ length d.contexts + length grows.more_contexts = ap length grows.contexts ∙ length-append d.contexts grows.more_contexts in
    let here : context_in new.contexts i ≡ context_in d.contexts i =
    ap (λ xs. context_in xs i) grows.contexts ∙ get_or-append d.contexts grows.more_contexts no_context i r.inside in
    inl (record {
      kind_is = r.kind_is;
      inside = let b : entry_index e < length d.contexts = r.inside in omega arith;
      entries = λ chars. ap (λ x. entry_in x chars) here ∙ r.entries chars;
    })
just_further kind d new e found grows (inr r) = inr r

-- and so does what it comes to by what stands around it
pub gives_further : (d new : Data) (e : ℕ) (before after : List ℕ) (f : ℕ) → HasMoreLists d new → Gives d e before after f → Gives new e before after f
gives_further d new e before after f grows gives = record {
  behind = gives.behind;
  prefix = leads_further _ d new e before gives.behind grows gives.prefix;
  contraction = leads_further _ d new gives.behind after f grows gives.contraction;
}

-- ---- lists of a table that grows

inside_further : {A : Type 0} (n : ℕ) (xs more ys : List A) → ys ≡ xs ++ more → n ≤ length xs → n ≤ length ys
inside_further n xs more ys same inside =
    let size : length ys ≡ length xs + length more = ap length same ∙ length-append xs more in
    omega arith

some_or_none : {A : Type 0} (i n : ℕ) (xs : List A) → i + n ≤ length xs → (if nat_lt 0 n && nat_le (i + n) (length xs) then take n (drop i xs) else []) ≡ take n (drop i xs)
some_or_none i zero xs inside = refl
some_or_none i (suc n) xs inside =
    let some : nat_lt 0 (suc n) ≡ true = grind (arith, nat_tests) in
    let fits : nat_le (i + suc n) (length xs) ≡ true = grind (arith, nat_tests) in
    rw (some, fits) refl

-- a list that lies inside is the part of the table's list
pub listed_inside : {A : Type 0} (e : ℕ) (xs : List A) → entry_index e + list_length e ≤ length xs → listed e xs ≡ take (list_length e) (drop (entry_index e) xs)
listed_inside e xs inside = some_or_none (entry_index e) (list_length e) xs inside

listed_further : {A : Type 0} (e : ℕ) (xs more ys : List A) → ys ≡ xs ++ more → entry_index e + list_length e ≤ length xs → listed e ys ≡ listed e xs
listed_further e xs more ys same inside =
    let i : ℕ = entry_index e in
    let n : ℕ = list_length e in
    let fits : i + n ≤ length xs = inside in
    let size : length (drop i xs) ≡ length xs - i = length-drop i xs in
    listed_inside e ys (inside_further (i + n) xs more ys same inside)
    ∙ ap (λ zs. take n (drop i zs)) same
    ∙ ap (take n) (drop-append-le i xs more (omega arith))
    ∙ take-append-le n (drop i xs) more (omega arith)
    ∙ sym (listed_inside e xs inside)

-- an entry spells what it spelt
pub spells_further : (d new : Data) (e : ℕ) (es : List Element) → HasMoreLists d new → Spells d e es → Spells new e es
spells_further d new e es grows (inl s) = inl s
spells_further d new e es grows (inr (inl s)) =
    inr (inl (record {
      kind = s.kind;
      inside = inside_further (entry_index e + list_length e) d.entries grows.more_entries new.entries grows.entries s.inside;
      elements = ap (flat_map self_contained) (listed_further e d.entries grows.more_entries new.entries grows.entries s.inside) ∙ s.elements;
    }))
spells_further d new e es grows (inr (inr s)) =
    inr (inr (record {
      kind = s.kind;
      inside = inside_further (entry_index e + list_length e) d.elements grows.more_elements new.elements grows.elements s.inside;
      elements = listed_further e d.elements grows.more_elements new.elements grows.elements s.inside ∙ s.elements;
    }))

-- a digit's entry stays one
pub digit_further : (d new : Data) (value plain e : ℕ) → HasMoreLists d new → IsDigitEntry d value plain e → IsDigitEntry new value plain e
digit_further d new value plain e grows digit =
    let size : length new.entries ≡ length d.entries + length grows.more_entries = ap length grows.entries ∙ length-append d.entries grows.more_entries in
    let here : plain_of new e ≡ plain_of d e = ap (λ xs. plain_of (record d { entries = xs }) e) grows.entries ∙ get_or-append d.entries grows.more_entries 0 (entry_index e) digit.inside in
    record {
      kind = digit.kind;
      value = digit.value;
      inside = let b : entry_index e < length d.entries = digit.inside in omega arith;
      plain = here ∙ digit.plain;
    }
