-- A match by a context is that by mappings which it says.
use Rattle.std.proofs.Common.{◌≡◌, ℕ, ◌<◌, ◌≤◌, inl, inr, Bool, true, false, nat_eq, nat_lt, bytes_eq, List, [], ◌∷◌, ◌++◌, length, map, take, drop, Option, Some, None, if◌then◌else◌, refl, ap, sym, subst, ◌∙◌, arith, append_assoc, append-nil}
use Rattle.std.specs.List.{starts_with}
use Rattle.std.specs.Option.{option_or, option_map}
use Rattle.std.proofs.lemmas.Bool.{cases_Bool, cases_order}
use Rattle.std.proofs.lemmas.Bool.Decides.{nat_tests}
use Rattle.std.proofs.Math.Bool.{and-true}
use Rattle.unicode_normalization.specs.Order.{is_starter}
use Rattle.icu_table_entries.specs.Elements.{Element}
use Rattle.icu_table_entries.specs.Entries.{kind_of}
use Rattle.icu_table_entries.specs.declared.entry.EntryKind.{EntryKind}
use Rattle.icu_table_entries.specs.declared.entry.EntryKind.TheVariants.{Contraction}
use Rattle.icu_table_data.specs.Data.{Data, Mapping, Context, homed, context_of, mapping_entry, better, longest_from, longest_mapping}
use Rattle.icu_element_matches.specs.Matches.{Match, is_blocked, with_marks, contracted, match_from}
use Rattle.icu_element_matches.proofs.CharacterOrderLemmas.{same_lists}
use Rattle.icu_element_matches.proofs.MappingLemmas.{same_mapping}
use Rattle.icu_rule_root.specs.RootEntries.{entry_elements}
use Rattle.icu_rule_meaning.specs.declared.symbolic.SymbolicElement.{SymbolicElement}
use Rattle.icu_rule_meaning.specs.TailoredMappings.{SymbolicMapping, SymbolicMatch, longer_mapping, longest_suffix, mapping_with, is_blocked_by, joined_marks, match_by}
use Rattle.icu_rule_laws.specs.mapped_texts.MappedTexts.{weighted, default_mapping, context_behind_prefix, entry_of_suffix, HaveSameElements}
use Rattle.icu_rule_laws.proofs.mapped_texts.LongestBeginningLemmas.{first_with, bound, longest_by, better_by, IsFound, IsChosen, chosen_is}

abbrev pub chars_of : Mapping → List ℕ
chars_of m = m.chars

abbrev suffix_of : SymbolicMapping → List ℕ
suffix_of m = m.suffix

-- ---- look-ups and longest ones, as each side has them

pub entry_first : (mappings : List Mapping) (chars : List ℕ)
    → mapping_entry mappings chars ≡ option_map (λ (m : Mapping). m.entry) (first_with chars_of mappings chars)
unfolding mapping_entry first_with
entry_first [] chars = refl
entry_first (m ∷ mappings) chars = elim (cases_Bool (bytes_eq m.chars chars)) [
  | inl e ↦ rw e refl
  | inr e ↦ rw e (entry_first mappings chars)
]

mapping_first : (mappings : List SymbolicMapping) (suffix : List ℕ)
    → mapping_with mappings suffix ≡ first_with suffix_of mappings suffix
unfolding first_with
mapping_first [] suffix = refl
mapping_first (m ∷ mappings) suffix = elim (cases_Bool (bytes_eq m.suffix suffix)) [
  | inl e ↦ rw e refl
  | inr e ↦ rw e (mapping_first mappings suffix)
]

better_same : (best : Option Mapping) (m : Mapping) (text : List ℕ)
    → better best m text ≡ better_by chars_of best m text
better_same None m text = refl
better_same (Some best) m text = refl

pub longest_same : (best : Option Mapping) (mappings : List Mapping) (text : List ℕ)
    → longest_from best mappings text ≡ longest_by chars_of best mappings text
unfolding longest_from longest_by
longest_same best [] text = refl
longest_same best (m ∷ mappings) text =
    ap (λ b. longest_from b mappings text) (better_same best m text)
    ∙ longest_same (better_by chars_of best m text) mappings text

longer_same : (best : Option SymbolicMapping) (m : SymbolicMapping) (text : List ℕ)
    → longer_mapping text best m ≡ better_by suffix_of best m text
longer_same None m text = ap (λ b. if b then Some m else None) (sym (and-true (starts_with nat_eq text m.suffix)))
longer_same (Some best) m text = refl

longest_suffix_same : (best : Option SymbolicMapping) (mappings : List SymbolicMapping) (text : List ℕ)
    → longest_suffix best mappings text ≡ longest_by suffix_of best mappings text
unfolding longest_suffix longest_by
longest_suffix_same best [] text = refl
longest_suffix_same best (m ∷ mappings) text =
    ap (λ b. longest_suffix b mappings text) (longer_same best m text)
    ∙ longest_suffix_same (better_by suffix_of best m text) mappings text

-- ---- the default of a context

not_below_zero : (n : ℕ) → nat_lt n 0 ≡ false
not_below_zero n = grind (arith, nat_tests)

default_last : (best : Option Mapping) (e : ℕ) (text : List ℕ)
    → better best (record { chars = []; entry = e }) text ≡ option_or best (Some (record { chars = []; entry = e }))
default_last None e text = refl
default_last (Some best) e text = rw (not_below_zero (length best.chars)) refl

with_default : (best : Option Mapping) (mappings : List Mapping) (e : ℕ) (text : List ℕ)
    → longest_from best (mappings ++ record { chars = []; entry = e } ∷ []) text
    ≡ option_or (longest_from best mappings text) (Some (record { chars = []; entry = e }))
unfolding longest_from
with_default best [] e text = default_last best e text
with_default best (m ∷ mappings) e text = with_default (better best m text) mappings e text

some_is : (x y : Mapping) → Some x ≡ Some y → x ≡ y
some_is x y e = same_mapping (Some x) x y refl e

chosen_match : (context : Context) (text : List ℕ) (o : Option Mapping) (m : Mapping)
    → option_or o (Some (default_mapping context)) ≡ Some m
    → (elim o as (λ _. Match) [
      | Some mapping ↦ with_marks context.mappings mapping.entry mapping.chars [] (drop (length mapping.chars) text)
      | None ↦ with_marks context.mappings context.default [] [] text
    ]) ≡ with_marks context.mappings m.entry m.chars [] (drop (length m.chars) text)
chosen_match context text (Some x) m e =
    ap (λ (y : Mapping). with_marks context.mappings y.entry y.chars [] (drop (length y.chars) text)) (some_is x m e)
chosen_match context text None m e =
    ap (λ (y : Mapping). with_marks context.mappings y.entry y.chars [] (drop (length y.chars) text))
    (some_is (default_mapping context) m e)

contracted_by : (context : Context) (text : List ℕ) (m : Mapping)
    → longest_by chars_of None (context.mappings ++ default_mapping context ∷ []) text ≡ Some m
    → contracted context text ≡ with_marks context.mappings m.entry m.chars [] (drop (length m.chars) text)
unfolding contracted
contracted_by context text m e =
    chosen_match context text (longest_mapping context.mappings text) m
    (sym (with_default None context.mappings context.default text)
    ∙ longest_same None (context.mappings ++ default_mapping context ∷ []) text ∙ e)

default_is_found : (mappings : List Mapping) (e : ℕ)
    → mapping_entry (mappings ++ record { chars = []; entry = e } ∷ []) [] ≡ None → ⊥
unfolding mapping_entry
default_is_found [] e n = cc
default_is_found (m ∷ mappings) e n = elim (cases_Bool (bytes_eq m.chars [])) [
  | inl b ↦ let n : Some m.entry ≡ None = rw b at n in cc
  | inr b ↦ default_is_found mappings e (rw b at n)
]

pub longer_than_default : (mappings : List Mapping) (e : ℕ) (chars : List ℕ) → bytes_eq [] chars ≡ false
    → mapping_entry (mappings ++ record { chars = []; entry = e } ∷ []) chars ≡ mapping_entry mappings chars
unfolding mapping_entry
longer_than_default [] e chars n = rw n refl
longer_than_default (m ∷ mappings) e chars n = elim (cases_Bool (bytes_eq m.chars chars)) [
  | inl b ↦ rw b refl
  | inr b ↦ rw b (longer_than_default mappings e chars n)
]

-- ---- marks that join

-- a match and a symbolic one consume and leave the same, and have the same elements with weights
pub record AreSameMatch (number : SymbolicElement → Element) (home : Data) (c : ℕ) (a : Match) (b : SymbolicMatch) : Type 0 where
  pub elements : weighted (entry_elements home c a.entry) ≡ weighted (map number b.elements)
  pub suffix : a.suffix ≡ b.suffix
  pub rest : a.rest ≡ b.rest

both_if : {A B : Type 0} (R : A → B → Type 0) (b : Bool) (x y : A) (u v : B) → R x u → R y v
    → R (if b then x else y) (if b then u else v)
both_if R true x y u v p q = p
both_if R false x y u v p q = q

symbolic_is : (x y : SymbolicMapping) → Some x ≡ Some y → x ≡ y
symbolic_is x y e = ap (λ (o : Option SymbolicMapping). elim o as (λ _. SymbolicMapping) [ None ↦ x | Some z ↦ z ]) e

mapping_has_suffix : (mappings : List SymbolicMapping) (suffix : List ℕ) (m : SymbolicMapping)
    → mapping_with mappings suffix ≡ Some m → m.suffix ≡ suffix
mapping_has_suffix [] suffix m e = cc
mapping_has_suffix (x ∷ mappings) suffix m e = elim (cases_Bool (bytes_eq x.suffix suffix)) [
  | inl b ↦
      let is : x ≡ m = symbolic_is x m (rw b at e) in
      sym (ap suffix_of is) ∙ same_lists x.suffix suffix b
  | inr b ↦ mapping_has_suffix mappings suffix m (rw b at e)
]

tried_same : (number : SymbolicElement → Element) (home : Data) (c : ℕ) (suffix : List ℕ) (o : Option ℕ)
    (p : Option SymbolicMapping) (f : ℕ → Match) (g : SymbolicMapping → SymbolicMatch) (y : Match) (v : SymbolicMatch)
    → HaveSameElements number home c o p
    → ((e : ℕ) (m : SymbolicMapping) → p ≡ Some m → weighted (entry_elements home c e) ≡ weighted (map number m.elements)
    → AreSameMatch number home c (f e) (g m))
    → AreSameMatch number home c y v
    → AreSameMatch number home c (elim o as (λ _. Match) [ Some e ↦ f e | None ↦ y ])
    (elim p as (λ _. SymbolicMatch) [ Some m ↦ g m | None ↦ v ])
tried_same number home c suffix None None f g y v h some none = none
tried_same number home c suffix (Some e) (Some m) f g y v h some none = some e m refl h
tried_same number home c suffix None (Some m) f g y v h some none = absurd h
tried_same number home c suffix (Some e) None f g y v h some none = absurd h

-- by these mappings and those a suffix with one more mark has the same elements
abbrev JoinAlike : (SymbolicElement → Element) → Data → ℕ → List Mapping → List SymbolicMapping → Type 0
JoinAlike number home c mappings others = (suffix : List ℕ) (mark : ℕ)
    → HaveSameElements number home c (mapping_entry mappings (suffix ++ mark ∷ [])) (mapping_with others (suffix ++ mark ∷ []))

marks_same : (number : SymbolicElement → Element) (home : Data) (c : ℕ) (mappings : List Mapping)
    (others : List SymbolicMapping) → JoinAlike number home c mappings others → (e : ℕ) (found : SymbolicMapping)
    → weighted (entry_elements home c e) ≡ weighted (map number found.elements) → (passed text : List ℕ)
    → AreSameMatch number home c (with_marks mappings e found.suffix passed text)
    (joined_marks others found passed text)
unfolding with_marks joined_marks is_blocked
marks_same number home c mappings others alike e found h passed [] =
    record { elements = h; suffix = refl; rest = refl }
marks_same number home c mappings others alike e found h passed (m ∷ text) =
    let longer = found.suffix ++ m ∷ [] in
    let R = AreSameMatch number home c in
    let over : R (with_marks mappings e found.suffix (passed ++ m ∷ []) text)
    (joined_marks others found (passed ++ m ∷ []) text) =
    marks_same number home c mappings others alike e found h (passed ++ m ∷ []) text in
    both_if R (is_starter m) _ _ _ _ (record { elements = h; suffix = refl; rest = refl })
    (both_if R (is_blocked_by passed m) _ _ _ _ over
    (tried_same number home c longer (mapping_entry mappings longer) (mapping_with others longer)
    (λ joined. with_marks mappings joined longer passed text) (λ more. joined_marks others more passed text) _ _
    (alike found.suffix m)
    (λ f more is g.
    subst (λ s. R (with_marks mappings f s passed text) (joined_marks others more passed text))
    (mapping_has_suffix others longer more is)
    (marks_same number home c mappings others alike f more g passed text))
    over))

-- ---- the whole match

-- before each suffix a context and mappings have the same elements
abbrev pub AreAlikeBefore : (SymbolicElement → Element) → Data → ℕ → Context → List SymbolicMapping → Type 0
AreAlikeBefore number home c context mappings = (suffix : List ℕ)
    → HaveSameElements number home c (entry_of_suffix context suffix) (mapping_with mappings suffix)

not_nothing : (suffix : List ℕ) (m : ℕ) → bytes_eq [] (suffix ++ m ∷ []) ≡ false
not_nothing [] m = refl
not_nothing (s ∷ suffix) m = refl

join_alike : (number : SymbolicElement → Element) (home : Data) (c : ℕ) (context : Context)
    (mappings : List SymbolicMapping) → AreAlikeBefore number home c context mappings
    → JoinAlike number home c context.mappings mappings
join_alike number home c context mappings alike suffix m =
    subst (λ o. HaveSameElements number home c o (mapping_with mappings (suffix ++ m ∷ [])))
    (longer_than_default context.mappings context.default (suffix ++ m ∷ []) (not_nothing suffix m))
    (alike (suffix ++ m ∷ []))

none_with : (number : SymbolicElement → Element) (home : Data) (c : ℕ) (o : Option ℕ) (p : Option SymbolicMapping)
    (m : SymbolicMapping) → HaveSameElements number home c o p → o ≡ None → p ≡ Some m → ⊥
none_with number home c None None m h e f = cc
none_with number home c None (Some n) m h e f = h
none_with number home c (Some x) p m h e f = cc

some_without : (number : SymbolicElement → Element) (home : Data) (c : ℕ) (o : Option ℕ) (p : Option SymbolicMapping)
    (e : ℕ) → HaveSameElements number home c o p → o ≡ Some e → p ≡ None → ⊥
some_without number home c (Some x) None e h f g = h
some_without number home c (Some x) (Some m) e h f g = cc
some_without number home c None p e h f g = cc

both_some : (number : SymbolicElement → Element) (home : Data) (c : ℕ) (o : Option ℕ) (p : Option SymbolicMapping)
    (e : ℕ) (m : SymbolicMapping) → HaveSameElements number home c o p → o ≡ Some e → p ≡ Some m
    → weighted (entry_elements home c e) ≡ weighted (map number m.elements)
both_some number home c o p e m h f g = let k : HaveSameElements number home c (Some e) (Some m) =
    subst (λ q. HaveSameElements number home c (Some e) q) g (subst (λ q. HaveSameElements number home c q p) f h) in k

both_none : (number : SymbolicElement → Element) (home : Data) (c : ℕ) (o : Option ℕ) (p : Option SymbolicMapping)
    → HaveSameElements number home c o p → (o ≡ None → ⊥) → p ≡ None → ⊥
both_none number home c None p h n e = n refl
both_none number home c (Some x) None h n e = h
both_none number home c (Some x) (Some m) h n e = cc

-- of what is chosen, something is found where a look-up of nothing finds something
chosen_some : {X : Type 0} (key : X → List ℕ) (xs : List X) (text : List ℕ) (o : Option X) → IsChosen key xs text None o
    → (first_with key xs [] ≡ None → ⊥) → IsFound key xs text 0 o
chosen_some key xs text o h some = elim h.found [
  | inl e ↦ absurd (some (h.over [] refl (subst (λ p. bound key p ≤ 0) (sym e) (omega arith))))
  | inr f ↦ f
]

pub begins_is : (text chars : List ℕ) → starts_with nat_eq text chars ≡ true → chars ≡ take (length chars) text
begins_is text chars e = same_lists chars (take (length chars) text) e

same_length : (text one other : List ℕ) → starts_with nat_eq text one ≡ true → starts_with nat_eq text other ≡ true
    → length one ≡ length other → one ≡ other
same_length text one other a b e =
    begins_is text one a ∙ ap (λ n. take n text) e ∙ sym (begins_is text other b)

-- what is found of a context and of mappings that are alike before each suffix is the same
found_same : (number : SymbolicElement → Element) (home : Data) (c : ℕ) (context : Context)
    (mappings : List SymbolicMapping) (text : List ℕ) → AreAlikeBefore number home c context mappings
    → (m : Mapping) (n : SymbolicMapping)
    → first_with chars_of (context.mappings ++ default_mapping context ∷ []) m.chars ≡ Some m
    → starts_with nat_eq text m.chars ≡ true
    → first_with suffix_of mappings n.suffix ≡ Some n → starts_with nat_eq text n.suffix ≡ true
    → (length m.chars < length n.suffix → first_with chars_of (context.mappings ++ default_mapping context ∷ []) n.suffix ≡ None)
    → (length n.suffix < length m.chars → first_with suffix_of mappings m.chars ≡ None)
    → (m.chars ≡ n.suffix) × (weighted (entry_elements home c m.entry) ≡ weighted (map number n.elements))
found_same number home c context mappings text alike m n f a g b over under =
    let all = context.mappings ++ default_mapping context ∷ [] in
    let entry_is : (chars : List ℕ) (o : Option Mapping) → first_with chars_of all chars ≡ o
    → entry_of_suffix context chars ≡ option_map (λ (x : Mapping). x.entry) o =
    λ chars o e. entry_first all chars ∙ ap (option_map (λ (x : Mapping). x.entry)) e in
    let mapping_is : (chars : List ℕ) (o : Option SymbolicMapping) → first_with suffix_of mappings chars ≡ o
    → mapping_with mappings chars ≡ o =
    λ chars o e. mapping_first mappings chars ∙ e in
    let no_longer : length m.chars < length n.suffix → ⊥ = λ l.
    none_with number home c _ _ n (alike n.suffix) (entry_is n.suffix None (over l)) (mapping_is n.suffix (Some n) g) in
    let no_shorter : length n.suffix < length m.chars → ⊥ = λ l.
    some_without number home c _ _ m.entry (alike m.chars) (entry_is m.chars (Some m) f) (mapping_is m.chars None (under l)) in
    let same : length m.chars ≡ length n.suffix = one_length (length m.chars) (length n.suffix) no_longer no_shorter in
    let is : m.chars ≡ n.suffix = same_length text m.chars n.suffix a b same in (
      is,
      both_some number home c _ _ m.entry n (alike n.suffix)
          (subst (λ chars. entry_of_suffix context chars ≡ Some m.entry) is (entry_is m.chars (Some m) f))
          (mapping_is n.suffix (Some n) g),
    )
  where
    one_length : (i j : ℕ) → (i < j → ⊥) → (j < i → ⊥) → i ≡ j
    one_length i j h k = elim (cases_order i j) [ inl e ↦ e | inr (inl l) ↦ absurd (h l) | inr (inr l) ↦ absurd (k l) ]

matched_by : (mappings : List SymbolicMapping) (text : List ℕ) (n : SymbolicMapping)
    → longest_by suffix_of None mappings text ≡ Some n
    → match_by mappings text ≡ joined_marks mappings n [] (drop (length n.suffix) text)
matched_by mappings text n e = rw (longest_suffix_same None mappings text ∙ e, match_by) refl

-- where a context and mappings have the same elements before each suffix, they match alike
pub match_same : (number : SymbolicElement → Element) (home : Data) (c : ℕ) (context : Context)
    (mappings : List SymbolicMapping) (text : List ℕ) → AreAlikeBefore number home c context mappings
    → AreSameMatch number home c (contracted context text) (match_by mappings text)
match_same number home c context mappings text alike =
    let all = context.mappings ++ default_mapping context ∷ [] in
    let one = longest_by chars_of None all text in
    let other = longest_by suffix_of None mappings text in
    let one_is : IsChosen chars_of all text None one = chosen_is chars_of None all text in
    let other_is : IsChosen suffix_of mappings text None other = chosen_is suffix_of None mappings text in
    let default_there : first_with chars_of all [] ≡ None → ⊥ = λ e.
    default_is_found context.mappings context.default
    (entry_first all [] ∙ ap (option_map (λ (x : Mapping). x.entry)) e) in
    let own_there : first_with suffix_of mappings [] ≡ None → ⊥ = λ e.
    both_none number home c _ _ (alike []) (default_is_found context.mappings context.default)
    (mapping_first mappings [] ∙ e) in
    let f = chosen_some chars_of all text one one_is default_there in
    let g = chosen_some suffix_of mappings text other other_is own_there in
    let (is, elements) = found_same number home c context mappings text alike f.item g.item f.first f.begins g.first g.begins
    (λ l. one_is.over g.item.suffix g.begins (subst (λ o. bound chars_of o ≤ length g.item.suffix) (sym f.is) (omega (arith, l))))
    (λ l. other_is.over f.item.chars f.begins (subst (λ o. bound suffix_of o ≤ length f.item.chars) (sym g.is) (omega (arith, l)))) in
    let m = f.item in
    let n = g.item in
    let joined : AreSameMatch number home c (with_marks context.mappings m.entry n.suffix [] (drop (length n.suffix) text))
    (joined_marks mappings n [] (drop (length n.suffix) text)) =
    marks_same number home c context.mappings mappings (join_alike number home c context mappings alike) m.entry n elements
    [] (drop (length n.suffix) text) in
    let left : contracted context text ≡ with_marks context.mappings m.entry n.suffix [] (drop (length n.suffix) text) =
    contracted_by context text m f.is
    ∙ ap (λ chars. with_marks context.mappings m.entry chars [] (drop (length chars) text)) is in
    subst (λ a. AreSameMatch number home c a (match_by mappings text)) (sym left)
    (subst (λ b. AreSameMatch number home c (with_marks context.mappings m.entry n.suffix [] (drop (length n.suffix) text)) b)
    (sym (matched_by mappings text n g.is)) joined)

-- ---- an entry that is no contraction

none_join : (e : ℕ) (suffix passed text : List ℕ)
    → with_marks [] e suffix passed text ≡ record { entry = e; suffix = suffix; rest = passed ++ text }
unfolding with_marks mapping_entry
none_join e suffix passed [] =
    ap (λ rest. record { entry = e; suffix = suffix; rest = rest }) (sym (append-nil passed))
none_join e suffix passed (m ∷ text) =
    let over : with_marks [] e suffix (passed ++ m ∷ []) text
    ≡ record { entry = e; suffix = suffix; rest = passed ++ m ∷ text } =
    none_join e suffix (passed ++ m ∷ []) text
    ∙ ap (λ rest. record { entry = e; suffix = suffix; rest = rest }) (append_assoc passed (m ∷ []) text) in
    either_is (is_starter m) _ _ _ refl (either_is (is_blocked passed m) _ _ _ over over)
  where
    either_is : (b : Bool) (x y z : Match) → x ≡ z → y ≡ z → (if b then x else y) ≡ z
    either_is true x y z p q = p
    either_is false x y z p q = q

alone_match : (e : ℕ) (text : List ℕ)
    → contracted (record { default = e; mappings = [] }) text ≡ record { entry = e; suffix = []; rest = text }
unfolding contracted longest_from
alone_match e text = none_join e [] [] text

at_kind : (k : EntryKind) (contraction alone : Context) (text : List ℕ) (m : Match) → m ≡ contracted alone text
    → (elim k as (λ _. Match) [ Contraction ↦ contracted contraction text | _ ↦ m ])
    ≡ contracted (elim k as (λ _. Context) [ Contraction ↦ contraction | _ ↦ alone ]) text
at_kind Contraction contraction alone text m h = refl
at_kind _ contraction alone text m h = h

-- each entry matches as the context that stands for it does
pub matches_by_context : (home : Data) (e : ℕ) (text : List ℕ)
    → match_from home e text ≡ contracted (context_behind_prefix home e) text
unfolding match_from context_behind_prefix
matches_by_context home e text =
    at_kind (kind_of e) (context_of (homed home e)) (record { default = e; mappings = [] }) text _ (sym (alone_match e text))
