-- What was taken in stays.
use Rattle.std.proofs.Common.{◌≡◌, ℕ, ◌<◌, Bool, true, false, List, [], ◌∷◌, ◌++◌, Option, Some, None, refl, sym, ap, subst, ◌∙◌, length, map, arith, option_map, suc}
use Rattle.std.specs.Prelude.{IfSome, OnOk, Result, Ok, Err, ◌==◌, ◌&&◌, ◌||◌, bytes_eq, reverse}
use Rattle.std.proofs.lemmas.Bool.Decides.{nat_tests}
use Rattle.icu_table_provider.specs.builder.Building.{built_data}
use Rattle.icu_cldr_root.specs.FileLines.{AreLines}
use Rattle.std.specs.BTreeMap.{get}
use Rattle.std.specs.List.{AllByRecursion, AllZip, list_any}
use Rattle.std.specs.Ordering.{nat_cmp}
use Rattle.std.proofs.lemmas.List.Folds.{list_any-append}
use Rattle.std.proofs.lemmas.List.{length-reverse}
use Rattle.icu_table_entries.specs.Elements.{Element}
use Rattle.icu_table_entries.specs.EncodedEntries.{of_weights}
use Rattle.icu_cldr_root.specs.Ideographs.{primary_in}
use Rattle.icu_cldr_root.specs.Unmapped.{maps_first}
use Rattle.icu_cldr_root.specs.LineElements.{primary_said, element_said, AreSaid}
use Rattle.icu_cldr_root.specs.WrittenLines.{LineSays}
use Rattle.icu_cldr_root.specs.WrittenMappings.{is_without_context}
use Rattle.icu_cldr_root.specs.inner.LineEntries.{Around, EntriesGrow, HasEntry, Plain}
use Rattle.icu_cldr_root.specs.inner.SpecialParts.{AddsSpecial}
use Rattle.icu_cldr_root.specs.inner.TakenCharacters.{HasNoEntry, KeepsOthers, KeepsUnmapped, MapsOnly}
use Rattle.icu_cldr_root.specs.inner.WeightedRanges.{AddsIdeographs}
use Rattle.icu_cldr_root.specs.inner.Taken.{AddsFacts, CountsSome, Grows, HasMapping, HasSaid, TakesFile, TakesLines}
use Rattle.icu_cldr_root.specs.declared.collected.Collected.{Collected}
use Rattle.icu_cldr_root.specs.declared.fractional_element.FractionalElement.{FractionalElement}
use Rattle.icu_cldr_root.specs.declared.fractional_element.Primary.{Primary}
use Rattle.icu_cldr_root.specs.declared.fractional_element.Primary.TheVariants.{Weight, OfIdeograph}
use Rattle.icu_cldr_root.specs.declared.ideographs.CharRange.{CharRange}
use Rattle.icu_cldr_root.specs.declared.line.Line.{Line}
use Rattle.icu_cldr_root.specs.declared.line.Line.TheVariants as says
use Rattle.icu_cldr_root.specs.declared.mapping.Mapping.{Mapping}
use Rattle.icu_table_mappings.proofs.GrownListLemmas.{lists_further, lists_itself, spells_further}
use Rattle.icu_cldr_root.proofs.FileFactLemmas.{facts_more}
use Rattle.icu_cldr_root.proofs.SaidSpecialLemmas.{specials_more}
use Rattle.icu_cldr_root.proofs.WeightedRangeLemmas.{ideographs_more}

-- ---- elements

module _ (old new : ℕ → Option ℕ) (more : (c p : ℕ) → old c ≡ Some p → new c ≡ Some p) where
  primary_further : (read : Primary) (p : ℕ) → primary_said old read ≡ Some p → primary_said new read ≡ Some p
  primary_further (Weight w) p h = h
  primary_further (OfIdeograph c) p h = more c p h

  element_from : (e : FractionalElement) (x : Element) (o : Option ℕ) → primary_said old e.primary ≡ o
      → option_map (λ p. of_weights p e.secondary e.tertiary) o ≡ Some x → element_said new e ≡ Some x
  element_from e x None is h = cc
  element_from e x (Some p) is h =
      ap (option_map (λ q. of_weights q e.secondary e.tertiary)) (primary_further e.primary p is) ∙ h

  pub said_further : (read : List FractionalElement) (elements : List Element) → AreSaid old read elements → AreSaid new read elements
  said_further [] [] h = refl
  said_further [] (x ∷ xs) h = cc
  said_further (e ∷ es) [] h = cc
  said_further (e ∷ es) (x ∷ xs) h =
      let first : element_said old e ≡ Some x = cc in
      let others : map (element_said old) es ≡ map Some xs = cc in
      let one : element_said new e ≡ Some x = element_from e x (primary_said old e.primary) refl first in
      let more : map (element_said new) es ≡ map Some xs = said_further es xs others in
      ap (λ (o : Option Element). o ∷ map (element_said new) es) one ∙ ap (λ (os : List (Option Element)). Some x ∷ os) more

-- ---- mappings and lines

entry_further : (old new : Collected) (m : Mapping) (e : ℕ) → EntriesGrow old.entries old.contexts new.entries new.contexts
    → HasEntry old.entries old.contexts m e → HasEntry new.entries new.contexts m e
entry_further old new m e grow has = by_plain (is_without_context m) refl has where
  by_plain : (b : Bool) → is_without_context m ≡ b → HasEntry old.entries old.contexts m e → HasEntry new.entries new.contexts m e
  by_plain true is has = rw is (grow.alone _ _ (rw is at has))
  by_plain false is has = rw is (grow.between _ _ _ _ (rw is at has))

pub mapping_further : (old new : Collected) (m : Mapping) → Grows old new → HasMapping old m → HasMapping new m
mapping_further old new m grows (elements, e, said, spells, has) = (
  elements,
  e,
  said_further (primary_in old.ideographs) (primary_in new.ideographs) grows.ideographs m.elements.items elements said,
  spells_further _ _ e elements grows.builder spells,
  entry_further old new m e grows.entries has,
)

said_stays : (old new : Collected) (said : Line) → Grows old new → HasSaid old said → HasSaid new said
said_stays old new (says.Mapping m) grows has = mapping_further old new m grows has
said_stays old new says.Nothing grows has = has
said_stays old new (says.Version v) grows has = has
said_stays old new (says.Fixed f) grows has = has
said_stays old new (says.Reserved r) grows has = has
said_stays old new (says.Ideographs r) grows has = has
said_stays old new (says.LeadByte l) grows has = has
said_stays old new (says.NumericLead n) grows has = has

-- growing on
pub grows_further : (a b c : Collected) → Grows a b → Grows b c → Grows a c
grows_further a b c p q = record {
  builder = lists_further _ _ _ p.builder q.builder;
  entries = record {
    alone = λ x e h. q.entries.alone x e (p.entries.alone x e h);
    between = λ x before after e h. q.entries.between x before after e (p.entries.between x before after e h);
    no_empty = λ x h. q.entries.no_empty x (p.entries.no_empty x h);
  };
  ideographs = λ x w h. q.ideographs x w (p.ideographs x w h);
}

says_more : (lines : List (List ℕ)) (said : List Line) (line : List ℕ) (one : Line) → AllZip LineSays lines said → LineSays line one
    → AllZip LineSays (lines ++ line ∷ []) (said ++ one ∷ [])
says_more [] [] line one all is = (is, tt)
says_more [] (x ∷ xs) line one all is = absurd all
says_more (l ∷ ls) [] line one all is = absurd all
says_more (l ∷ ls) (x ∷ xs) line one all is = (all.0, says_more ls xs line one all.1 is)

has_more : (old new : Collected) (said : List Line) (one : Line) → Grows old new → AllByRecursion (HasSaid old) said → HasSaid new one
    → AllByRecursion (HasSaid new) (said ++ one ∷ [])
has_more old new [] one grows all has = (has, tt)
has_more old new (x ∷ xs) one grows all has = (said_stays old new x grows all.0, has_more old new xs one grows all.1 has)

neither : (a b : Bool) → (a || (b || false)) ≡ false → (a ≡ false) × (b ≡ false)
neither true b h = cc
neither false true h = cc
neither false false h = (refl, refl)

-- characters that no line maps, and not one more
maps_more : (old new : Collected) (said : List Line) (one : Line) → MapsOnly old said → KeepsUnmapped old new one → MapsOnly new (said ++ one ∷ [])
maps_more old new said one only kept x none =
    let both = neither (list_any (maps_first x) said) (maps_first x one) (sym (list_any-append (maps_first x) said (one ∷ [])) ∙ none) in
    kept x both.1 (only x both.0)

-- one mapping keeps the entries of other characters
pub kept_by_mapping : (plain new_plain : Plain) (around new_around : Around) (m : Mapping) (said : Line) → said ≡ says.Mapping m
    → KeepsOthers plain around new_plain new_around m.first
    → (x : ℕ) → maps_first x said ≡ false → HasNoEntry plain around x → HasNoEntry new_plain new_around x
kept_by_mapping plain new_plain around new_around m said is others x none h =
    let other : (m.first == x) ≡ false = subst (λ s. maps_first x s ≡ false) is none in
    record { alone = others.alone x other ∙ h.alone; between = others.between x other ∙ h.between }

-- the ideographs keep all
pub kept_by_ideographs : (plain new_plain : Plain) (around new_around : Around) (said : Line) → (new_plain ≡ plain) × (new_around ≡ around)
    → (x : ℕ) → maps_first x said ≡ false → HasNoEntry plain around x → HasNoEntry new_plain new_around x
kept_by_ideographs plain new_plain around new_around said same x none h = record {
  alone = ap (λ (e : Plain). get nat_cmp e x) same.0 ∙ h.alone;
  between = ap (λ (e : Around). get nat_cmp e x) same.1 ∙ h.between;
}

-- the lines that were taken in, and one more
pub lines_stay : (first : List CharRange) (old new : Collected) (lines : List (List ℕ)) (said : List Line) (line : List ℕ) (one : Line) → Grows old new
    → TakesLines first old lines said → LineSays line one → HasSaid new one → AddsIdeographs first old.ideographs new.ideographs one
    → AddsSpecial old.special new.special one → KeepsUnmapped old new one → AddsFacts old.facts new.facts one
    → TakesLines first new (lines ++ line ∷ []) (said ++ one ∷ [])
lines_stay first old new lines said line one grows all is has adds specials kept facts = (
  says_more lines said line one all.0 is,
  has_more old new said one grows all.1 has,
  ideographs_more first old.ideographs new.ideographs said all.2 one adds,
  specials_more old.special new.special said all.3 one specials,
  maps_more old new said one all.4 kept,
  facts_more old.facts new.facts said all.5 one facts,
)

-- one line more was counted
pub counts_more : (lines : List (List ℕ)) (line : List ℕ) (number : ℕ) → 0 < number → CountsSome number (lines ++ line ∷ [])
counts_more [] line number some = some
counts_more (l ∷ ls) line number some = some

-- whether there are lines
pub counts_none : (lines : List (List ℕ)) (number : ℕ) → CountsSome number lines → number ≡ 0 → lines ≡ []
counts_none [] number counts none = refl
counts_none (l ∷ ls) number counts none = absurd (omega arith)

pub counts_lines : (lines : List (List ℕ)) (number : ℕ) → CountsSome number lines → 0 < number → 0 < length lines
counts_lines [] number counts some = absurd (omega arith)
counts_lines (l ∷ ls) number counts some = omega arith

-- all lines of known bytes
pub takes_file : (first : List CharRange) (c : Collected) (known : Option (List ℕ)) (lines : List (List ℕ)) (said : List Line) → IfSome known (λ bytes. AreLines bytes lines)
    → TakesLines first c lines said → IfSome known (TakesFile first c)
takes_file first c None lines said are all = tt
takes_file first c (Some bytes) lines said are all = (lines, said, are, all)

-- nothing was taken in
pub grows_not : (c : Collected) → Grows c c
grows_not c = record {
  builder = lists_itself (built_data c.builder);
  entries = record { alone = λ x e h. h; between = λ x b a e h. h; no_empty = λ x h. h };
  ideographs = λ x p h. h;
}

-- whether something else failed or not
pub ok_always : {T E P : Type 0} (r : Result T E) → P → OnOk r P
ok_always (Ok x) p = p
ok_always (Err e) p = tt

-- a mapping that isn't of one character alone
pub not_plain : (prefix suffix : List ℕ) → (length prefix == 0 && length suffix == 0) ≡ false
    → (bytes_eq (reverse prefix) [] && bytes_eq suffix []) ≡ false
not_plain prefix suffix h =
    ap (λ t. t && bytes_eq suffix []) (empty_test (reverse prefix) ∙ ap (λ n. n == 0) (length-reverse prefix))
    ∙ ap (λ t. length prefix == 0 && t) (empty_test suffix) ∙ h where
      empty_test : (xs : List ℕ) → bytes_eq xs [] ≡ (length xs == 0)
      empty_test [] = refl
      empty_test (x ∷ xs) = sym (not_zero (length xs)) where
        not_zero : (n : ℕ) → (suc n == 0) ≡ false
        not_zero n = grind (arith, nat_tests)
