-- The elements of a text by the mappings of characters as they are while rules are read (UTS #10, "Produce Collation
-- Element Arrays"; UTS #35 part 5, "Context-Sensitive Mappings").
use Rattle.std.specs.Prelude.{ℕ, Bool, not, ◌&&◌, ◌==◌, nat_le, nat_lt, nat_eq, bytes_eq, if◌then◌else◌, List, [], ◌∷◌, ◌++◌, map, filter, reverse, length, take, drop, Option, Some, None}
use Rattle.std.specs.List.{list_any, starts_with}
use Rattle.ucd_normal.specs.CanonicalCombiningClass.{canonical_combining_class as class_of}
use Rattle.unicode_normalization.specs.Order.{is_starter}
use Rattle.icu_rule_meaning.specs.declared.symbolic.SymbolicElement.{SymbolicElement}
use Rattle.icu_rule_meaning.specs.SymbolicElements.{of_root}
use Rattle.icu_rule_meaning.specs.TailoredRoots.{RootMapping, Root}

-- the elements of a character behind a prefix, nearest character first, with the suffix after it
pub record SymbolicMapping : Type 0 where
  pub prefix : List ℕ
  pub suffix : List ℕ
  pub elements : List SymbolicElement

-- the mappings of each character
abbrev pub SymbolicMappings : Type 0
SymbolicMappings = ℕ → List SymbolicMapping

-- a mapping of the root
abbrev pub mapping_of_root : RootMapping → SymbolicMapping
mapping_of_root m = record { prefix = m.prefix; suffix = m.suffix; elements = map of_root m.elements }

-- the mappings of the root
abbrev pub root_mappings : Root → SymbolicMappings
root_mappings root c = map mapping_of_root (root.mappings c)

-- the mapping is of this prefix
abbrev pub stands_after_prefix : List ℕ → SymbolicMapping → Bool
stands_after_prefix prefix m = bytes_eq m.prefix prefix

-- the mapping is of this prefix and this suffix
abbrev pub is_mapping_of : List ℕ → List ℕ → SymbolicMapping → Bool
is_mapping_of prefix suffix m = bytes_eq m.prefix prefix && bytes_eq m.suffix suffix

-- the mapping is of the character alone
abbrev pub has_no_context : SymbolicMapping → Bool
has_no_context m = is_mapping_of [] [] m

-- mappings with another one in the place of that of its prefix and suffix
abbrev pub with_mapping : SymbolicMapping → List SymbolicMapping → List SymbolicMapping
with_mapping new mappings = new ∷ filter (λ m. not (is_mapping_of new.prefix new.suffix m)) mappings

-- the mappings of a character with those of another one changed
abbrev pub with_mappings : SymbolicMappings → ℕ → List SymbolicMapping → SymbolicMappings
with_mappings mappings c changed = λ other. if other == c then changed else mappings other

-- the beginnings of a list, the longest first
abbrev pub beginnings : List ℕ → List (List ℕ)
beginnings [] = [] ∷ []
beginnings (c ∷ cs) = map (λ more. c ∷ more) (beginnings cs) ++ [] ∷ []

-- one of the mappings has a suffix that begins this one's
abbrev pub begin_suffix : List SymbolicMapping → SymbolicMapping → Bool
begin_suffix mappings m = list_any (λ (own : SymbolicMapping). starts_with nat_eq m.suffix own.suffix) mappings

-- The mappings that count behind a context, of which these are the beginnings: those of the longest prefix that has
-- any. Where none of them is without a suffix, those of the shorter prefixes count too, but for suffixes that begin
-- with one of theirs.
unfoldable pub mappings_behind : List SymbolicMapping → List (List ℕ) → List SymbolicMapping
mappings_behind mappings [] = []
mappings_behind mappings (prefix ∷ shorter) =
    let own = filter (stands_after_prefix prefix) mappings in
    let further = mappings_behind mappings shorter in
    if list_any (λ m. bytes_eq m.suffix []) own then own else own ++ filter (λ m. not (begin_suffix own m)) further

-- the elements of a match, the characters that it consumes after its first, and the text that it leaves
pub record SymbolicMatch : Type 0 where
  pub elements : List SymbolicElement
  pub suffix : List ℕ
  pub rest : List ℕ

-- the mapping, where its suffix begins the text and is longer than the best one's
abbrev pub longer_mapping : List ℕ → Option SymbolicMapping → SymbolicMapping → Option SymbolicMapping
longer_mapping text None m = if starts_with nat_eq text m.suffix then Some m else None
longer_mapping text (Some best) m =
    if starts_with nat_eq text m.suffix && nat_lt (length best.suffix) (length m.suffix) then Some m else Some best

-- the mapping with the longest suffix that begins the text, and the best one before them
unfoldable pub longest_suffix : Option SymbolicMapping → List SymbolicMapping → List ℕ → Option SymbolicMapping
longest_suffix best [] text = best
longest_suffix best (m ∷ mappings) text = longest_suffix (longer_mapping text best m) mappings text

-- the mapping with exactly this suffix
abbrev pub mapping_with : List SymbolicMapping → List ℕ → Option SymbolicMapping
mapping_with [] suffix = None
mapping_with (m ∷ mappings) suffix = if bytes_eq m.suffix suffix then Some m else mapping_with mappings suffix

-- a mark is blocked by one that was passed over and whose combining class isn't below its own (UTS #10, "Produce
-- Collation Element Arrays")
abbrev pub is_blocked_by : List ℕ → ℕ → Bool
is_blocked_by passed m = list_any (λ p. nat_le (class_of m) (class_of p)) passed

-- Each mark up to the next starter in turn joins the suffix, where it isn't blocked and the suffix with it has a
-- mapping; else it is passed over (UTS #10, "Produce Collation Element Arrays").
unfoldable pub joined_marks : List SymbolicMapping → SymbolicMapping → List ℕ → List ℕ → SymbolicMatch
joined_marks mappings found passed [] = record { elements = found.elements; suffix = found.suffix; rest = passed }
joined_marks mappings found passed (m ∷ text) =
    let ended : SymbolicMatch =
    record { elements = found.elements; suffix = found.suffix; rest = passed ++ m ∷ text } in
    let passed_over = joined_marks mappings found (passed ++ m ∷ []) text in
    let tried : SymbolicMatch = elim (mapping_with mappings (found.suffix ++ m ∷ [])) [
      | Some longer ↦ joined_marks mappings longer passed text
      | None ↦ passed_over
    ] in
    if is_starter m then ended else if is_blocked_by passed m then passed_over else tried

-- the match of mappings before a text, which is empty where none has a suffix that begins the text
abbrev pub match_by : List SymbolicMapping → List ℕ → SymbolicMatch
match_by mappings text =
    let none : SymbolicMatch = record { elements = []; suffix = []; rest = text } in
    elim (longest_suffix None mappings text) [
      | Some found ↦ joined_marks mappings found [] (drop (length found.suffix) text)
      | None ↦ none
    ]

-- the match of a character between a context, nearest character first, and a text
abbrev pub symbolic_match : SymbolicMappings → List ℕ → ℕ → List ℕ → SymbolicMatch
symbolic_match mappings before c text = match_by (mappings_behind (mappings c) (beginnings before)) text

-- the context behind a match: its last two characters, nearest first
abbrev pub context_behind : List ℕ → ℕ → SymbolicMatch → List ℕ
context_behind before c m = take 2 (reverse (c ∷ m.suffix) ++ before)

-- The elements of what is left of a text. The first list is one at least as long as that, to go by.
unfoldable pub symbolic_along : List ℕ → SymbolicMappings → List ℕ → List ℕ → List SymbolicElement
symbolic_along along mappings before [] = []
symbolic_along [] mappings before (c ∷ text) = []
symbolic_along (_ ∷ along) mappings before (c ∷ text) =
    let m = symbolic_match mappings before c text in
    m.elements ++ symbolic_along along mappings (context_behind before c m) m.rest

-- the elements of a decomposed text
abbrev pub symbolic_elements : SymbolicMappings → List ℕ → List SymbolicElement
symbolic_elements mappings text = symbolic_along text mappings [] text
