-- What an entry matches of a text: prefixes (UTS #35 part 5, "Context-Sensitive Mappings"), then contractions, also of
-- marks that don't follow directly (UTS #10, "Produce Collation Element Arrays").
use Rattle.std.specs.Prelude.{ℕ, Bool, nat_le, List, [], ◌∷◌, ◌++◌, Some, None, if◌then◌else◌, drop, length}
use Rattle.std.specs.List.{list_any}
use Rattle.ucd_normal.specs.CanonicalCombiningClass.{canonical_combining_class as class_of}
use Rattle.unicode_normalization.specs.Order.{is_starter}
use Rattle.icu_table_entries.specs.declared.entry.EntryKind.TheVariants.{Prefix, Contraction}
use Rattle.icu_table_entries.specs.Entries.{kind_of}
use Rattle.icu_table_data.specs.Data.{Mapping, Context, Data, HomedEntry, homed, context_of, mapping_entry, longest_mapping}

-- the entry that a match comes to, the characters that it consumes after its first, and the text that it leaves
pub record Match : Type 0 where
  pub entry : ℕ
  pub suffix : List ℕ
  pub rest : List ℕ

-- a prefix entry becomes that of the longest mapping that begins the context, nearest character first, or the default
-- (UTS #35 part 5, "Context-Sensitive Mappings")
unfoldable pub after_prefix : HomedEntry → List ℕ → ℕ
after_prefix h before =
    let context = context_of h in
    let chosen : ℕ = elim (longest_mapping context.mappings before) [ Some mapping ↦ mapping.entry | None ↦ context.default ] in
    elim (kind_of h.entry) [ Prefix ↦ chosen | _ ↦ h.entry ]

-- a mark is blocked by one that was passed over and whose combining class isn't below its own (UTS #10, "Produce
-- Collation Element Arrays")
unfoldable pub is_blocked : List ℕ → ℕ → Bool
is_blocked passed m = list_any (λ p. nat_le (class_of m) (class_of p)) passed

-- Each mark up to the next starter in turn joins the suffix, where it isn't blocked and the suffix with it is a
-- mapping; else it is passed over (UTS #10, "Produce Collation Element Arrays").
unfoldable pub with_marks : List Mapping → ℕ → List ℕ → List ℕ → List ℕ → Match
with_marks mappings entry suffix passed [] = record { entry = entry; suffix = suffix; rest = passed }
with_marks mappings entry suffix passed (m ∷ ms) =
    let ended : Match = record { entry = entry; suffix = suffix; rest = passed ++ m ∷ ms } in
    let passed_over = with_marks mappings entry suffix (passed ++ m ∷ []) ms in
    let tried : Match = elim (mapping_entry mappings (suffix ++ m ∷ [])) [
      | Some joined ↦ with_marks mappings joined (suffix ++ m ∷ []) passed ms
      | None ↦ passed_over
    ] in
    if is_starter m then ended else if is_blocked passed m then passed_over else tried

-- the longest mapping that begins the text, or the default, and then the marks that join it
unfoldable pub contracted : Context → List ℕ → Match
contracted context text =
    elim (longest_mapping context.mappings text) [
      | Some mapping ↦ with_marks context.mappings mapping.entry mapping.chars [] (drop (length mapping.chars) text)
      | None ↦ with_marks context.mappings context.default [] [] text
    ]

-- the match of an entry before a text, once its prefix is decided
unfoldable pub match_from : Data → ℕ → List ℕ → Match
match_from home entry text =
    let alone : Match = record { entry = entry; suffix = []; rest = text } in
    elim (kind_of entry) [ Contraction ↦ contracted (context_of (homed home entry)) text | _ ↦ alone ]

-- the match of an entry, after the characters that were consumed, nearest first, and before a text
abbrev pub match_of : HomedEntry → List ℕ → List ℕ → Match
match_of h before text = match_from h.home (after_prefix h before) text
