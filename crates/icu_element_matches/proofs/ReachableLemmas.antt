-- A match leads from a reachable entry to a reachable entry.
use Rattle.std.proofs.Common.{ℕ, Bool, true, false, List, [], ◌∷◌, ◌++◌, length, drop, Option, Some, None, if◌then◌else◌, map, flat_map, IfSome, zero, suc}
use Rattle.std.specs.List.{AllByRecursion}
use Rattle.std.specs.Prelude.{bytes_eq}
use Rattle.unicode_normalization.specs.Order.{is_starter}
use Rattle.icu_table_entries.specs.declared.entry.EntryKind.{EntryKind}
use Rattle.icu_table_entries.specs.declared.entry.EntryKind.TheVariants.{Prefix, Contraction}
use Rattle.icu_table_entries.specs.Entries.{kind_of}
use Rattle.icu_table_data.specs.Data.{Mapping, Context, Data, HomedEntry, homed, context_of, mapping_entry, better, longest_from, longest_mapping}
use Rattle.icu_table_data.specs.Reachable.{context_entries, named_entries, reachable_digit, reachable_contraction, reachable_from}
use Rattle.icu_table_data.proofs.ListLemmas.{all_append, all_first, all_second}
use Rattle.icu_element_matches.proofs.ChoiceLemmas.{either, maybe}
use Rattle.icu_element_matches.specs.Matches.{Match, after_prefix, is_blocked, with_marks, contracted, match_from, match_of}

-- ---- lists

pub all_drop : {X : Type 0} (P : X → Type 0) (n : ℕ) (xs : List X) → AllByRecursion P xs → AllByRecursion P (drop n xs)
all_drop P zero xs p = p
all_drop P (suc n) [] p = tt
all_drop P (suc n) (x ∷ xs) p = all_drop P n xs p.1

-- what holds of all that a list's members lead to, member by member
all_each : {X Y : Type 0} (P : Y → Type 0) (f : X → List Y) (xs : List X) → AllByRecursion P (flat_map f xs) → AllByRecursion (λ x. AllByRecursion P (f x)) xs
all_each P f [] p = tt
all_each P f (x ∷ xs) p = (all_first P (f x) (flat_map f xs) p, all_each P f xs (all_second P (f x) (flat_map f xs) p))

-- ---- mappings: what holds of each mapping's entry holds of the one that is found

abbrev MappingsHold : (ℕ → Type 0) → List Mapping → Type 0
MappingsHold P mappings = AllByRecursion P (map (λ (r : Mapping). r.entry) mappings)

better_if : (P : ℕ → Type 0) (b : Bool) (best : Option Mapping) (mapping : Mapping) → IfSome best (λ (r : Mapping). P r.entry) → P mapping.entry → IfSome (if b then Some mapping else best) (λ (r : Mapping). P r.entry)
better_if P true best mapping h p = p
better_if P false best mapping h p = h

longest_from-holds : (P : ℕ → Type 0) (best : Option Mapping) (mappings : List Mapping) (text : List ℕ) → IfSome best (λ (r : Mapping). P r.entry) → MappingsHold P mappings → IfSome (longest_from best mappings text) (λ (r : Mapping). P r.entry)
unfolding longest_from
longest_from-holds P best [] text h p = h
longest_from-holds P best (mapping ∷ mappings) text h p =
    longest_from-holds P (better best mapping text) mappings text (better_if P _ best mapping h p.0) p.1

some_if : (P : ℕ → Type 0) (b : Bool) (e : ℕ) (o : Option ℕ) → P e → IfSome o P → IfSome (if b then Some e else o) P
some_if P true e o p h = p
some_if P false e o p h = h

mapping_entry-holds : (P : ℕ → Type 0) (mappings : List Mapping) (chars : List ℕ) → MappingsHold P mappings → IfSome (mapping_entry mappings chars) P
unfolding mapping_entry
mapping_entry-holds P [] chars p = tt
mapping_entry-holds P (mapping ∷ mappings) chars p = some_if P (bytes_eq mapping.chars chars) mapping.entry _ p.0 (mapping_entry-holds P mappings chars p.1)

-- ---- matches

-- the entry has P, and each character that is left has R
pub record Holds (P R : ℕ → Type 0) (m : Match) : Type 0 where
  pub entry : P m.entry
  pub rest : AllByRecursion R m.rest

module _ (P R : ℕ → Type 0) (mappings : List Mapping) (hold : MappingsHold P mappings) where
  with_marks-holds : (entry : ℕ) (suffix passed text : List ℕ) → P entry → AllByRecursion R passed → AllByRecursion R text → Holds P R (with_marks mappings entry suffix passed text)
  unfolding with_marks
  with_marks-holds entry suffix passed [] e p t = record { entry = e; rest = p }
  with_marks-holds entry suffix passed (m ∷ ms) e p t =
      let over = with_marks-holds entry suffix (passed ++ m ∷ []) ms e (all_append R passed (m ∷ []) p (t.0, tt)) t.1 in
      either (Holds P R) (is_starter m) _ _ (record { entry = e; rest = all_append R passed (m ∷ ms) p t })
      (either (Holds P R) (is_blocked passed m) _ _ over
      (maybe P (Holds P R) (mapping_entry mappings (suffix ++ m ∷ [])) _ _ (mapping_entry-holds P mappings _ hold)
      (λ joined j. with_marks-holds joined (suffix ++ m ∷ []) passed ms j p t.1) over))

contracted-holds : (P R : ℕ → Type 0) (context : Context) (text : List ℕ) → AllByRecursion P (context_entries context) → AllByRecursion R text → Holds P R (contracted context text)
unfolding contracted
contracted-holds P R context text p t =
    maybe (λ (r : Mapping). P r.entry) (Holds P R) (longest_mapping context.mappings text) _ _ (longest_from-holds P None context.mappings text tt p.1)
    (λ mapping r. with_marks-holds P R context.mappings p.1 mapping.entry mapping.chars [] (drop (length mapping.chars) text) r tt (all_drop R (length mapping.chars) text t))
    (with_marks-holds P R context.mappings p.1 context.default [] [] text p.0 tt t)

-- ---- kinds
at_prefix : (T : List ℕ → Type 0) (C : ℕ → Type 0) (k : EntryKind) (x y : List ℕ) (a b : ℕ) → (T x → C a) → (T y → C b) → T (elim k as (λ _. List ℕ) [ Prefix ↦ x | _ ↦ y ]) → C (elim k as (λ _. ℕ) [ Prefix ↦ a | _ ↦ b ])
at_prefix T C Prefix x y a b f g t = f t
at_prefix T C _ x y a b f g t = g t

at_contraction : (T : List ℕ → Type 0) (C : Match → Type 0) (k : EntryKind) (x y : List ℕ) (a b : Match) → (T x → C a) → (T y → C b) → T (elim k as (λ _. List ℕ) [ Contraction ↦ x | _ ↦ y ]) → C (elim k as (λ _. Match) [ Contraction ↦ a | _ ↦ b ])
at_contraction T C Contraction x y a b f g t = f t
at_contraction T C _ x y a b f g t = g t

-- what holds from one entry and from each that a mapping leads to
choose_mapping : (Q : ℕ → Type 0) (o : Option Mapping) (d : ℕ) → IfSome o (λ (r : Mapping). Q r.entry) → Q d → Q (elim o as (λ _. ℕ) [ Some r ↦ r.entry | None ↦ d ])
choose_mapping Q (Some r) d h p = h
choose_mapping Q None d h p = p

-- the entry that a prefix leads to
pub after_prefix-reachable : (P : ℕ → Type 0) (h : HomedEntry) (before : List ℕ) → AllByRecursion P (reachable_from h.home h.entry) → AllByRecursion P (reachable_contraction h.home (after_prefix h before))
unfolding reachable_from after_prefix
after_prefix-reachable P h before reachable =
    let Q : ℕ → Type 0 = λ e. AllByRecursion P (reachable_contraction h.home e) in
    at_prefix (AllByRecursion P) Q (kind_of h.entry) _ _ _ _
    (λ all.
    let each = all_each P (reachable_contraction h.home) (named_entries h.home h.entry) all.1 in
    choose_mapping Q (longest_mapping (context_of h).mappings before) _ (longest_from-holds Q None (context_of h).mappings before tt each.1) each.0)
    (λ all. all) reachable

match_from-reachable : (P R : ℕ → Type 0) (home : Data) (e : ℕ) (text : List ℕ) → AllByRecursion P (reachable_contraction home e) → AllByRecursion R text → Holds (λ e. AllByRecursion P (reachable_digit home e)) R (match_from home e text)
unfolding reachable_contraction match_from
match_from-reachable P R home e text reachable all =
    let Q : ℕ → Type 0 = λ e. AllByRecursion P (reachable_digit home e) in
    let alone : Match = record { entry = e; suffix = []; rest = text } in
    at_contraction (AllByRecursion P) (Holds Q R) (kind_of e) _ _ (contracted (context_of (homed home e)) text) alone
    (λ reachable. contracted-holds Q R (context_of (homed home e)) text (all_each P (reachable_digit home) (named_entries home e) reachable.1) all)
    (λ reachable. record { entry = reachable; rest = all }) reachable

-- a match leads to a reachable entry, and leaves characters of the text
pub match_of-reachable : (P R : ℕ → Type 0) (h : HomedEntry) (before text : List ℕ) → AllByRecursion P (reachable_from h.home h.entry) → AllByRecursion R text → Holds (λ e. AllByRecursion P (reachable_digit h.home e)) R (match_of h before text)
match_of-reachable P R h before text reachable all =
    match_from-reachable P R h.home (after_prefix h before) text (after_prefix-reachable P h before reachable) all
