-- What mappings and contexts that were appended say, and that those before them say what they said.
use Rattle.std.proofs.Common.{◌≡◌, ℕ, ◌+◌, ◌-◌, ◌<◌, ◌≤◌, ◌++◌, ◌∷◌, [], List, length, get_or, take, drop, map, refl, sym, arith, ◌∙◌, ap, append_assoc, append-nil, length-append, length-drop}
use Rattle.std.specs.Prelude.{All}
use Rattle.std.proofs.Math.Seq.{take-length, drop-append_seam}
use Rattle.std.proofs.lemmas.List.{take-append-le, drop-append-le, map-append, length-map, take_more}
use Rattle.std.proofs.lemmas.List.Elements.{All-nil, All-head, All-tail, All-push, All-take, All-drop, All-weaker}
use Rattle.icu_table_data.specs.declared.context.Context.{Context as StoredContext}
use Rattle.icu_table_data.specs.declared.context.ContextMapping.{ContextMapping}
use Rattle.icu_table_data.specs.Contexts.{HasCharsInside, HasMappingsInside, HasRangesInside, mapping_of, mappings_of, stored_context, stored_contexts}
use Rattle.icu_table_data.specs.Data.{Mapping}
use Rattle.icu_table_provider.specs.builder.inner.AddedMappings.{AddsMappings}

-- two functions that agree on each element of a list
map_agrees : {X Y : Type 0} (P : X → Type 0) (f g : X → Y) → ((x : X) → P x → f x ≡ g x) → (xs : List X) → All P xs
    → map f xs ≡ map g xs
map_agrees P f g h [] all = refl
map_agrees P f g h (x ∷ xs) all =
    ap (λ y. y ∷ map f xs) (h x (All-head P x xs all)) ∙ ap (λ ys. g x ∷ ys) (map_agrees P f g h xs (All-tail P x xs all))

-- a part of a list is the same in a longer one
pub part_of_longer : {X : Type 0} (xs more : List X) (start count : ℕ) → start + count ≤ length xs
    → take count (drop start (xs ++ more)) ≡ take count (drop start xs)
part_of_longer xs more start count h =
    let left : length (drop start xs) ≡ length xs - start = length-drop start xs in
    ap (take count) (drop-append-le start xs more (omega arith)) ∙ take-append-le count (drop start xs) more (omega arith)

-- mappings say the same over more characters
mappings_of-longer : (chars more : List ℕ) (mappings : List ContextMapping) → All (HasCharsInside (length chars)) mappings
    → mappings_of (chars ++ more) mappings ≡ mappings_of chars mappings
mappings_of-longer chars more mappings inside =
    map_agrees (HasCharsInside (length chars)) (mapping_of (chars ++ more)) (mapping_of chars) (λ mapping h.
    ap (λ cs. record { chars = cs; entry = mapping.entry }) (part_of_longer chars more mapping.chars_start mapping.chars_len h)) mappings inside

-- so do contexts over more mappings and characters
stored_contexts-longer : (contexts : List StoredContext) (mappings more_mappings : List ContextMapping) (chars more_chars : List ℕ)
    → HasRangesInside contexts mappings chars
    → stored_contexts contexts (mappings ++ more_mappings) (chars ++ more_chars) ≡ stored_contexts contexts mappings chars
stored_contexts-longer contexts mappings more_mappings chars more_chars inside =
    map_agrees (HasMappingsInside (length mappings)) (stored_context (mappings ++ more_mappings) (chars ++ more_chars)) (stored_context mappings chars) (λ x h.
    ap (λ rs. record { default = x.default; mappings = rs })
    (ap (mappings_of (chars ++ more_chars)) (part_of_longer mappings more_mappings x.mappings_start x.mappings_len h)
    ∙ mappings_of-longer chars more_chars (take x.mappings_len (drop x.mappings_start mappings))
    (All-take (HasCharsInside (length chars)) x.mappings_len (drop x.mappings_start mappings)
    (All-drop (HasCharsInside (length chars)) x.mappings_start mappings inside.chars_inside)))) contexts inside.mappings_inside

-- mappings inside some characters are inside more
inside_longer : (len more : ℕ) (mappings : List ContextMapping) → len ≤ more → All (HasCharsInside len) mappings → All (HasCharsInside more) mappings
inside_longer len more mappings h inside = All-weaker (HasCharsInside len) (HasCharsInside more) (λ mapping i. omega arith) mappings inside

pub AddsMappings-none : (mappings : List ContextMapping) (chars : List ℕ) → AddsMappings mappings chars mappings chars []
AddsMappings-none mappings chars = record {
  more_mappings = [];
  more_chars = [];
  mappings_are = sym (append-nil mappings);
  chars_are = sym (append-nil chars);
  inside = All-nil (HasCharsInside (length chars));
  says = refl;
}

pub grows_by_none : (mappings : List ContextMapping) (chars : List ℕ) → (said : List Mapping) × AddsMappings mappings chars mappings chars said
grows_by_none mappings chars = ([], AddsMappings-none mappings chars)

-- what one element more gives
pub map-take_more : {X Y : Type 0} (f : X → Y) (xs : List X) (i : ℕ) (d : X) → i < length xs
    → map f (take (i + 1) xs) ≡ map f (take i xs) ++ f (get_or xs i d) ∷ []
map-take_more f xs i d h = ap (map f) (take_more xs i d h) ∙ map-append f (take i xs) (get_or xs i d ∷ [])

-- one mapping more
pub AddsMappings-more : (mappings : List ContextMapping) (chars : List ℕ) (now : List ContextMapping) (now_chars : List ℕ) (said : List Mapping)
    (list : List ℕ) (len entry : ℕ) (new : List ContextMapping) (new_chars : List ℕ)
    → AddsMappings mappings chars now now_chars said → len ≡ length list
    → new ≡ now ++ record { chars_start = length now_chars; chars_len = len; entry = entry } ∷ [] → new_chars ≡ now_chars ++ list
    → AddsMappings mappings chars new new_chars (said ++ record { chars = list; entry = entry } ∷ [])
AddsMappings-more mappings chars now now_chars said list len entry new new_chars adds is_len new_is chars_is =
    let mapping : ContextMapping = record { chars_start = length now_chars; chars_len = len; entry = entry } in
    let total : length new_chars ≡ length now_chars + length list = ap length chars_is ∙ length-append now_chars list in
    let own : take len (drop (length now_chars) (now_chars ++ list)) ≡ list
    = ap (take len) (drop-append_seam now_chars list) ∙ ap (λ n. take n list) is_len ∙ take-length list in
    record {
      more_mappings = adds.more_mappings ++ mapping ∷ [];
      more_chars = adds.more_chars ++ list;
      mappings_are = new_is ∙ ap (λ rs. rs ++ mapping ∷ []) adds.mappings_are ∙ append_assoc mappings adds.more_mappings (mapping ∷ []);
      chars_are = chars_is ∙ ap (λ cs. cs ++ list) adds.chars_are ∙ append_assoc chars adds.more_chars list;
      inside = All-push (HasCharsInside (length new_chars)) adds.more_mappings mapping
          (inside_longer (length now_chars) (length new_chars) adds.more_mappings (omega arith) adds.inside) (omega arith);
      says = rw chars_is
          (map-append (mapping_of (now_chars ++ list)) adds.more_mappings (mapping ∷ [])
          ∙ ap (λ rs. rs ++ mapping_of (now_chars ++ list) mapping ∷ []) (mappings_of-longer now_chars list adds.more_mappings adds.inside ∙ adds.says)
          ∙ ap (λ cs. said ++ record { chars = cs; entry = entry } ∷ []) own);
    }

-- with its mappings a context says what it was given, and those before it say what they said
pub stored_contexts-added : (contexts : List StoredContext) (mappings : List ContextMapping) (chars : List ℕ) (new : List StoredContext)
    (new_mappings : List ContextMapping) (new_chars : List ℕ) (said : List Mapping) (default len : ℕ) → AddsMappings mappings chars new_mappings new_chars said
    → len ≡ length said
    → new ≡ contexts ++ record { default = default; mappings_start = length mappings; mappings_len = len } ∷ []
    → HasRangesInside contexts mappings chars
    → stored_contexts new new_mappings new_chars ≡ stored_contexts contexts mappings chars ++ record { default = default; mappings = said } ∷ []
stored_contexts-added contexts mappings chars new new_mappings new_chars said default len adds is_len new_is inside =
    let x : StoredContext = record { default = default; mappings_start = length mappings; mappings_len = len } in
    let count : length adds.more_mappings ≡ len = sym (length-map adds.more_mappings (mapping_of new_chars)) ∙ ap length adds.says ∙ sym is_len in
    let own : take len (drop (length mappings) new_mappings) ≡ adds.more_mappings
    = ap (λ rs. take len (drop (length mappings) rs)) adds.mappings_are
    ∙ ap (take len) (drop-append_seam mappings adds.more_mappings)
    ∙ ap (λ n. take n adds.more_mappings) (sym count) ∙ take-length adds.more_mappings in
    let before : stored_contexts contexts new_mappings new_chars ≡ stored_contexts contexts mappings chars
    = ap (λ rs. stored_contexts contexts rs new_chars) adds.mappings_are
    ∙ ap (λ cs. stored_contexts contexts (mappings ++ adds.more_mappings) cs) adds.chars_are
    ∙ stored_contexts-longer contexts mappings adds.more_mappings chars adds.more_chars inside in
    ap (λ xs. stored_contexts xs new_mappings new_chars) new_is
    ∙ map-append (stored_context new_mappings new_chars) contexts (x ∷ [])
    ∙ ap (λ xs. xs ++ stored_context new_mappings new_chars x ∷ []) before
    ∙ ap (λ rs. stored_contexts contexts mappings chars ++ record { default = default; mappings = rs } ∷ [])
    (ap (mappings_of new_chars) own ∙ adds.says)
