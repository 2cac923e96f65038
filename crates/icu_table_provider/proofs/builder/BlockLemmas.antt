-- Blocks of values: one that is found, one that is added, and a table as it grows block by block.
use Rattle.std.proofs.Common.{◌≡◌, ◌≢◌, ℕ, ◌+◌, ◌*◌, ◌/◌, ◌%◌, ◌<◌, ◌≤◌, ◌++◌, ◌∷◌, [], List, length, get_or, take, drop, refl, sym, arith, ◌∙◌, ap, subst, inl, inr, length-append, below_more}
use Rattle.std.proofs.Math.ListN.{get_or-append}
use Rattle.std.proofs.Math.Seq.{get_or-append_seam, drop-append_seam, take-length}
use Rattle.std.proofs.lemmas.List.{get_or-append-add}
use Rattle.std.proofs.lemmas.List.Elements.{All-from_get_or}
use Rattle.std.proofs.lemmas.Bool.{cases_lt}
use Rattle.std.proofs.lemmas.Grind.{common_steps}
use Rattle.icu_table_data.specs.CodePointTables.{IsCodePointTable, stored_value}
use Rattle.icu_table_provider.specs.builder.Blocks.{block_at, HasDistinctBlocks}
use Rattle.icu_table_provider.specs.builder.inner.AddedBlocks.{HoldsBlock}
use Rattle.icu_table_provider.proofs.builder.AddedMappingLemmas.{part_of_longer}

-- a member of a part of a list
pub part_at : (xs : List ℕ) (start count i d : ℕ) → i < count → start + i < length xs → get_or (take count (drop start xs)) i 0 ≡ get_or xs (start + i) d
part_at xs start count i d h inside = grind (arith, common_steps)

-- a block that is there
pub found_block : (values block : List ℕ) (n : ℕ) → length values % 64 ≡ 0 → 64 * n + 64 ≤ length values → block_at values n ≡ block → HoldsBlock values values block n
found_block values block n whole inside is = record {
  kept = λ i h. refl;
  longer = omega arith;
  at_most_one = omega arith;
  whole = whole;
  inside = inside;
  entries = λ i h. sym (part_at values (64 * n) 64 i 0 h (omega arith)) ∙ ap (λ (xs : List ℕ). get_or xs i 0) is;
  distinct = λ apart. apart;
}

-- a block among those before the end
block_before : (values block : List ℕ) (m : ℕ) → 64 * m + 64 ≤ length values → block_at (values ++ block) m ≡ block_at values m
block_before values block m h = part_of_longer values block (64 * m) 64 h

-- and the one at the end
block_there : (values block : List ℕ) (n : ℕ) → length block ≡ 64 → length values ≡ 64 * n → block_at (values ++ block) n ≡ block
block_there values block n len start =
    ap (λ s. take 64 (drop s (values ++ block))) (sym start)
    ∙ ap (take 64) (drop-append_seam values block)
    ∙ ap (λ k. take k block) (sym len) ∙ take-length block

more_distinct : (values block : List ℕ) (n : ℕ) → length block ≡ 64 → length values ≡ 64 * n
    → ((k : ℕ) → 64 * k + 64 ≤ length values → block_at values k ≢ block) → HasDistinctBlocks values → HasDistinctBlocks (values ++ block)
more_distinct values block n len start new apart i j less inside =
    let total : length (values ++ block) ≡ length values + 64 = length-append values block ∙ ap (λ k. length values + k) len in
    let before : block_at (values ++ block) i ≡ block_at values i = block_before values block i (omega arith) in
    elim (cases_lt j n) [
      | inl old ↦ λ same. apart i j less (omega arith) (sym before ∙ same ∙ block_before values block j (omega arith))
      | inr last ↦
          let here : j ≡ n = omega arith in
          λ same. new i (omega arith) (sym before ∙ same ∙ ap (block_at (values ++ block)) here ∙ block_there values block n len start)
    ]

-- a block that is added
pub added_block : (values block : List ℕ) (n : ℕ) → length values % 64 ≡ 0 → length block ≡ 64 → n ≡ length values / 64
    → ((k : ℕ) → 64 * k + 64 ≤ length values → block_at values k ≢ block) → HoldsBlock values (values ++ block) block n
added_block values block n whole len is new =
    let total : length (values ++ block) ≡ length values + 64 = length-append values block ∙ ap (λ k. length values + k) len in
    let start : length values ≡ 64 * n = omega arith in
    record {
      kept = λ i h. get_or-append values block 0 i h;
      longer = omega arith;
      at_most_one = omega arith;
      whole = omega arith;
      inside = omega arith;
      entries = λ i h. ap (λ s. get_or (values ++ block) (s + i) 0) (sym start) ∙ get_or-append-add values block i 0;
      distinct = more_distinct values block n len start new;
    }

-- the blocks of the first `count` times 64 entries are there
pub record IsBuilt (entries blocks values : List ℕ) (count : ℕ) : Type 0 where
  pub block_count : length blocks ≡ count
  pub whole : length values % 64 ≡ 0
  pub few : length values ≤ 64 * count
  pub inside : (k : ℕ) → k < count → 64 * get_or blocks k 0 + 64 ≤ length values
  pub at : (k : ℕ) → k < count → (i : ℕ) → i < 64 → get_or values (64 * get_or blocks k 0 + i) 0 ≡ get_or entries (64 * k + i) 0
  pub distinct : HasDistinctBlocks values

pub IsBuilt-none : (entries blocks values : List ℕ) → blocks ≡ [] → values ≡ [] → IsBuilt entries blocks values 0
IsBuilt-none entries blocks values no_blocks no_values =
    let none : length values ≡ 0 = ap length no_values in
    record {
      block_count = ap length no_blocks;
      whole = omega arith;
      few = omega arith;
      inside = λ k h. absurd (omega arith);
      at = λ k h i less. absurd (omega arith);
      distinct = λ m n less inside. absurd (omega arith);
    }

-- one block more
pub IsBuilt-more : (entries blocks values new : List ℕ) (count block : ℕ) → 64 * count + 64 ≤ length entries → IsBuilt entries blocks values count
    → HoldsBlock values new (take 64 (drop (64 * count) entries)) block → IsBuilt entries (blocks ++ block ∷ []) new (count + 1)
IsBuilt-more entries blocks values new count block room built holds =
    let number_before : (k : ℕ) → k < count → get_or (blocks ++ block ∷ []) k 0 ≡ get_or blocks k 0
    = λ k h. get_or-append blocks (block ∷ []) 0 k (let n = built.block_count in omega arith) in
    let number_here : get_or (blocks ++ block ∷ []) count 0 ≡ block
    = subst (λ n. get_or (blocks ++ block ∷ []) n 0 ≡ block) built.block_count (get_or-append_seam blocks block [] 0) in
    record {
      block_count = length-append blocks (block ∷ []) ∙ ap (λ n. n + 1) built.block_count;
      whole = holds.whole;
      few = let a = built.few in let b = holds.at_most_one in omega arith;
      inside = below_more _ _
          (λ k h. let n = number_before k h in let a = built.inside k h in let b = holds.longer in omega arith)
          (let n = number_here in let a = holds.inside in omega arith);
      at = below_more _ _
          (λ k h i less.
          let a = built.inside k h in
          ap (λ n. get_or new (64 * n + i) 0) (number_before k h)
          ∙ holds.kept (64 * get_or blocks k 0 + i) (omega arith)
          ∙ built.at k h i less)
          (λ i less. ap (λ n. get_or new (64 * n + i) 0) number_here ∙ holds.entries i less ∙ part_at entries (64 * count) 64 i 0 less (omega arith));
      distinct = holds.distinct built.distinct;
    }

-- a table whose blocks are all there
pub built_table : (entries blocks values : List ℕ) (count : ℕ) → IsBuilt entries blocks values count → count ≡ 17408 → IsCodePointTable blocks values
built_table entries blocks values count built all = record {
  whole_blocks = record { count = built.block_count ∙ all; whole = built.whole };
  inside = All-from_get_or (λ b. 64 * b + 64 ≤ length values) blocks 0
      (λ i h. built.inside i (let n = built.block_count in omega arith));
}

in_range : (xs : List ℕ) (k d : ℕ) → k < length xs → get_or xs k 0 ≡ get_or xs k d
in_range xs k d h = grind (arith, common_steps)

-- and what it says of each code point
pub built_value : (entries blocks values : List ℕ) (count end : ℕ) → IsBuilt entries blocks values count → end ≡ 64 * count → length entries ≡ end
    → (c d : ℕ) → c < end → stored_value blocks values c ≡ get_or entries c d
built_value entries blocks values count end built is long c d below =
    let whole : 64 * (c / 64) + c % 64 ≡ c = omega arith in
    built.at (c / 64) (omega arith) (c % 64) (omega arith)
    ∙ ap (λ k. get_or entries k 0) whole ∙ in_range entries c d (omega arith)
