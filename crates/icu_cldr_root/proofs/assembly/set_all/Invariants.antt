use Rattle.std.proofs.Common.{◌≡◌, ℕ}
use Rattle.icu_table_provider.specs.builder.Building.{built_data}
use Rattle.icu_cldr_root.specs.inner.RootValues.{SameLists, last_given}
use Rattle.icu_cldr_root.proofs.assembly.set_all.Given as goal

-- what is left to come decides as all of it did at first
abbrev pub invariant-loop-c : goal.invariant-loop-c
invariant-loop-c l = record {
  lists : SameLists (built_data l.fn.builder) (built_data l.builder);
  entries : (x : ℕ) → last_given l.c-iterator x ((built_data l.builder).value x) ≡ last_given l.entries.entries x ((built_data l.fn.builder).value x);
}
