-- What an output holds that is watched.
use Rattle.std.specs.Prelude.{ℕ, List, Option}
use Rattle.program_files.specs.declared.watched_output.WatchedOutput.{WatchedOutput}

-- what the output holds
abbrev pub watched_contents : {W : Type 0} → (W → Option (List ℕ)) → WatchedOutput W → Option (List ℕ)
watched_contents contents w = contents w.output
