mod ItemLemmas
mod LevelItemLemmas
