pub mod WantedCounts
