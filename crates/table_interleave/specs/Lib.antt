pub mod Interleaved
