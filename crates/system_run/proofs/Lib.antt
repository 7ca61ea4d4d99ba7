pub mod NamedCounts
