pub mod ListLemmas
mod FilingLemmas
mod TableLemmas
