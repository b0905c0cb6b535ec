mod CallLemmas
pub mod KeepLemmas
mod LetterLemmas
pub mod PieceLemmas
mod WriteLemmas
