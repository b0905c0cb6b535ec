mod OfficeLemmas
mod OpenedLemmas
mod OpeningLemmas
