mod PairLemmas
mod RunLemmas
