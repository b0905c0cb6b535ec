mod ChainLemmas
mod LevelLemmas
mod StepLemmas
