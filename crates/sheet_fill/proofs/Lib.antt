mod EdgeRowLemmas
mod EndLemmas
mod FillLemmas
mod FillRowLemmas
pub mod FillTextLemmas
mod FilledPairs
mod FormulaLemmas
mod LineTexts
mod MovedLemmas
mod OtherLemmas
mod PairLemmas
mod ReadBackLemmas
mod RunLemmas
mod ScriptLemmas
mod ShapeLemmas
