pub mod PairWords
pub mod PairLaws
