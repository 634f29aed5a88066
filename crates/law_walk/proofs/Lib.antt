pub mod GreedyFirst
