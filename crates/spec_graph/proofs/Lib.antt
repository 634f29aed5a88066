pub mod FirstWalk
