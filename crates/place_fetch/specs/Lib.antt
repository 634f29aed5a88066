pub mod FetchLaws
