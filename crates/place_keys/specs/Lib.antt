pub mod LineKeys
