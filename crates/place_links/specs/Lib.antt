pub mod LineLinks
