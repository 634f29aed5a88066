pub mod LinePrograms
