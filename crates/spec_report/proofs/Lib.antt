pub mod NoWorkload
