pub mod FormsTold
