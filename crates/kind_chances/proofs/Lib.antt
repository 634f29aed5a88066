pub mod ClassesTold
