pub mod BegunLaws
