pub mod OpensLaws
