pub mod Distribution
