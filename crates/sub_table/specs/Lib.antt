pub mod View
pub mod Tables
pub mod Answers
pub mod Lengths
pub mod Telling
pub mod Said
