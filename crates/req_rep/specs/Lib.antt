pub mod Partners
pub mod Asking
pub mod Answering
