pub mod HeadView
pub mod Reading
pub mod Scanning
pub mod ReaderView
