pub mod Asking
pub mod Ends
pub mod Noted
pub mod Trees
