pub mod PlaceNames
pub mod Named
pub mod NameTable
pub mod Laws
